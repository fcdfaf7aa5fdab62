use Rattle.std.proofs.Common.{sym, ap, ◌∙◌}
use Rattle.std.specs.Str.{bytes_eq}
use Rattle.class_index.specs.Names.{position_of}
use Rattle.heap_objects.proofs.InternLemmas.{lookup-map_keys}
use Rattle.class_index.proofs.names.Names.find.Goals as goal

pub returns : goal.returns
returns c =
    c.copied.ensures ∙ (c.get.ensures.value ∙ (sym (lookup-map_keys _ (bytes_eq c.args.units.now) c.self.inside.positions.entries) ∙ ap (position_of c.args.units.now) c.self.view_is))
