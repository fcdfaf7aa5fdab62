use Rattle.std.proofs.Common.{sym, ap, ◌∙◌}
use Rattle.std.specs.Str.{bytes_eq}
use Rattle.heap_objects.specs.Interning.{number_of}
use Rattle.heap_objects.proofs.InternLemmas.{lookup-map_keys}
use Rattle.heap_objects.proofs.interned.Interned.find.Goals as goal

pub returns : goal.returns
returns c =
    c.copied.ensures ∙ (c.get.ensures.value ∙ (sym (lookup-map_keys _ (bytes_eq c.args.units.now) c.self.inside.numbers.entries) ∙ ap (number_of c.args.units.now) c.self.view_is))
