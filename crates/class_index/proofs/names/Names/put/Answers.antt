use Rattle.std.proofs.Common.{ap, ◌∙◌}
use Rattle.std.specs.Prelude.{map}
use Rattle.std.specs.Str.{bytes_eq}
use Rattle.heap_objects.proofs.InternLemmas.{map_keys-insert_entry}
use Rattle.class_index.proofs.names.Names.put.Goals as goal

pub returns : goal.returns
returns c =
    ap (map _) c.in_ok-insert.ensures.entries
    ∙ map_keys-insert_entry _ bytes_eq c.self.inside.positions c.in_ok-key.key c.args.units.now c.args.position c.args.self.now c.in_ok-key.ensures.items c.self.view_is c.requires
