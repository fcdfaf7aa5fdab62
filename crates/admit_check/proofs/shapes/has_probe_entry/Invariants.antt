-- what is left of the entries decides
use Rattle.std.proofs.Common.{◌≡◌, drop}
use Rattle.std.specs.List.{list_any}
use Rattle.admit_check.specs.Shapes.{is_probe_entry}
use Rattle.admit_check.proofs.shapes.has_probe_entry.Given as goal

abbrev pub invariant-loop-index : goal.invariant-loop-index
invariant-loop-index l = list_any (is_probe_entry l.pool) (drop l.index l.pool) ≡ list_any (is_probe_entry l.pool) l.pool
