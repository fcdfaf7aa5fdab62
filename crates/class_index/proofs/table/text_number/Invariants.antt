-- the number of what is left, behind what was read
use Rattle.std.proofs.Common.{◌≡◌, ◌<◌, drop}
use Rattle.class_index.specs.Buckets.{text_number}
use Rattle.class_index.proofs.table.text_number.Given as goal

abbrev pub invariant-loop-unit : goal.invariant-loop-unit
invariant-loop-unit l =
    (l.number < 65521) × (text_number l.number (drop l.unit-index l.units) ≡ text_number l.fn.number l.units)
