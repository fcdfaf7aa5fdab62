use Rattle.std.proofs.Common.{◌≡◌}
use Rattle.std.specs.Prelude.{map, take}
use Rattle.heap_objects.specs.Cells.{char_datum}
use Rattle.native_ops.proofs.classes.strings.values_of.Given as goal

abbrev pub invariant-loop-unit : goal.invariant-loop-unit
invariant-loop-unit l = l.values ≡ map char_datum (take l.unit-index l.units)
