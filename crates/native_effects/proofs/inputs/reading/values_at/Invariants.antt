use Rattle.std.proofs.Common.{◌≡◌}
use Rattle.std.specs.Prelude.{take}
use Rattle.native_effects.specs.Inputs.Objects.{values_at}
use Rattle.native_effects.proofs.inputs.reading.values_at.Given as goal

abbrev pub invariant-loop-slot : goal.invariant-loop-slot
invariant-loop-slot l = l.values ≡ take l.slot (values_at l.fn.object l.fn.heap)
