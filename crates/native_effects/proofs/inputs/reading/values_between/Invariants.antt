use Rattle.std.proofs.Common.{◌≡◌, ◌-◌, drop}
use Rattle.std.specs.Prelude.{take}
use Rattle.native_effects.specs.Inputs.Objects.{values_at}
use Rattle.native_effects.proofs.inputs.reading.values_between.Given as goal

abbrev pub invariant-loop-slot : goal.invariant-loop-slot
invariant-loop-slot l = l.values ≡ take (l.slot - l.fn.from) (drop l.fn.from (values_at l.fn.object l.fn.heap))
