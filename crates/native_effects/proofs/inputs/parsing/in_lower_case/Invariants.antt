use Rattle.std.proofs.Common.{◌≡◌}
use Rattle.std.specs.Prelude.{map, take}
use Rattle.native_effects.specs.Inputs.Parsing.{lower_case}
use Rattle.native_effects.proofs.inputs.parsing.in_lower_case.Given as goal

abbrev pub invariant-loop-unit : goal.invariant-loop-unit
invariant-loop-unit l = l.lowered ≡ map lower_case (take l.unit-index l.units)
