use Rattle.std.proofs.Common.{◌≡◌, ◌≤◌, drop}
use Rattle.native_effects.specs.Inputs.Parsing.{read_digits}
use Rattle.native_effects.proofs.inputs.parsing.digits_up_to.Given as goal

abbrev pub invariant-loop-unit : goal.invariant-loop-unit
invariant-loop-unit l = (l.number ≤ l.fn.greatest) × (read_digits l.number (drop l.unit-index l.units) ≡ read_digits 0 l.units)
