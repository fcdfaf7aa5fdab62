use Rattle.std.proofs.Common.{◌≡◌, ◌+◌, ◌*◌, ◌^◌, length}
use Rattle.std.specs.Prelude.{drop, ◌%◌}
use Rattle.native_effects.specs.Inputs.Texts.{units_weighted}
use Rattle.native_effects.proofs.inputs.texts.hash_of_text.Given as goal

abbrev pub invariant-loop-unit : goal.invariant-loop-unit
invariant-loop-unit l = (l.sum * 31 ^ length (drop l.unit-index l.units) + units_weighted (drop l.unit-index l.units)) % 4294967296 ≡ units_weighted l.units % 4294967296
