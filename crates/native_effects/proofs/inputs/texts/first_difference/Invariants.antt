use Rattle.std.proofs.Common.{◌≡◌}
use Rattle.std.specs.Prelude.{drop}
use Rattle.native_effects.specs.Inputs.Texts.{first_difference}
use Rattle.native_effects.proofs.inputs.texts.first_difference.Given as goal

abbrev pub invariant-loop-i : goal.invariant-loop-i
invariant-loop-i l = first_difference (drop l.i l.one) (drop l.i l.other) ≡ first_difference l.one l.other
