-- what is left of the descriptor decides
use Rattle.std.proofs.Common.{◌≡◌, drop}
use Rattle.base_classes.specs.Soundness.{has_float}
use Rattle.code_admission.specs.Floating.{has_floats}
use Rattle.code_admission.proofs.floating.has_floats.Given as goal

abbrev pub invariant-loop-unit : goal.invariant-loop-unit
invariant-loop-unit l = has_float l.within (drop l.unit-index l.unit-items) ≡ has_floats l.descriptor
