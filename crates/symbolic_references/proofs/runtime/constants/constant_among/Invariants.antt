-- what is left of the attributes decides
use Rattle.std.proofs.Common.{◌≡◌, drop}
use Rattle.jvm_model.specs.Running.Constants.{constant_among}
use Rattle.symbolic_references.proofs.runtime.constants.constant_among.Given as goal

abbrev pub invariant-loop-attribute : goal.invariant-loop-attribute
invariant-loop-attribute l = constant_among (drop l.attribute-index l.attributes) ≡ constant_among l.attributes
