-- what is left of the attributes decides
use Rattle.std.proofs.Common.{◌≡◌, drop}
use Rattle.jvm_model.specs.Basis.Methods.{code_among, code_of}
use Rattle.jvm_model.proofs.members.code_of.Given as goal

abbrev pub invariant-loop-attribute : goal.invariant-loop-attribute
invariant-loop-attribute l = code_among (drop l.attribute-index l.method.attributes) ≡ code_of l.method
