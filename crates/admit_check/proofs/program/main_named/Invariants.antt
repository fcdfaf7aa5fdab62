-- what is left of the methods decides
use Rattle.std.proofs.Common.{◌≡◌, drop}
use Rattle.jvm_model.specs.Basis.Methods.{method_from, method_named}
use Rattle.jvm_model.specs.Basis.MainMethod.{main_member}
use Rattle.admit_check.proofs.program.main_named.Given as goal

abbrev pub invariant-loop-at : goal.invariant-loop-at
invariant-loop-at l = method_from l.class.pool main_member l.at (drop l.at l.class.methods) ≡ method_named l.class main_member
