-- what is left of the methods decides
use Rattle.std.proofs.Common.{◌≡◌, drop}
use Rattle.jvm_model.specs.Basis.Methods.{method_from, method_named}
use Rattle.jvm_model.specs.Basis.Programs.{initializer_name}
use Rattle.prepared_lines.proofs.members.initializer_in.Given as goal

abbrev pub invariant-loop-at : goal.invariant-loop-at
invariant-loop-at l = method_from l.class.pool initializer_name l.at (drop l.at l.class.methods) ≡ method_named l.class initializer_name
