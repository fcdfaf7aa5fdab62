-- what is left of the methods decides
use Rattle.std.proofs.Common.{◌≡◌, drop}
use Rattle.code_admission.specs.Checks.{first_from}
use Rattle.code_admission.specs.Floating.{floating_method}
use Rattle.code_admission.proofs.floating.method_fault.Given as goal

abbrev pub invariant-loop-at : goal.invariant-loop-at
invariant-loop-at l =
    first_from (floating_method l.number l.pool) l.at (drop l.at l.methods) ≡ first_from (floating_method l.number l.pool) 0 l.methods
