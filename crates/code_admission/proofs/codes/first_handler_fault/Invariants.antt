-- what is left of the handlers decides
use Rattle.std.proofs.Common.{◌≡◌, drop}
use Rattle.code_admission.specs.Checks.{first_in}
use Rattle.code_admission.specs.Codes.{handler_fault}
use Rattle.code_admission.proofs.codes.first_handler_fault.Given as goal

abbrev pub invariant-loop-handler : goal.invariant-loop-handler
invariant-loop-handler l =
    first_in (handler_fault l.body l.len) (drop l.handler-index l.handlers) ≡ first_in (handler_fault l.body l.len) l.handlers
