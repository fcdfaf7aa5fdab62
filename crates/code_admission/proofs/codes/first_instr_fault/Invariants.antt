-- what is left of the instructions decides
use Rattle.std.proofs.Common.{◌≡◌, drop}
use Rattle.code_admission.specs.Checks.{first_in}
use Rattle.code_admission.specs.Codes.{method_with, instr_fault}
use Rattle.code_admission.proofs.codes.first_instr_fault.Given as goal

abbrev pub invariant-loop-instr : goal.invariant-loop-instr
invariant-loop-instr l =
    first_in (instr_fault (method_with l.pool l.given l.body l.max_locals)) (drop l.instr-index l.body)
    ≡ first_in (instr_fault (method_with l.pool l.given l.body l.max_locals)) l.body
