-- The acts of a plan, one after the other.
use Rattle.std.proofs.Common.{List, ◌++◌, Result, Ok, Err}
use Rattle.jvm_model.specs.declared.event.Act.{Act}
use Rattle.code_admission.specs.declared.error.AdmitError.{AdmitError}

-- the acts before these, or the fault
abbrev pub with_front : List Act → Result (List Act) AdmitError → Result (List Act) AdmitError
with_front acts (Ok more) = Ok (acts ++ more)
with_front acts (Err fault) = Err fault
