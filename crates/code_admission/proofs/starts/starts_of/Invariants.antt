use Rattle.std.proofs.Common.{drop}
use Rattle.code_admission.proofs.Tables.{IsMarking}
use Rattle.code_admission.proofs.starts.starts_of.Given as goal

abbrev pub invariant-loop-instr : goal.invariant-loop-instr
invariant-loop-instr l = IsMarking l.len l.instrs l.starts (drop l.instr-index l.instrs)
