use Rattle.code_admission.proofs.Tables.{marks}
use Rattle.code_admission.proofs.starts.starts_of.Goals as goal

pub loop-instr-preserved : goal.loop-instr-preserved
loop-instr-preserved c =
    rw c.set.ensures (marks c.args.len c.args.instrs.now c.loop-instr.starts c.loop-instr.instr-index c.instr-item.result c.loop-instr-test.true c.instr-item.is c.loop-instr.invariant)
