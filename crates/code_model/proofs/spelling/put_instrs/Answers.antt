use Rattle.std.proofs.Common.{◌++◌}
use Rattle.code_model.specs.Layout.{instr_bytes, code_bytes}
use Rattle.code_model.proofs.CodeLayouts.Steps.{put_item}
use Rattle.code_model.proofs.spelling.put_instrs.Goals as goal

pub loop-instr-preserved : goal.loop-instr-preserved
loop-instr-preserved c =
    put_item (λ i. instr_bytes (λ t. t) i.at i) (c.args.out.now ++ code_bytes c.args.instrs.now) c.loop-instr.out c.put_instr.new.out c.args.instrs.now c.loop-instr.instr-index c.instr-item.result
    c.loop-instr-test.true c.instr-item.is c.loop-instr.invariant c.in_ok-put_instr.ensures
