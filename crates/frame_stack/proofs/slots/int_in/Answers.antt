use Rattle.std.proofs.Common.{◌-◌, ◌∙◌, arith}
use Rattle.frame_stack.proofs.SlotReads.{int-read}
use Rattle.frame_stack.proofs.slots.int_in.Goals as goal

pub returns : goal.returns
returns c =
    let xs = c.args.slots.now.items in
    c.int_at.ensures
    ∙ int-read c.args.low (c.len-count.result - 1) xs (omega (arith, c.requires.within, c.len-count.ensures.items)) (omega (arith, c.requires.within, c.len-count.ensures.items)) c.requires.operands
