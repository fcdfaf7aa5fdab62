use Rattle.std.proofs.Common.{sym, ◌∙◌, arith}
use Rattle.frame_stack.proofs.SlotReads.{top-some, top-long}
use Rattle.frame_stack.proofs.slots.top_value.Goals as goal

pub returns-in-Some : goal.returns-in-Some
returns-in-Some c =
    top-some c.args.low c.args.end c.args.slots.now.items c.in-Some.value (omega (arith, c.requires.above, c.if-end-low.false)) c.requires.within c.requires.operands
    (sym c.at.ensures ∙ c.in-Some.is)

pub returns-in-None : goal.returns-in-None
returns-in-None c =
    c.at-in-None.ensures
    ∙ top-long c.args.low c.args.end c.args.slots.now.items (omega (arith, c.requires.above, c.if-end-low.false)) c.requires.within c.requires.operands
    (sym c.at.ensures ∙ c.in-None.is)
