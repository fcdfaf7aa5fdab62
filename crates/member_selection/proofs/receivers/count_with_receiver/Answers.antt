use Rattle.std.proofs.Common.{sym, ◌∙◌}
use Rattle.frame_stack.specs.FrameLists.{top_operands}
use Rattle.member_selection.proofs.Arguments.{none-below, receiver-none, receiver-some}
use Rattle.member_selection.proofs.receivers.count_with_receiver.Goals as goal

pub returns-then-has_receiver-clause-data : goal.returns-then-has_receiver-clause-data
returns-then-has_receiver-clause-data c =
    receiver-some c.args.params.now (top_operands c.args.frames.now.frames) c.in-Some.count c.in-Some.ensures.count c.in-Some.ensures.data
    (sym c.has_receiver.ensures.answer ∙ c.if-has_receiver.true)

pub returns-else-has_receiver-clause-data : goal.returns-else-has_receiver-clause-data
returns-else-has_receiver-clause-data c =
    receiver-none c.args.params.now (top_operands c.args.frames.now.frames) c.in-Some.count c.in-Some.ensures.count
    (sym c.has_receiver.ensures.answer ∙ c.if-has_receiver.false)

pub returns-in-None-clause-data : goal.returns-in-None-clause-data
returns-in-None-clause-data c = none-below c.args.params.now (top_operands c.args.frames.now.frames) c.in-None.ensures.data
