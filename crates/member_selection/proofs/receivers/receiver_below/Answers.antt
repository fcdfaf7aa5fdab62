use Rattle.std.proofs.Common.{◌∙◌}
use Rattle.frame_stack.specs.FrameLists.{top_operands}
use Rattle.member_selection.proofs.Arguments.{receiver-is}
use Rattle.member_selection.proofs.receivers.receiver_below.Goals as goal

pub returns-else-count-eq0 : goal.returns-else-count-eq0
returns-else-count-eq0 c =
    c.reference_at.ensures ∙ receiver-is (top_operands c.args.frames.now.frames) c.args.count c.if-count-eq0.false c.requires
