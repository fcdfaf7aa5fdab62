use Rattle.std.proofs.Common.{sym, ◌∙◌}
use Rattle.frame_stack.specs.FrameLists.{top_operands}
use Rattle.member_selection.proofs.Arguments.{one-int}
use Rattle.member_selection.proofs.receivers.is_one_int.Goals as goal

pub returns-in-Some : goal.returns-in-Some
returns-in-Some c there =
    one-int c.args.params.now (top_operands c.args.frames.now.frames) _ c.in-Some._n c.if-params-ne1.false (c.is_int_kind.ensures c.if-not-is_int_kind.false c.in-Some._n)
    (sym c.int.ensures.found ∙ c.in-Some.is)
