use Rattle.std.proofs.Common.{sym, ◌∙◌}
use Rattle.frame_stack.specs.FrameLists.{top_operands}
use Rattle.member_selection.proofs.Arguments.{data-enough, data-found}
use Rattle.member_selection.proofs.receivers.count_without_receiver.Goals as goal

pub returns-then-are_arguments-clause-data : goal.returns-then-are_arguments-clause-data
returns-then-are_arguments-clause-data c =
    sym (data-found c.args.params.now (top_operands c.args.frames.now.frames) (sym c.are_arguments.ensures ∙ c.if-are_arguments.true))

pub returns-then-are_arguments-clause-within : goal.returns-then-are_arguments-clause-within
returns-then-are_arguments-clause-within c =
    data-enough c.args.params.now (top_operands c.args.frames.now.frames) (sym c.are_arguments.ensures ∙ c.if-are_arguments.true)
