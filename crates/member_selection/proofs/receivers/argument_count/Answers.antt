use Rattle.std.proofs.Common.{sym, ap, ◌∙◌, arith, length, true, false}
use Rattle.frame_stack.specs.FrameLists.{top_operands}
use Rattle.jvm_model.specs.Instructions.InvocationRules.{arguments_by, with_receiver}
use Rattle.jvm_model.specs.Basis.Values.{arguments}
use Rattle.member_selection.proofs.Arguments.{by-shape, few-params, no-shape}
use Rattle.member_selection.proofs.receivers.argument_count.Goals as goal

pub count_with_receiver-requires : goal.count_with_receiver-requires
count_with_receiver-requires c =
    let few = few-params c.args.method.now.member.descriptor c.in-Some.params (sym c.params.ensures ∙ c.in-Some.is) in
    let len = ap length c.as_slice.ensures in
    omega (arith, few, len)

pub count_without_receiver-requires : goal.count_without_receiver-requires
count_without_receiver-requires c =
    let few = few-params c.args.method.now.member.descriptor c.in-Some.params (sym c.params.ensures ∙ c.in-Some.is) in
    let len = ap length c.as_slice-else-instance.ensures in
    omega (arith, few, len)

pub returns-then-instance-clause-data : goal.returns-then-instance-clause-data
returns-then-instance-clause-data c =
    c.count_with_receiver.ensures.data
    ∙ (ap (λ ks. arguments (with_receiver true ks) (top_operands c.args.frames.now.frames)) c.as_slice.ensures
    ∙ (by-shape true c.args.method.now.member (top_operands c.args.frames.now.frames) c.in-Some.params (sym c.params.ensures ∙ c.in-Some.is)
    ∙ ap (λ b. arguments_by b c.args.method.now.member (top_operands c.args.frames.now.frames)) (sym c.if-instance.true)))

pub returns-else-instance-clause-data : goal.returns-else-instance-clause-data
returns-else-instance-clause-data c =
    c.count_without_receiver.ensures.data
    ∙ (ap (λ ks. arguments ks (top_operands c.args.frames.now.frames)) c.as_slice-else-instance.ensures
    ∙ (by-shape false c.args.method.now.member (top_operands c.args.frames.now.frames) c.in-Some.params (sym c.params.ensures ∙ c.in-Some.is)
    ∙ ap (λ b. arguments_by b c.args.method.now.member (top_operands c.args.frames.now.frames)) (sym c.if-instance.false)))

pub returns-in-None-clause-data : goal.returns-in-None-clause-data
returns-in-None-clause-data c =
    no-shape c.args.instance c.args.method.now.member (top_operands c.args.frames.now.frames) (sym c.params.ensures ∙ c.in-None.is)
