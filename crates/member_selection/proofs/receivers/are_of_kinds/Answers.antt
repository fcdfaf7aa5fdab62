use Rattle.std.proofs.Common.{sym, ◌∙◌}
use Rattle.const_pool.specs.declared.descriptor.Kind.TheVariants.{Int}
use Rattle.frame_stack.specs.FrameLists.{top_operands}
use Rattle.member_selection.proofs.Arguments.{kinds-by, kinds-missing, enough-found}
use Rattle.member_selection.proofs.receivers.are_of_kinds.Goals as goal

pub returns-in_default : goal.returns-in_default
returns-in_default c = sym (kinds-missing c.args.params.now (top_operands c.args.frames.now.frames) c.loop-i.i c.loop-i-test.true (sym c.operand_at.ensures ∙ c.in_default.is))

pub returns-then-not-is_of_kind : goal.returns-then-not-is_of_kind
returns-then-not-is_of_kind c =
    sym
    (kinds-by c.args.params.now (top_operands c.args.frames.now.frames) c.loop-i.i Int c.in-Some.value _ c.loop-i-test.true c.loop-i.invariant.1 (sym c.operand_at.ensures ∙ c.in-Some.is)
    (sym c.is_of_kind.ensures ∙ c.if-not-is_of_kind.true))
    ∙ c.loop-i.invariant.0

pub loop-i-preserved : goal.loop-i-preserved
loop-i-preserved c = (
  sym
      (kinds-by c.args.params.now (top_operands c.args.frames.now.frames) c.loop-i.i Int c.in-Some.value _ c.loop-i-test.true c.loop-i.invariant.1 (sym c.operand_at.ensures ∙ c.in-Some.is)
      (sym c.is_of_kind.ensures ∙ c.if-not-is_of_kind.false))
      ∙ c.loop-i.invariant.0,
  λ more. enough-found (top_operands c.args.frames.now.frames) _ c.loop-i.i c.in-Some.value (sym c.operand_at.ensures ∙ c.in-Some.is) c.loop-i-test.true c.loop-i.invariant.1,
)
