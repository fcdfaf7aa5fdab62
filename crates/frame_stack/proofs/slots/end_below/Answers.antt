use Rattle.std.proofs.Common.{length, sym, ◌∙◌, arith}
use Rattle.std.proofs.lemmas.Bool.{lt-leb}
use Rattle.frame_stack.proofs.Passing.{are-passed, one-more, none-left, operands_from}
use Rattle.frame_stack.proofs.slots.end_below.Goals as goal

pub top_value-requires-clause-above : goal.top_value-requires-clause-above
top_value-requires-clause-above c =
    (are-passed c.args.low c.loop-i.end c.loop-i._i c.args.slots.now.items c.requires.within c.requires.operands c.loop-i.invariant.at).above

pub top_value-requires-clause-within : goal.top_value-requires-clause-within
top_value-requires-clause-within c =
    (are-passed c.args.low c.loop-i.end c.loop-i._i c.args.slots.now.items c.requires.within c.requires.operands c.loop-i.invariant.at).within

pub top_value-requires-clause-operands : goal.top_value-requires-clause-operands
top_value-requires-clause-operands c =
    (are-passed c.args.low c.loop-i.end c.loop-i._i c.args.slots.now.items c.requires.within c.requires.operands c.loop-i.invariant.at).are

pub returns-in_err-value : goal.returns-in_err-value
returns-in_err-value c =
    let few = none-left c.args.low c.loop-i.end c.loop-i._i c.args.slots.now.items c.requires.within c.requires.operands c.loop-i.invariant (sym c.top_value.ensures ∙ c.in_err-value.was) in
    rw (lt-leb c.args.count (length (operands_from c.args.low c.args.slots.now.items)) (omega (arith, few))) c.from_residual.ensures

pub overflow_sub-end : goal.overflow_sub-end
overflow_sub-end c =
    let more = one-more c.args.low c.loop-i.end c.loop-i._i c.args.slots.now.items c.in_ok-value.value c.requires.within c.requires.operands c.loop-i.invariant (sym c.top_value.ensures ∙ c.in_ok-value.was) in
    omega (arith, more.fits)

pub loop-i-preserved : goal.loop-i-preserved
loop-i-preserved c =
    let more = one-more c.args.low c.loop-i.end c.loop-i._i c.args.slots.now.items c.in_ok-value.value c.requires.within c.requires.operands c.loop-i.invariant (sym c.top_value.ensures ∙ c.in_ok-value.was) in
    rw c.width-end.ensures more.passed
