use Rattle.std.proofs.Common.{◌≡◌, sym, subst, ◌∙◌}
use Rattle.std.specs.Prelude.{IfNone, IfOk, drop}
use Rattle.frame_stack.specs.FrameLists.{top_operands}
use Rattle.jvm_model.specs.Running.Run.{starts}
use Rattle.member_selection.specs.Outcomes.{HasOperands, outcome_in_frame}
use Rattle.member_selection.specs.Targets.{data_in}
use Rattle.prepared_code.specs.Originals.{setup_in}
use Rattle.prepared_code.specs.States.{state_in}
use Rattle.activations.specs.Applied.{acts_asked, on_parts}
use Rattle.activations.specs.TakenArguments.{TakesArguments}
use Rattle.activations.proofs.ConcludedOutcomes.{invokes-is}
use Rattle.activations.proofs.Arguments.{length-data}
use Rattle.activations.proofs.asking.conclude.Goals as goal

pub returns-in-Goes-clause-state : goal.returns-in-Goes-clause-state
returns-in-Goes-clause-state c =
    let w = setup_in c.args.parts.now.runtime c.args.originals.now in
    let p = c.args.parts.now in
    subst (λ a. state_in c.go_on.new.parts ≡ on_parts (λ s f. acts_asked w c.args.line.now s f (outcome_in_frame a p.frames)) p) (sym c.in-Goes.is) c.go_on.ensures.state

pub returns-in_ok-call-in-Invokes-clause-state : goal.returns-in_ok-call-in-Invokes-clause-state
returns-in_ok-call-in-Invokes-clause-state c =
    let w = setup_in c.args.parts.now.runtime c.args.originals.now in
    let p = c.args.parts.now in
    let o = top_operands p.frames.frames in
    subst (λ a. state_in c.call.new.parts ≡ on_parts (λ s f. acts_asked w c.args.line.now s f (outcome_in_frame a p.frames)) p) (sym c.in-Invokes.is)
    (c.in_ok-call-in-Invokes.ensures.state
    ∙ invokes-is w c.args.line.now c.args.method p c.in-Invokes.callee c.in-Invokes.args (data_in c.in-Invokes.args o) (drop c.in-Invokes.args o) p.frames.frames c.requires.top
    (length-data c.in-Invokes.args o (subst (λ a. HasOperands a o) c.in-Invokes.is c.requires.enough))
    (subst (λ a. TakesArguments (outcome_in_frame a p.frames) o) c.in-Invokes.is c.requires.takes))

pub returns-in-Abrupt-clause-state : goal.returns-in-Abrupt-clause-state
returns-in-Abrupt-clause-state c =
    let w = setup_in c.args.parts.now.runtime c.args.originals.now in
    let p = c.args.parts.now in
    subst (λ a. IfOk c.complete_abruptly.result (λ o. IfNone o (state_in c.complete_abruptly.new.parts ≡ on_parts (λ s f. acts_asked w c.args.line.now s f (outcome_in_frame a p.frames)) p))) (sym c.in-Abrupt.is)
    c.complete_abruptly.ensures.state

pub returns-in-Abrupt-clause-answer : goal.returns-in-Abrupt-clause-answer
returns-in-Abrupt-clause-answer c =
    subst (λ a. IfOk c.complete_abruptly.result (λ o. o ≡ starts (outcome_in_frame a c.args.parts.now.frames))) (sym c.in-Abrupt.is) c.complete_abruptly.ensures.answer
