-- What the code asks for, as the definitions have it: from the locals and operands of the current frame.
use Rattle.std.specs.Prelude.{◌≡◌, ◌≤◌, suc, drop, length, Some, Result, IfOk}
use Rattle.jf_bytes.specs.declared.error.NoMemory.{NoMemory}
use Rattle.frame_stack.specs.FrameLists.{FramesView, top_operands}
use Rattle.jvm_basic.specs.Outcomes.{top_locals}
use Rattle.jvm_model.specs.Basis.Data.{Locals, Operands, Next}
use Rattle.jvm_model.specs.Basis.Data as model
use Rattle.jvm_model.specs.Basis.Values.{with_value}
use Rattle.member_selection.specs.declared.outcome.Outcome.{Outcome}
use Rattle.member_selection.specs.declared.outcome.Outcome.TheVariants as outcome
use Rattle.member_selection.specs.Answers.{Rule, abrupt_view, done_on}
use Rattle.member_selection.specs.Targets.{data_in}

abbrev pub outcome_view : Outcome → Locals → Operands → model.Outcome
outcome_view (outcome.Goes n v) l o = model.GoesOn l (with_value v (drop n o)) Next
outcome_view (outcome.Invokes m n) l o = model.Invokes m (data_in n o) (drop n o)
outcome_view (outcome.Abrupt e) l o = abrupt_view e

-- of this frame
abbrev pub outcome_in_frame : Outcome → FramesView → model.Outcome
outcome_in_frame a f = outcome_view a (top_locals f.frames) (top_operands f.frames)

-- what a rule asks for
abbrev pub outcome_by_rule : Rule → FramesView → model.Outcome
outcome_by_rule rule f = (done_on rule f).outcome

-- the answer is what the rule asks for, unless memory ran out
abbrev pub Asks : Result Outcome NoMemory → Rule → FramesView → Type 0
Asks result rule f = IfOk result (λ a. outcome_in_frame a f ≡ outcome_by_rule rule f)

-- a value takes the place of two operands or more only where there are as many, and so are arguments
abbrev pub HasOperands : Outcome → Operands → Type 0
HasOperands (outcome.Goes (suc (suc n)) (Some v)) o = suc (suc n) ≤ length o
HasOperands (outcome.Invokes m n) o = n ≤ length o
HasOperands _ o = Unit {0}

abbrev pub HaveOperands : Result Outcome NoMemory → FramesView → Type 0
HaveOperands result f = IfOk result (λ a. HasOperands a (top_operands f.frames))
