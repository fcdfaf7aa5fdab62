-- What is proved of a rule holds of another one that asks for the same of the frame, and what an abrupt completion
-- leaves.
use Rattle.std.proofs.Common.{◌≡◌, ℕ, suc, zero, ◌≤◌, length, Option, Some, None, ap, sym, subst, ◌∙◌}
use Rattle.std.proofs.lemmas.List.{append-nil}
use Rattle.std.specs.Prelude.{Result, IfOk, OnOk}
use Rattle.jf_bytes.specs.declared.error.NoMemory.{NoMemory}
use Rattle.heap_objects.specs.declared.Value.{Value}
use Rattle.frame_stack.specs.FrameLists.{FramesView}
use Rattle.jvm_model.specs.Basis.Data.{Operands, Done}
use Rattle.jvm_model.specs.Basis.Data as model
use Rattle.jvm_model.specs.Instructions.ObjectRules.{done}
use Rattle.member_selection.specs.declared.outcome.Outcome.{Outcome}
use Rattle.member_selection.specs.declared.outcome.Outcome.TheVariants.{Goes}
use Rattle.member_selection.specs.Answers.{Rule, done_on}
use Rattle.member_selection.specs.Outcomes.{Asks, HasOperands, outcome_in_frame}
use Rattle.symbolic_references.specs.Leaving.{Leaves, Sets}
use Rattle.symbolic_references.specs.Runtimes.{RuntimeView, after, with_shared}
use Rattle.jvm_model.specs.declared.program.Program.{Program}
use Rattle.jvm_model.specs.declared.state.Shared.{Shared}
use Rattle.jvm_model.specs.declared.state.Phase.{Phase}
use Rattle.jvm_model.specs.declared.state.Phase.TheVariants.{Ready, Running}
use Rattle.jvm_model.specs.Instructions.Rules.{when_ready}

module _ (result : Result Outcome NoMemory) (a b : Rule) (f : FramesView) (same : done_on a f ≡ done_on b f) where
  pub asks_by : Asks result a f → Asks result b f
  asks_by = subst (λ (d : Done). IfOk result (λ x. outcome_in_frame x f ≡ d.outcome)) same

  pub leaves_by : (new old : RuntimeView) → Leaves result new a f old → Leaves result new b f old
  leaves_by new old = subst (λ (d : Done). OnOk result (new ≡ after d old)) same

  pub sets_by : (new old : RuntimeView) → Sets result new a f old → Sets result new b f old
  sets_by new old = subst (λ (d : Done). OnOk result (new ≡ with_shared d.shared old)) same

pub still : (v : RuntimeView) (d : Done) (q : model.Outcome) → done v.shared q ≡ d → v ≡ after d v
still v d q is =
    ap (λ out. record v { output = out }) (sym (append-nil v.output)) ∙ ap (λ d. after d v) is

pub enough_operands : (n : ℕ) (v : Option Value) (o : Operands) → n ≤ length o → HasOperands (Goes n v) o
enough_operands zero v o h = tt
enough_operands (suc zero) v o h = tt
enough_operands (suc (suc n)) None o h = tt
enough_operands (suc (suc n)) (Some v) o h = h

-- a class that is initialized, or is being
pub when_it_is_ready : (p : Program) (o : Option Phase) (x : Phase) (class : ℕ) (s : Shared) (d : Done) → Some x ≡ o → x ≡ Ready → d ≡ when_ready p o class s d
when_it_is_ready p o x class s d found is = sym (ap (λ o. when_ready p o class s d) (sym found ∙ ap Some is))

pub when_it_is_running : (p : Program) (o : Option Phase) (x : Phase) (class : ℕ) (s : Shared) (d : Done) → Some x ≡ o → x ≡ Running → d ≡ when_ready p o class s d
when_it_is_running p o x class s d found is = sym (ap (λ o. when_ready p o class s d) (sym found ∙ ap Some is))
