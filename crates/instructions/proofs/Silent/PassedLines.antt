-- A line that was passed, whatever it is run as.
use Rattle.std.proofs.Common.{◌≡◌, ℕ, Bool, true, false, List, [], ◌∷◌, refl, sym, ap, subst, ◌∙◌}
use Rattle.std.proofs.lemmas.Bool.{false≢true}
use Rattle.jf_bytes.proofs.Tests.{either}
use Rattle.const_pool.specs.declared.descriptor.Kind.{Kind}
use Rattle.code_model.specs.declared.instr.Arg.{Arg}
use Rattle.frame_stack.specs.FrameLists.{FramesView, PlacedFrame}
use Rattle.jvm_model.specs.Basis.Families.{family_of}
use Rattle.jvm_model.specs.declared.family.Family.{Family}
use Rattle.jvm_model.specs.declared.instruction.Operation.{Operation}
use Rattle.jvm_model.specs.declared.instruction.Operation.TheVariants as operation
use Rattle.jvm_basic.specs.declared.effect.Effect.{Effect}
use Rattle.jvm_basic.specs.declared.effect.Effect.TheVariants.{Next}
use Rattle.jvm_basic.specs.declared.hot.Hot.{Hot}
use Rattle.jvm_basic.specs.declared.hot.Hot.TheVariants as hot
use Rattle.jvm_basic.specs.Hot.{does_hot, hot_by, is_alone, is_element}
use Rattle.jvm_basic.specs.Outcomes.{after, effect_of}
use Rattle.jvm_basic.specs.Rules.{rule_of}
use Rattle.jvm_basic.proofs.Exact.{kept-unless-next}
use Rattle.jvm_basic.proofs.HotLines.{hot-after, hot-effect, no-element}
use Rattle.prepared_lines.specs.declared.line.LocalAction.{LocalAction}
use Rattle.prepared_lines.specs.declared.line.LocalAction.TheVariants as local_action
use Rattle.prepared_lines.specs.declared.line.Line.{Line}
use Rattle.prepared_code.specs.declared.parts.Parts.{Parts}
use Rattle.instructions.specs.Elements.{IsLoaded, IsPassed, IsStored, is_plain}
use Rattle.prepared_lines.specs.Lines.{hot_in}
use Rattle.prepared_code.specs.Ready.{CanRun}
use Rattle.prepared_code.specs.Runs.{IsPlainLine, LeadsAlone, top_version}
use Rattle.prepared_code.specs.Versions.{IsPreparedLine, Setup}
use Rattle.instructions.proofs.Attempts.ElementSteps.{StandsAt, load-alone, load-stays, plain-alone, store-alone, store-stays}
use Rattle.instructions.proofs.Silent.PlainSteps.{stays-in}

-- ---- of which action it is

alone-local : (a : Operation LocalAction) (f : Family) (x : Arg) (next : ℕ) → is_alone (hot_in a f x next) ≡ true → a ≡ operation.Within local_action.Basic
alone-local (operation.Within local_action.Basic) f x next e = refl
alone-local _ f x next e = absurd (false≢true e)

loads-elements : (a : Operation LocalAction) (f : Family) (x : Arg) (next : ℕ) (k : Kind) → hot_in a f x next ≡ hot.LoadElement k → a ≡ operation.LoadElement k
loads-elements (operation.Within local_action.Basic) f x next k e = absurd (false≢true (sym (no-element f x next) ∙ ap is_element e))
loads-elements (operation.LoadElement j) f x next k e = cc
loads-elements _ f x next k e = cc

stores-elements : (a : Operation LocalAction) (f : Family) (x : Arg) (next : ℕ) (k : Kind) → hot_in a f x next ≡ hot.StoreElement k → a ≡ operation.StoreElement k
stores-elements (operation.Within local_action.Basic) f x next k e = absurd (false≢true (sym (no-element f x next) ∙ ap is_element e))
stores-elements (operation.StoreElement j) f x next k e = cc
stores-elements _ f x next k e = cc

not-local-load : {k : Kind} → operation.Within local_action.Basic ≡ operation.LoadElement k → ⊥
not-local-load e = cc

not-local-store : {k : Kind} → operation.Within local_action.Basic ≡ operation.StoreElement k → ⊥
not-local-store e = cc

not-load-store : {j k : Kind} → ◌≡◌ {A = Operation LocalAction} (operation.LoadElement j) (operation.StoreElement k) → ⊥
not-load-store e = cc

same-load : {j k : Kind} → ◌≡◌ {A = Operation LocalAction} (operation.LoadElement j) (operation.LoadElement k) → j ≡ k
same-load e = cc

same-store : {j k : Kind} → ◌≡◌ {A = Operation LocalAction} (operation.StoreElement j) (operation.StoreElement k) → j ≡ k
same-store e = cc

-- ---- what was done

module _ (line : Line) (old new : Parts) where
  pub passed-alone : line.operation ≡ operation.Within local_action.Basic → effect_of (rule_of line.instr line.constant line.next) old.frames ≡ Next
      → new ≡ record old { frames = after (rule_of line.instr line.constant line.next) old.frames } → IsPassed line old new
  passed-alone local goes changed = record {
    plain = ap is_plain local;
    alone = λ _. goes;
    frames = λ _. changed;
    loaded = λ k is. absurd (not-local-load (sym local ∙ is));
    stored = λ k is. absurd (not-local-store (sym local ∙ is));
  }

  pub passed-load : (k : Kind) → line.operation ≡ operation.LoadElement k → IsLoaded line k old new → IsPassed line old new
  passed-load k loads done = record {
    plain = ap is_plain loads;
    alone = λ local. absurd (not-local-load (sym local ∙ loads));
    frames = λ local. absurd (not-local-load (sym local ∙ loads));
    loaded = λ j is. subst (λ i. IsLoaded line i old new) (same-load (sym loads ∙ is)) done;
    stored = λ j is. absurd (not-load-store (sym loads ∙ is));
  }

  pub passed-store : (k : Kind) → line.operation ≡ operation.StoreElement k → IsStored line k old new → IsPassed line old new
  passed-store k stores done = record {
    plain = ap is_plain stores;
    alone = λ local. absurd (not-local-store (sym local ∙ stores));
    frames = λ local. absurd (not-local-store (sym local ∙ stores));
    loaded = λ j is. absurd (not-load-store (sym is ∙ stores));
    stored = λ j is. subst (λ i. IsStored line i old new) (same-store (sym stores ∙ is)) done;
  }

  -- by what it is run as
  pub passed-as : (h : Hot) (effect : Effect) → line.hot ≡ h → IsPreparedLine line → effect ≡ Next
      → (is_alone line.hot ≡ true → effect ≡ effect_of (does_hot line.hot) old.frames)
      → (is_alone line.hot ≡ true → new ≡ record old { frames = after (does_hot line.hot) old.frames })
      → ((k : Kind) → line.hot ≡ hot.LoadElement k → effect ≡ Next → IsLoaded line k old new)
      → ((k : Kind) → line.hot ≡ hot.StoreElement k → effect ≡ Next → IsStored line k old new)
      → (line.hot ≡ hot.Cold → effect ≡ Next → IsPassed line old new)
      → IsPassed line old new
  passed-as hot.Cold effect is prepared next e f l s cold = cold is next
  passed-as (hot.LoadElement k) effect is prepared next e f l s cold =
      passed-load k (loads-elements line.operation (family_of line.instr.op) line.instr.arg line.next k (sym prepared.hot ∙ is)) (l k is next)
  passed-as (hot.StoreElement k) effect is prepared next e f l s cold =
      passed-store k (stores-elements line.operation (family_of line.instr.op) line.instr.arg line.next k (sym prepared.hot ∙ is)) (s k is next)
  passed-as h effect is prepared next e f l s cold =
      let alone : is_alone line.hot ≡ true = ap is_alone is in
      let local = alone-local line.operation (family_of line.instr.op) line.instr.arg line.next (ap is_alone (sym prepared.hot) ∙ alone) in
      let form : line.hot ≡ hot_by (family_of line.instr.op) line.instr.arg line.next =
      prepared.hot ∙ ap (λ a. hot_in a (family_of line.instr.op) line.instr.arg line.next) local in
      let own : is_alone (hot_by (family_of line.instr.op) line.instr.arg line.next) ≡ true = ap is_alone (sym form) ∙ alone in
      passed-alone local
      (sym (ap (λ x. effect_of (does_hot x) old.frames) form ∙ hot-effect line.instr line.constant line.next old.frames own) ∙ (sym (e alone) ∙ next))
      (f alone ∙ ap (λ (s : FramesView). record old { frames = s })
      (ap (λ x. after (does_hot x) old.frames) form ∙ hot-after line.instr line.constant line.next old.frames own))

-- ---- it is a step

by-actions : (a : Operation LocalAction) {P : Type 0} → is_plain a ≡ true → (a ≡ operation.Within local_action.Basic → P) → ((k : Kind) → a ≡ operation.LoadElement k → P) → ((k : Kind) → a ≡ operation.StoreElement k → P) → P
by-actions (operation.Within local_action.Basic) plain local loads stores = local refl
by-actions (operation.LoadElement k) plain local loads stores = loads k refl
by-actions (operation.StoreElement k) plain local loads stores = stores k refl
by-actions _ plain local loads stores = absurd (false≢true plain)

plain-line : (w : Setup) (fs : List PlacedFrame) (line : Line) → StandsAt w fs line → line.operation ≡ operation.Within local_action.Basic → IsPlainLine w fs line
plain-line w [] line stands local = absurd stands
plain-line w (f ∷ fs) line stands local = (stands, local)

module _ (line : Line) (old new : Parts) (is : IsPassed line old new) where
  pub passed-leads : (w : Setup) → CanRun w → StandsAt w old.frames.frames line → LeadsAlone w old 1 new
  passed-leads w run stands = by-actions line.operation is.plain
      (λ local. subst (λ (p : Parts). LeadsAlone w old 1 p) (sym (is.frames local))
      (plain-alone w run line old (after (rule_of line.instr line.constant line.next) old.frames) (plain-line w old.frames.frames line stands local) (is.alone local) refl))
      (λ k loads. load-alone w run line k old new stands loads (is.loaded k loads))
      (λ k stores. store-alone w run line k old new stands stores (is.stored k stores))

  pub passed-stays : top_version new.frames.frames ≡ top_version old.frames.frames
  passed-stays = by-actions line.operation is.plain
      (λ local. ap (λ (p : Parts). top_version p.frames.frames) (is.frames local)
      ∙ stays-in line old.frames (after (rule_of line.instr line.constant line.next) old.frames) refl)
      (λ k loads. load-stays line k old new true (λ e. absurd (false≢true (sym e))) (λ _. is.loaded k loads))
      (λ k stores. store-stays line k old new true (λ e. absurd (false≢true (sym e))) (λ _. is.stored k stores))

-- where the frame does not go on nothing has changed
pub kept-alone : (h : Hot) (old new : Parts) (effect : Effect) → (effect ≡ Next → ⊥)
    → (is_alone h ≡ true → effect ≡ effect_of (does_hot h) old.frames)
    → (is_alone h ≡ true → new ≡ record old { frames = after (does_hot h) old.frames })
    → (is_alone h ≡ false → (effect ≡ Next → ⊥) → new ≡ old) → new ≡ old
kept-alone h old new effect apart e f kept = either (is_alone h)
    (λ alone. f alone ∙ ap (λ (s : FramesView). record old { frames = s }) (kept-unless-next (does_hot h) old.frames (λ n. apart (e alone ∙ n))))
    (λ other. kept other apart)

pub stays-by : (line : Line) (old new : Parts) (b : Bool) → (b ≡ true → IsPassed line old new) → (b ≡ false → new ≡ old)
    → top_version new.frames.frames ≡ top_version old.frames.frames
stays-by line old new b gone kept = either b
    (λ on. passed-stays line old new (gone on))
    (λ off. ap (λ (p : Parts). top_version p.frames.frames) (kept off))
