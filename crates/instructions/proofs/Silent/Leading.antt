-- Steps that lead from one state to another, one after the other.
use Rattle.std.proofs.Common.{◌≡◌, ℕ, zero, suc, ◌+◌, ◌-◌, false, List, [], length, inl, inr, refl, sym, ap, subst, ◌∙◌, arith}
use Rattle.std.specs.Prelude.{is_some}
use Rattle.std.proofs.lemmas.Bool.{cases_lt}
use Rattle.jvm_model.specs.declared.state.State.{State}
use Rattle.jvm_model.specs.Running.Run.{step}
use Rattle.prepared_code.specs.declared.initializations.Initialization.{Initialization}
use Rattle.prepared_code.specs.declared.parts.Parts.{Parts}
use Rattle.prepared_code.specs.Initializations.{initialization_on, state_of}
use Rattle.prepared_code.specs.Runs.{AreQuiet, IsAtInstruction, Leads, LeadsAlone, steps_from, steps_from-zero, steps_from-suc}
use Rattle.prepared_code.specs.Versions.{Setup, listing_of}

module _ (w : Setup) where
  abbrev next : State → State
  next s = (step w.world (listing_of w.versions) s).after

  -- first so many steps, and then so many
  pub steps-parts : (n m : ℕ) (s : State) → steps_from w (n + m) s ≡ steps_from w m (steps_from w n s)
  steps-parts n zero s =
      let same : n + 0 ≡ n = omega arith in
      ap (λ k. steps_from w k s) same ∙ sym (steps_from-zero w (steps_from w n s))
  steps-parts n (suc m) s =
      let same : n + suc m ≡ suc (n + m) = omega arith in
      ap (λ k. steps_from w k s) same
      ∙ (steps_from-suc w (n + m) s
      ∙ (ap next (steps-parts n m s) ∙ sym (steps_from-suc w m (steps_from w n s))))

  pub leads-none : (s : State) → Leads w s 0 s
  leads-none s = record { made = sym (steps_from-zero w s); before = λ k less. absurd (omega arith) }

  pub leads-one : (old new : State) → is_some old.ending ≡ false → new ≡ next old → Leads w old 1 new
  leads-one old new going is = record {
    made = is ∙ (ap next (sym (steps_from-zero w old)) ∙ sym (steps_from-suc w 0 old));
    before = λ k less.
        let none : 0 ≡ k = omega arith in
        subst (λ n. is_some (steps_from w n old).ending ≡ false) none
        (ap (λ (s : State). is_some s.ending) (steps_from-zero w old) ∙ going);
  }

  pub leads-on : (old mid new : State) (n m : ℕ) → Leads w old n mid → Leads w mid m new → Leads w old (n + m) new
  leads-on old mid new n m first second = record {
    made = second.made ∙ (ap (steps_from w m) first.made ∙ sym (steps-parts n m old));
    before = λ k less. elim (cases_lt k n) [
      | inl below ↦ first.before k below
      | inr above ↦
          (let same : n + (k - n) ≡ k = omega arith in
          let state : steps_from w k old ≡ steps_from w (k - n) mid =
          ap (λ j. steps_from w j old) (sym same)
          ∙ (steps-parts n (k - n) old ∙ ap (steps_from w (k - n)) (sym first.made)) in
          ap (λ (s : State). is_some s.ending) state ∙ second.before (k - n) (omega arith))
    ];
  }

  -- ---- without changes

  pub quiet-one : (s : State) → (step w.world (listing_of w.versions) s).changes ≡ [] → AreQuiet w s 1
  quiet-one s quiet k less =
      let none : 0 ≡ k = omega arith in
      subst (λ n. (step w.world (listing_of w.versions) (steps_from w n s)).changes ≡ []) none
      (ap (λ (z : State). (step w.world (listing_of w.versions) z).changes) (steps_from-zero w s) ∙ quiet)

  pub quiet-on : (old mid : State) (n m : ℕ) → mid ≡ steps_from w n old → AreQuiet w old n → AreQuiet w mid m → AreQuiet w old (n + m)
  quiet-on old mid n m made first second k less = elim (cases_lt k n) [
    | inl below ↦ first k below
    | inr above ↦
        (let same : n + (k - n) ≡ k = omega arith in
        let state : steps_from w k old ≡ steps_from w (k - n) mid =
        ap (λ j. steps_from w j old) (sym same)
        ∙ (steps-parts n (k - n) old ∙ ap (steps_from w (k - n)) (sym made)) in
        ap (λ (z : State). (step w.world (listing_of w.versions) z).changes) state ∙ second (k - n) (omega arith))
  ]

  -- ---- of the current frame and elements alone

  pub alone-none : (p : Parts) → LeadsAlone w p 0 p
  alone-none p = record {
    many = refl;
    ending = refl;
    thrown = refl;
    loaded = refl;
    world = refl;
    leads = λ ms at_instruction. leads-none (state_of ms p);
    quiet = λ ms at_instruction k less. absurd (omega arith);
  }

  still-at_instruction : (old mid : Parts) (n : ℕ) → LeadsAlone w old n mid → (ms : List Initialization) → IsAtInstruction (length old.frames.frames) ms old → IsAtInstruction (length mid.frames.frames) ms mid
  still-at_instruction old mid n first ms at_instruction = record {
    ending = first.ending ∙ at_instruction.ending;
    thrown = first.thrown ∙ at_instruction.thrown;
    executing = ap (λ k. initialization_on k ms) first.many ∙ at_instruction.executing;
  }

  pub alone-on : (old mid new : Parts) (n m : ℕ) → LeadsAlone w old n mid → LeadsAlone w mid m new → LeadsAlone w old (n + m) new
  alone-on old mid new n m first second = record {
    many = second.many ∙ first.many;
    ending = second.ending ∙ first.ending;
    thrown = second.thrown ∙ first.thrown;
    loaded = second.loaded ∙ first.loaded;
    world = second.world ∙ first.world;
    leads = λ ms at_instruction. leads-on (state_of ms old) (state_of ms mid) (state_of ms new) n m (first.leads ms at_instruction) (second.leads ms (still-at_instruction old mid n first ms at_instruction));
    quiet = λ ms at_instruction.
        quiet-on (state_of ms old) (state_of ms mid) n m (first.leads ms at_instruction).made (first.quiet ms at_instruction) (second.quiet ms (still-at_instruction old mid n first ms at_instruction));
  }
