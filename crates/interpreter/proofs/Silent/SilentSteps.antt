-- Steps that tell nothing: those without changes, and one behind the other.
use Rattle.std.proofs.Common.{◌≡◌, ℕ, ◌+◌, ◌-◌, Bool, true, false, List, [], ◌∷◌, length, inl, inr, refl, sym, ap, subst, ◌∙◌, arith}
use Rattle.std.specs.Prelude.{cond, ◌==◌, ◌||◌}
use Rattle.std.proofs.lemmas.Bool.{cases_lt}
use Rattle.jvm_model.specs.declared.due.Due.TheVariants.{Nothing}
use Rattle.jvm_model.specs.declared.event.Mark.{Mark}
use Rattle.jvm_model.specs.declared.event.Mark.TheVariants.{Off, Root}
use Rattle.jvm_model.specs.declared.state.Entry.{Entry}
use Rattle.jvm_model.specs.declared.state.Entry.TheVariants.{Active, Initializing}
use Rattle.jvm_model.specs.declared.state.State.{State}
use Rattle.jvm_model.specs.Basis.Data.{Change, Listing, Turn}
use Rattle.jvm_model.specs.Turns.Pauses.{Pause, Stop, stop_in}
use Rattle.jvm_model.specs.Turns.Rest.{step_loads}
use Rattle.jvm_model.specs.Running.Run.{loaded_turn, step, with_classes_loaded}
use Rattle.jvm_model.specs.Turns.StepPauses.{step_pause}
use Rattle.jvm_model.specs.Turns.Told.{Held, helds, mark_now}
use Rattle.jvm_model.proofs.Running.OnlyReturns.{ends-by-return}
use Rattle.jvm_model.proofs.Turns.Rests.{step-loads}
use Rattle.jvm_model.proofs.Turns.StepPausing.{step-paused}
use Rattle.prepared_code.specs.declared.initializations.Initialization.{Initialization}
use Rattle.prepared_code.specs.declared.parts.Parts.{Parts}
use Rattle.prepared_code.specs.Initializations.{initialization_on, state_of}
use Rattle.interpreter.specs.Moves.Passing.{AreSilent, IsSilent, Passes, runs}
use Rattle.prepared_code.specs.Runs.{IsAtInstruction, LeadsAlone, steps_from, steps_from-zero}
use Rattle.prepared_code.specs.Versions.{Setup, mark_of, listing_of}
use Rattle.instructions.proofs.Silent.Leading.{leads-none, leads-on, steps-parts}

-- ---- a step without changes

module _ (w : Setup) (s : State) (quiet : (step w.world (listing_of w.versions) s).changes ≡ []) where
  abbrev u : Listing
  u = listing_of w.versions

  nothing-loaded : step_loads w.world u s ≡ []
  nothing-loaded = by (step_loads w.world u s) (sym (ap (λ (a : Turn). a.changes) (step-loads w.world u s)) ∙ quiet) where
    by : (classes : List ℕ) → (loaded_turn classes (step w.world u (with_classes_loaded classes s))).changes ≡ [] → classes ≡ []
    by [] e = refl
    by (c ∷ others) e = absurd (first-change _ _ e) where
      first-change : (c : Change) (cs : List Change) → c ∷ cs ≡ [] → ⊥
      first-change c cs e = cc

  -- live activations stay as they are
  quiet-helds : (marks : ℕ → Mark) → helds marks (step w.world u s).after.stack ≡ helds marks s.stack
  quiet-helds marks =
      let p : Pause = step_pause w.world u marks false 0 s in
      let is = step-paused w.world u marks (ends-by-return w.world) false 0 s (λ delivered. absurd (let e : false ≡ true = delivered in cc)) nothing-loaded in
      let stops = ap (stop_in (mark_now marks u) 0 (helds marks s.stack)) (sym quiet) ∙ is.stops in
      let due : p.due ≡ Nothing = ap (λ (x : Stop). x.due) (sym stops) in
      let there : (step w.world u s).after ≡ p.state = is.part.same ∙ ap (λ (a : Turn). a.after) (is.ends due) in
      ap (λ (z : State). helds marks z.stack) there ∙ ap (λ (x : Stop). x.live) (sym stops)

-- the versions that are run are those of the live activations: seen by a mark that this version alone has
abbrev mark_if : ℕ → ℕ → Mark
mark_if k version = cond (version == k) Root Off

abbrev is_root : Mark → Bool
is_root Root = true
is_root _ = false

abbrev any_root : List Held → Bool
any_root [] = false
any_root (h ∷ more) = is_root h.mark || any_root more

root-if : (b : Bool) → is_root (cond b Root Off) ≡ b
root-if true = refl
root-if false = refl

runs-held : (k : ℕ) (stack : List Entry) → any_root (helds (mark_if k) stack) ≡ runs k stack
runs-held k [] = refl
runs-held k (Active f ∷ below) = ap (λ b. b || any_root (helds (mark_if k) below)) (root-if (f.version == k)) ∙ ap (λ b. f.version == k || b) (runs-held k below)
runs-held k (Initializing class part ∷ below) = runs-held k below

pub same-runs : (k : ℕ) (old new : List Entry) → ((marks : ℕ → Mark) → helds marks new ≡ helds marks old) → runs k new ≡ runs k old
same-runs k old new same = sym (runs-held k new) ∙ (ap any_root (same (mark_if k)) ∙ runs-held k old)

pub quiet-silent : (w : Setup) (s : State) → (step w.world (listing_of w.versions) s).changes ≡ [] → IsSilent w s
quiet-silent w s quiet = record {
  loads = nothing-loaded w s quiet;
  undelivered = ap (λ cs. (stop_in (mark_now (mark_of w.versions) (listing_of w.versions)) 0 (helds (mark_of w.versions) s.stack) cs).due) quiet;
  keeps = λ k superseded is. same-runs k s.stack (step w.world (listing_of w.versions) s).after.stack (quiet-helds w s quiet) ∙ is;
}

-- ---- one behind the other

module _ (w : Setup) where
  pub silent-one : (s : State) → IsSilent w s → AreSilent w s 1
  silent-one s is k less =
      let none : 0 ≡ k = omega arith in
      subst (λ j. IsSilent w (steps_from w j s)) none (subst (IsSilent w) (sym (steps_from-zero w s)) is)

  silent-on : (old mid : State) (n m : ℕ) → mid ≡ steps_from w n old → AreSilent w old n → AreSilent w mid m → AreSilent w old (n + m)
  silent-on old mid n m made first second k less = elim (cases_lt k n) [
    | inl below ↦ first k below
    | inr above ↦
        (let same : n + (k - n) ≡ k = omega arith in
        let state : steps_from w k old ≡ steps_from w (k - n) mid =
        ap (λ j. steps_from w j old) (sym same)
        ∙ (steps-parts w n (k - n) old ∙ ap (steps_from w (k - n)) (sym made)) in
        subst (IsSilent w) (sym state) (second (k - n) (omega arith)))
  ]

  pub passes_none : (ms : List Initialization) (p : Parts) → IsAtInstruction (length p.frames.frames) ms p → Passes w ms p 0 p
  passes_none ms p at_instruction = record {
    at_instruction = at_instruction;
    loaded = refl;
    world = refl;
    leads = leads-none w (state_of ms p);
    silent = λ k less. absurd (omega arith);
  }

  pub passes-on : (ms : List Initialization) (old mid new : Parts) (n m : ℕ) → Passes w ms old n mid → Passes w ms mid m new → Passes w ms old (n + m) new
  passes-on ms old mid new n m first second = record {
    at_instruction = second.at_instruction;
    loaded = second.loaded ∙ first.loaded;
    world = second.world ∙ first.world;
    leads = leads-on w (state_of ms old) (state_of ms mid) (state_of ms new) n m first.leads second.leads;
    silent = silent-on (state_of ms old) (state_of ms mid) n m first.leads.made first.silent second.silent;
  }

  -- those of the current frame and elements alone
  pub passes-alone : (ms : List Initialization) (old new : Parts) (n : ℕ) → LeadsAlone w old n new → IsAtInstruction (length old.frames.frames) ms old → Passes w ms old n new
  passes-alone ms old new n alone at_instruction = record {
    at_instruction = record {
      ending = alone.ending ∙ at_instruction.ending;
      thrown = alone.thrown ∙ at_instruction.thrown;
      executing = ap (λ k. initialization_on k ms) alone.many ∙ at_instruction.executing;
    };
    loaded = alone.loaded;
    world = alone.world;
    leads = alone.leads ms at_instruction;
    silent = λ k less. quiet-silent w (steps_from w k (state_of ms old)) (alone.quiet ms at_instruction k less);
  }
