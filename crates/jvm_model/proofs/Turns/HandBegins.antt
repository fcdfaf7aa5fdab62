-- How a step comes in hand: behind its load, or at once; and that what is in hand stays so where other versions are
-- installed.
use Rattle.std.proofs.Common.{◌≡◌, ℕ, Bool, true, false, List, [], ◌∷◌, drop, refl, sym, ap, subst, ◌∙◌}
use Rattle.jvm_model.specs.Basis.Data.{Entry, Active, Initializing, State, Turn, Listing, World}
use Rattle.jvm_model.specs.Running.Applies.{still}
use Rattle.jvm_model.specs.Running.Moves.{turn_settled}
use Rattle.jvm_model.specs.Running.Run.{step, start, with_classes_loaded, loaded_turn, main_loads, starts_with}
use Rattle.jvm_model.specs.Codes.Moved.{moved_stack, IsMovedListing, at_homes, IsPlaced}
use Rattle.jvm_model.specs.Rewriting.StandsForRun.{versions_forgotten, norm_by, StandsFor, IsOfVersions, KeepVersions}
use Rattle.jvm_model.specs.Turns.Rest.{step_loads, Todo, Attempt, Moves, rest}
use Rattle.jvm_model.specs.Turns.Told.{Held, helds}
use Rattle.jvm_model.specs.Turns.StepPauses.{Awaits, NeedsNoLoad}
use Rattle.jvm_model.specs.Turns.InHand.{Versioned, original_of, InHand, behind_load}
use Rattle.jvm_model.proofs.Relocated.StepMoves.{starts-still}
use Rattle.jvm_model.proofs.Relocated.StandsForRun.{at_homes-kept, forgotten-kept, placed-kept}
use Rattle.jvm_model.proofs.Turns.Rests.{step-loads, step_loads-again}
use Rattle.jvm_model.proofs.Turns.RestStands.{loaded-stands_for, step_loads-same}

-- ---- other versions are installed

-- which versions are kept is asked of the machine's frames
pub kept-between : (old new : ℕ → ℕ) (olds news homes : ℕ → ℕ → ℕ) (stack : List Entry) → KeepVersions old new olds news (moved_stack (at_homes homes) stack) → KeepVersions old new olds news stack
kept-between old new olds news homes [] keeps = tt
kept-between old new olds news homes (Active f ∷ below) keeps = (keeps.0, keeps.1, kept-between old new olds news homes below keeps.2)
kept-between old new olds news homes (Initializing c part ∷ below) keeps = kept-between old new olds news homes below keeps

module _ (w : World) (t : Listing) (x y : Versioned) (turn : Turn) (passed : ℕ) (told : Bool) (live : List Held) (todo : Todo) (s : State) where
  -- Versions come, and go where no frame runs them: the same is in hand.
  pub hand-kept : InHand w t x turn passed told live todo s → y.norm ≡ x.norm → KeepVersions x.method_of y.method_of x.homes y.homes s.stack → helds y.mark_of s.stack ≡ helds x.mark_of s.stack
      → InHand w t y turn passed told live todo s
  hand-kept h norms keeps marks =
      let b : State = h.between in
      let kept : KeepVersions x.method_of y.method_of x.homes y.homes b.stack =
      kept-between x.method_of y.method_of x.homes y.homes x.homes b.stack (subst (λ (z : State). KeepVersions x.method_of y.method_of x.homes y.homes z.stack) h.versioned keeps) in
      let same : original_of x b ≡ original_of y b = ap (λ stack. record b { stack = stack }) (forgotten-kept x.method_of y.method_of x.homes y.homes b.stack kept) in
      record {
        between = b;
        versioned = h.versioned ∙ ap (λ stack. record b { stack = stack }) (at_homes-kept x.method_of y.method_of x.homes y.homes b.stack kept);
        placed = subst (λ norm. IsPlaced (norm_by y.method_of norm) b) (sym norms) (sym (placed-kept x.method_of y.method_of x.homes y.homes x.norm b.stack kept) ∙ h.placed);
        same = ap (λ z. (rest w t todo z).after) (sym same) ∙ h.same;
        tells = ap (λ z. (rest w t todo z).changes) (sym same) ∙ h.tells;
        lives = h.lives ∙ sym marks;
        awaits = λ yes. subst (Awaits w t todo) same (h.awaits yes);
        loaded = subst (NeedsNoLoad w t todo) same h.loaded;
      }

-- ---- a step begins

drop-load : (classes : List ℕ) (a : Turn) → drop (behind_load classes) (loaded_turn classes a).changes ≡ a.changes
drop-load [] a = refl
drop-load (c ∷ more) a = refl

load-after : (classes : List ℕ) (a : Turn) → (loaded_turn classes a).after ≡ a.after
load-after [] a = refl
load-after (c ∷ more) a = refl

loaded-stack : (classes : List ℕ) (s : State) → (with_classes_loaded classes s).stack ≡ s.stack
loaded-stack [] s = refl
loaded-stack (c ∷ more) s = refl

module _ (w : World) (t : Listing) (x : Versioned) (own : IsMovedListing x.norm (at_homes x.norm) t t) (current : ℕ → ℕ) (u : Listing) (is : IsOfVersions x.norm x.method_of current x.homes t u)
    (versioned original : State) (stands : StandsFor x.norm x.method_of x.homes versioned original) where
  -- The machine loads what the step loads, which is the step's first change; then the rest of the step is in hand.
  pub hand-begins : InHand w t x (step w t original) (behind_load (step_loads w u versioned)) false (helds x.mark_of versioned.stack) Attempt (with_classes_loaded (step_loads w u versioned) versioned)
  hand-begins =
      let classes : List ℕ = step_loads w t original in
      let same : step_loads w u versioned ≡ classes = step_loads-same x.norm w t own x.method_of current x.homes u is versioned original stands in
      let ready : StandsFor x.norm x.method_of x.homes (with_classes_loaded classes versioned) (with_classes_loaded classes original) = loaded-stands_for x.norm x.method_of x.homes classes versioned original stands in
      let all : step w t original ≡ loaded_turn classes (step w t (with_classes_loaded classes original)) = step-loads w t original in
      let there : Turn = step w t (with_classes_loaded classes original) in
      subst (λ cs. InHand w t x (step w t original) (behind_load cs) false (helds x.mark_of versioned.stack) Attempt (with_classes_loaded cs versioned)) (sym same) (record {
        between = ready.between;
        versioned = ready.versioned_is;
        placed = ready.at_places;
        same = ap (λ z. (step w t z).after) (sym ready.original_is) ∙ (sym (load-after classes there) ∙ sym (ap (λ (a : Turn). a.after) all));
        tells = ap (λ z. (step w t z).changes) (sym ready.original_is) ∙ (sym (drop-load classes there) ∙ sym (ap (λ (a : Turn). drop (behind_load classes) a.changes) all));
        lives = ap (helds x.mark_of) (sym (loaded-stack classes versioned));
        awaits = λ yes. absurd (let e : false ≡ true = yes in cc);
        loaded = ap (step_loads w t) (sym ready.original_is) ∙ step_loads-again w t original;
      })

  -- and its load is the list of its first change
  pub begin-loads : (step w t original).changes ≡ (loaded_turn (step_loads w u versioned) (step w t (with_classes_loaded (step_loads w t original) original))).changes
  begin-loads =
      ap (λ (a : Turn). a.changes) (step-loads w t original)
      ∙ ap (λ cs. (loaded_turn cs (step w t (with_classes_loaded (step_loads w t original) original))).changes) (sym (step_loads-same x.norm w t own x.method_of current x.homes u is versioned original stands))

-- ---- the start

-- It has no frame, so it is the same in all versions.
pub hand-starts : (w : World) (t : Listing) (x : Versioned) → InHand w t x (start w t) (behind_load (main_loads w)) false (helds x.mark_of (starts_with w).stack) Moves (starts_with w)
hand-starts w t x =
    let there : Turn = turn_settled w t (still (starts_with w)) in
    record {
      between = starts_with w;
      versioned = sym (starts-still (at_homes x.homes) w);
      placed = ap (λ (s : State). s.stack) (starts-still (at_homes (norm_by x.method_of x.norm)) w);
      same = ap (λ z. (turn_settled w t (still z)).after) (starts-still (versions_forgotten x.method_of) w) ∙ sym (load-after (main_loads w) there);
      tells = ap (λ z. (turn_settled w t (still z)).changes) (starts-still (versions_forgotten x.method_of) w) ∙ sym (drop-load (main_loads w) there);
      lives = refl;
      awaits = λ yes. absurd (let e : false ≡ true = yes in cc);
      loaded = tt;
    }
