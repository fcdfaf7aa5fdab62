-- The initialization of a class before an instruction: where the class is ready behind it no activation has begun or
-- ended, and the frame is the current one again.
use Rattle.std.proofs.Common.{◌≡◌, ℕ, zero, suc, Bool, true, false, cond, List, [], ◌∷◌, ◌++◌, ◌+◌, slice_get, slice_set, Option, Some, None, nat_le, nat_lt, refl, sym, subst, ap, ◌∙◌}
use Rattle.std.specs.Option.{IfSome}
use Rattle.heap_objects.specs.declared.datum.Datum.{Datum}
use Rattle.heap_objects.specs.declared.datum.Datum.TheVariants as datum
use Rattle.jvm_model.specs.declared.ending.Ending.{Ending}
use Rattle.jvm_model.specs.declared.state.Entry.{Entry}
use Rattle.jvm_model.specs.declared.state.Entry.TheVariants.{Active, Initializing}
use Rattle.jvm_model.specs.declared.state.Frame.{Frame}
use Rattle.jvm_model.specs.declared.state.Part.{Part}
use Rattle.jvm_model.specs.declared.state.Part.TheVariants.{Constants, Superclass, Initializer, Finish}
use Rattle.jvm_model.specs.declared.state.Phase.{Phase}
use Rattle.jvm_model.specs.declared.state.Phase.TheVariants.{Fresh, Running, Ready, Erroneous}
use Rattle.jvm_model.specs.declared.state.Shared.{Shared}
use Rattle.jvm_model.specs.declared.state.State.{State}
use Rattle.jvm_model.specs.Basis.Data.{Began, Change, Unwound, Turn, Listing}
use Rattle.jvm_model.specs.Running.Constants.{Setting, sets_constants}
use Rattle.jvm_model.specs.Classes.Lookup.{is_below}
use Rattle.jvm_model.specs.Basis.Programs.{name_at, super_of, initializer_of}
use Rattle.jvm_model.specs.Basis.SharedState.{error, no_class_definition, in_initializer, stack_overflow, phase_of, with_phase, class_of, message_cost, with_message, with_exception, Allocated, made_with, exception_raised, null}
use Rattle.heap_objects.specs.declared.Value.{Value}
use Rattle.heap_objects.specs.declared.Value.TheVariants.{Ref}
use Rattle.frame_stack.specs.Widths.{height_of}
use Rattle.heap_objects.specs.Heaps.{next_number}
use Rattle.jvm_model.specs.Running.Applies.{still, with_frame, goes, breaks, new_frame, live_in, most_live}
use Rattle.jvm_model.specs.Running.Moves.{handler_for, own_at, throw_caught, throw_wrapped, fails, at_part, raises, with_constants, after_super, with_super, runs_initializer, initializes, move, then_turn, turn_settled}
use Rattle.jvm_model.proofs.Running.Settles.{constants-phases, settled-keeps, settled-stops}
use Rattle.prepared_code.specs.Versions.{Setup}

-- ---- phases

pub set-there : (ps : List Phase) (c : ℕ) (p q : Phase) → slice_get ps c ≡ Some q → slice_get (slice_set ps c p) c ≡ Some p
set-there [] c p q e = absurd cc
set-there (x ∷ ps) zero p q e = refl
set-there (x ∷ ps) (suc c) p q e = set-there ps c p q e

set-elsewhere : (ps : List Phase) (c d : ℕ) (p : Phase) → (d ≡ c → ⊥) → slice_get (slice_set ps d p) c ≡ slice_get ps c
set-elsewhere [] c d p other = refl
set-elsewhere (x ∷ ps) zero zero p other = absurd (other refl)
set-elsewhere (x ∷ ps) (suc c) zero p other = refl
set-elsewhere (x ∷ ps) zero (suc d) p other = refl
set-elsewhere (x ∷ ps) (suc c) (suc d) p other = set-elsewhere ps c d p (λ e. other (ap suc e))

made-phases : (w : Setup) (s : Shared) (name : List ℕ) (message : Option (List ℕ)) (cause : Datum) → (made_with w.world s name message cause).shared.phases ≡ s.phases
made-phases w s name message cause = by (nat_le (s.heap.used + (message_cost message + 3)) s.heap.limit) where
  made : Allocated
  made = record {
    shared = record s { heap = with_exception w.world.program name message cause s.heap };
    reference = next_number (with_message w.world.program message s.heap);
  }

  by : (b : Bool) → (cond b made (record { shared = s; reference = 1 })).shared.phases ≡ s.phases
  by true = refl
  by false = refl

wrapped-phases : (w : Setup) (s : Shared) (r : ℕ) → (throw_wrapped w.world s r).shared.phases ≡ s.phases
wrapped-phases w s r = by (is_below w.world.program (class_of w.world.program s r) error) where
  by : (b : Bool) → (cond b (record { shared = s; reference = r }) (made_with w.world s in_initializer None (datum.Ref r))).shared.phases ≡ s.phases
  by true = refl
  by false = made-phases w s in_initializer None (datum.Ref r)

apart : (ps : List Phase) (c d : ℕ) (p q : Phase) → (p ≡ q → ⊥) → slice_get ps c ≡ Some p → slice_get ps d ≡ Some q → d ≡ c → ⊥
apart ps c d p q other here there same = other (by (sym here ∙ (ap (slice_get ps) (sym same) ∙ there))) where
  by : Some p ≡ Some q → p ≡ q
  by e = cc

running-fresh : Running ≡ Fresh → ⊥
running-fresh e = absurd cc

running-ready : Some Running ≡ Some Ready → ⊥
running-ready e = absurd cc

erroneous-ready : Some Erroneous ≡ Some Ready → ⊥
erroneous-ready e = absurd cc

-- ---- the stages

module _ (w : Setup) (t : Listing) (c : ℕ) (f : Frame) (below : List Entry) where
  abbrev pub base : List Entry
  base = Active f ∷ below

  -- the initialization of the class stands on the frame, or one of another class on such a stack
  data Stands (d : ℕ) (rest : List Entry) (Deeper : Type 0) : Type 0 where
    own : d ≡ c → rest ≡ base → Stands d rest Deeper
    other : (d ≡ c → ⊥) → Deeper → Stands d rest Deeper

  abbrev AreInitializations : List Entry → Type 0
  AreInitializations [] = ⊥
  AreInitializations (Active g ∷ es) = ⊥
  AreInitializations (Initializing d part ∷ es) = Stands d es (AreInitializations es)

  abbrev pub state : List Entry → Option ℕ → Bool → List ℕ → Shared → Option Ending → State
  state stack thrown begun output shared ending = record { stack = stack; thrown = thrown; begun = begun; shared = shared; output = output; ending = ending }

  abbrev pub delivered : State → List Change → Turn
  delivered s changes = record { after = s; changes = changes }

  data Stage (turn : Turn) : Type 0 where
    -- it is being initialized
    waits : (stack : List Entry) (thrown : Option ℕ) (begun : Bool) (output : List ℕ) (shared : Shared) → AreInitializations stack
        → phase_of shared c ≡ Some Running → turn ≡ delivered (state stack thrown begun output shared None) [] → Stage turn
    -- it is ready, and nothing has begun
    ready : (begun : Bool) (output : List ℕ) (shared : Shared) → phase_of shared c ≡ Some Ready
        → turn ≡ delivered (state base None begun output shared None) [] → Stage turn
    -- its initialization has failed
    failed : (stack : List Entry) (r : ℕ) (begun : Bool) (output : List ℕ) (shared : Shared) (changes : List Change)
        → phase_of shared c ≡ Some Erroneous → turn ≡ delivered (state stack (Some r) begun output shared None) changes → Stage turn
    -- it is not ready, and nothing follows
    stops : (phase_of turn.after.shared c ≡ Some Ready → ⊥) → move w.world t turn.after ≡ None → Stage turn

  -- of a state that is reached without changes
  abbrev Reached : State → Type 0
  Reached s = Stage (delivered s [])

  -- ---- an initialization on the stack

  module _ (d : ℕ) (rest : List Entry) (begun : Bool) (output : List ℕ) (shared : Shared) (at : Stands d rest (AreInitializations rest))
      (running : phase_of shared c ≡ Some Running) where
    marked : (part : Part) → Reached (state (Initializing d part ∷ rest) None begun output shared None)
    marked part = waits (Initializing d part ∷ rest) None begun output shared at running refl

    raised-at : (part : Part) (name : List ℕ) (message : Option (List ℕ))
        → Reached (raises w.world (state (Initializing d part ∷ rest) None begun output shared None) name message)
    raised-at part name message =
        let a : Allocated = exception_raised w.world shared name message in
        waits (Initializing d part ∷ rest) (Some a.reference) begun output a.shared at
        (ap (λ ps. slice_get ps c) (made-phases w shared name message null) ∙ running) refl

    after_super-at : (e : ℕ) (p : Option Phase) → phase_of shared e ≡ p
        → Reached (after_super w.world (state rest None begun output shared None) d e p)
    after_super-at e (Some Fresh) is =
        let differ : e ≡ c → ⊥ = apart shared.phases c e Running Fresh running-fresh running is in
        waits (Initializing e Constants ∷ Initializing d Initializer ∷ rest) None begun output (with_phase shared e Running)
        (other differ at) (set-elsewhere shared.phases c e Running differ ∙ running) refl
    after_super-at e (Some Erroneous) is = raised-at Initializer no_class_definition (name_at w.world.program e)
    after_super-at e (Some Running) is = marked Initializer
    after_super-at e (Some Ready) is = marked Initializer
    after_super-at e None is = marked Initializer

    with_super-at : (o : Option ℕ) → Reached (with_super w.world (state rest None begun output shared None) d o)
    with_super-at None = marked Initializer
    with_super-at (Some e) = after_super-at e (phase_of shared e) refl

    runs-at : (m : Option ℕ) → Stage (then_turn (delivered (state (Initializing d Initializer ∷ rest) None begun output shared None) []) (runs_initializer w.world t (state rest None begun output shared None) d m))
    runs-at None = marked Finish
    runs-at (Some m) = by (nat_lt (live_in rest) most_live) where
      s : State
      s = state (Initializing d Finish ∷ rest) None begun output shared None

      by : (b : Bool) → Stage (then_turn (delivered (state (Initializing d Initializer ∷ rest) None begun output shared None) []) (cond b (delivered (with_frame (at_part (state rest None begun output shared None) d Finish) (new_frame w.world t m [])) (Began m ∷ [])) (still (raises w.world (at_part (state rest None begun output shared None) d Finish) stack_overflow None))))
      by true = stops (λ e. running-ready (sym running ∙ e)) refl
      by false = raised-at Finish stack_overflow None

    finishes-at : Reached (state rest None begun output (with_phase shared d Ready) None)
    finishes-at = elim at [
      | own same is ↦ ready begun output (with_phase shared d Ready)
          (subst (λ k. slice_get (slice_set shared.phases k Ready) c ≡ Some Ready) (sym same) (set-there shared.phases c Ready Running running))
          (ap (λ es. delivered (state es None begun output (with_phase shared d Ready) None) []) is)
      | other differ deeper ↦ waits rest None begun output (with_phase shared d Ready) deeper (set-elsewhere shared.phases c d Ready differ ∙ running) refl
    ]

    fails-at : (r : ℕ) → Reached (fails w.world (state rest (Some r) begun output shared None) d r)
    fails-at r =
        let a : Allocated = throw_wrapped w.world shared r in
        let still_running : phase_of a.shared c ≡ Some Running = ap (λ ps. slice_get ps c) (wrapped-phases w shared r) ∙ running in
        elim at [
          | own same is ↦ failed rest a.reference begun output (with_phase a.shared d Erroneous) []
              (subst (λ k. slice_get (slice_set a.shared.phases k Erroneous) c ≡ Some Erroneous) (sym same) (set-there a.shared.phases c Erroneous Running still_running)) refl
          | other differ deeper ↦ waits rest (Some a.reference) begun output (with_phase a.shared d Erroneous) deeper
              (set-elsewhere a.shared.phases c d Erroneous differ ∙ still_running) refl
        ]

    -- its constants are set, or an object is thrown
    constants-at : (setting : Setting) → setting.shared.phases ≡ shared.phases
        → Stage (then_turn (delivered (state (Initializing d Constants ∷ rest) None begun output shared None) []) (still (with_constants (state rest None begun output shared None) d setting)))
    constants-at setting same =
        waits (Initializing d Superclass ∷ rest) setting.thrown begun output setting.shared at (ap (λ ps. slice_get ps c) same ∙ running) refl

    initializes-at : (part : Part) → Stage (then_turn (delivered (state (Initializing d part ∷ rest) None begun output shared None) []) (initializes w.world t (state rest None begun output shared None) d part))
    initializes-at Constants = constants-at (sets_constants w.world.program d shared) (constants-phases w.world.program d shared)
    initializes-at Superclass = with_super-at (super_of w.world.program d)
    initializes-at Initializer = runs-at (initializer_of w.world.program d)
    initializes-at Finish = finishes-at

  -- ---- each move keeps a stage

  abbrev Next : Turn → Type 0
  Next turn = IfSome (move w.world t turn.after) (λ next. Stage (then_turn turn next))

  waits-on : (stack : List Entry) (thrown : Option ℕ) (begun : Bool) (output : List ℕ) (shared : Shared) → AreInitializations stack
      → phase_of shared c ≡ Some Running → Next (delivered (state stack thrown begun output shared None) [])
  waits-on [] thrown begun output shared at running = absurd at
  waits-on (Active g ∷ es) thrown begun output shared at running = absurd at
  waits-on (Initializing d part ∷ es) (Some r) begun output shared at running = fails-at d es begun output shared at running r
  waits-on (Initializing d part ∷ es) None begun output shared at running = initializes-at d es begun output shared at running part

  -- an object that is thrown does not make it ready
  kept-phase : (ps : List Phase) (d : ℕ) → slice_get ps c ≡ Some Erroneous → slice_get (slice_set ps d Erroneous) c ≡ Some Erroneous
  kept-phase ps d is = by ps c d is where
    by : (qs : List Phase) (k e : ℕ) → slice_get qs k ≡ Some Erroneous → slice_get (slice_set qs e Erroneous) k ≡ Some Erroneous
    by [] k e is = is
    by (x ∷ qs) zero zero is = refl
    by (x ∷ qs) (suc k) zero is = is
    by (x ∷ qs) zero (suc e) is = is
    by (x ∷ qs) (suc k) (suc e) is = by qs k e is

  goes-on : (g : Frame) (es : List Entry) (begun : Bool) (output : List ℕ) (shared : Shared) (at place : ℕ) (o : List Value) (changes : List Change)
      → phase_of shared c ≡ Some Erroneous → Stage (delivered (goes (state es None begun output shared None) g at g.locals o (Some place)) changes)
  goes-on g es begun output shared at place o changes is = by (nat_le (height_of o) g.max_stack) where
    by : (b : Bool) → Stage (delivered (cond b (with_frame (state es None begun output shared None) (record g { place = place; operands = o })) (breaks (state es None begun output shared None) g at)) changes)
    by true = stops (λ e. erroneous-ready (sym is ∙ e)) refl
    by false = stops (λ e. erroneous-ready (sym is ∙ e)) refl

  caught-on : (g : Frame) (es : List Entry) (r : ℕ) (begun : Bool) (output : List ℕ) (shared : Shared) (changes : List Change) (h : Option ℕ)
      → phase_of shared c ≡ Some Erroneous
      → Stage (then_turn (delivered (state (Active g ∷ es) (Some r) begun output shared None) changes) (throw_caught w.world t (state es (Some r) begun output shared None) r g h))
  caught-on g es r begun output shared changes None is = failed es r begun output shared (changes ++ Unwound ∷ []) is refl
  caught-on g es r begun output shared changes (Some target) is = goes-on g es begun output shared (own_at t g) target (Ref r ∷ []) (changes ++ []) is

  failed-on : (stack : List Entry) (r : ℕ) (begun : Bool) (output : List ℕ) (shared : Shared) (changes : List Change)
      → phase_of shared c ≡ Some Erroneous → Next (delivered (state stack (Some r) begun output shared None) changes)
  failed-on [] r begun output shared changes is = stops (λ e. erroneous-ready (sym is ∙ e)) refl
  failed-on (Active g ∷ es) r begun output shared changes is =
      caught-on g es r begun output shared changes (handler_for w.world (class_of w.world.program shared r) g.place (t.handlers g.version)) is
  failed-on (Initializing d part ∷ es) r begun output shared changes is =
      let a : Allocated = throw_wrapped w.world shared r in
      failed es a.reference begun output (with_phase a.shared d Erroneous) (changes ++ [])
      (kept-phase a.shared.phases d (ap (λ ps. slice_get ps c) (wrapped-phases w shared r) ∙ is)) refl

  each-keeps : (turn : Turn) → Stage turn → Next turn
  each-keeps turn stage = elim stage [
    | waits stack thrown begun output shared at running is ↦ subst Next (sym is) (waits-on stack thrown begun output shared at running)
    | ready begun output shared at is ↦ subst Next (sym is) tt
    | failed stack r begun output shared changes at is ↦ subst Next (sym is) (failed-on stack r begun output shared changes at)
    | stops isnt none ↦ subst (λ o. IfSome o (λ next. Stage (then_turn turn next))) (sym none) tt
  ]

  -- ---- behind all moves

  -- nothing has begun or ended, and the frame is the current one
  pub record IsReadyAgain (turn : Turn) : Type 0 where
    pub quiet : turn.changes ≡ []
    pub stack : turn.after.stack ≡ base
    pub ending : turn.after.ending ≡ None
    pub thrown : turn.after.thrown ≡ None

  some-none : (turn : Turn) → move w.world t turn.after ≡ None → Stage turn → phase_of turn.after.shared c ≡ Some Ready → IsReadyAgain turn
  some-none turn none stage is = elim stage [
    | waits stack thrown begun output shared at running same ↦
        absurd (running-ready (sym running ∙ (ap (λ (x : Turn). phase_of x.after.shared c) (sym same) ∙ is)))
    | ready begun output shared at same ↦ record {
      quiet = ap (λ (x : Turn). x.changes) same;
      stack = ap (λ (x : Turn). x.after.stack) same;
      ending = ap (λ (x : Turn). x.after.ending) same;
      thrown = ap (λ (x : Turn). x.after.thrown) same;
    }
    | failed stack r begun output shared changes at same ↦
        absurd (erroneous-ready (sym at ∙ (ap (λ (x : Turn). phase_of x.after.shared c) (sym same) ∙ is)))
    | stops isnt gone ↦ absurd (isnt is)
  ]

  -- where the class is ready behind all moves
  pub ready-again : (thrown : Option ℕ) (begun : Bool) (output : List ℕ) (shared : Shared) → phase_of shared c ≡ Some Running
      → phase_of (turn_settled w.world t (delivered (state (Initializing c Constants ∷ base) thrown begun output shared None) [])).after.shared c ≡ Some Ready
      → IsReadyAgain (turn_settled w.world t (delivered (state (Initializing c Constants ∷ base) thrown begun output shared None) []))
  ready-again thrown begun output shared running is =
      let first : Turn = delivered (state (Initializing c Constants ∷ base) thrown begun output shared None) [] in
      some-none (turn_settled w.world t first) (settled-stops w.world t first)
      (settled-keeps w.world t Stage each-keeps first (waits (Initializing c Constants ∷ base) thrown begun output shared (own refl refl) running refl)) is
