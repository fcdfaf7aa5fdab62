-- What a machine has loaded is what the run has loaded, in every turn: behind its load a step loads nothing more.
use Rattle.std.proofs.Common.{◌≡◌, ℕ, Bool, true, false, List, [], ◌∷◌, ◌++◌, Option, Some, None, refl, sym, ap, ap₂, subst, ◌∙◌, inl, inr}
use Rattle.std.specs.Prelude.{not, ◌==◌, ◌&&◌, if◌then◌else◌}
use Rattle.std.specs.List.{AllByRecursion}
use Rattle.std.proofs.lemmas.List.{append-nil}
use Rattle.jf_bytes.proofs.Lists.{empty_from_length}
use Rattle.jvm_model.specs.declared.ending.Ending.{Ending}
use Rattle.jvm_model.specs.declared.state.Entry.{Entry}
use Rattle.jvm_model.specs.declared.state.Entry.TheVariants.{Active, Initializing}
use Rattle.jvm_model.specs.declared.state.State.{State}
use Rattle.jvm_model.specs.Running.Applies.{still}
use Rattle.jvm_model.specs.declared.state.Frame.{Frame}
use Rattle.jvm_model.specs.Basis.Data.{Instruction, Listing, Turn, World}
use Rattle.jvm_model.specs.Instructions.Does.{does, loads}
use Rattle.jvm_model.specs.Turns.InHand.{original_of}
use Rattle.jvm_model.specs.Codes.Originals.{original}
use Rattle.jvm_model.specs.Turns.Rest.{classes_loaded_at, loads_on, rest, step_loads}
use Rattle.jvm_model.specs.Running.Run.{before, run, step, steps_at, steps_by, steps_on, turn, with_classes_loaded}
use Rattle.jvm_model.specs.Soundness.Sound.{IsFit}
use Rattle.jvm_model.specs.Turns.Told.{Held, helds}
use Rattle.jvm_model.specs.Soundness.SoundListings.{IsSound, IsSoundEntry, IsSoundListing}
use Rattle.jvm_model.proofs.Running.Attempts.{loaded-after}
use Rattle.jvm_model.proofs.Relocated.ClosedPrograms.{program-agrees}
use Rattle.jvm_model.proofs.Loading.LoadedMoves.{settled-loaded}
use Rattle.jvm_model.proofs.Soundness.SoundRuns.{with-loaded-is}
use Rattle.jvm_model.proofs.Soundness.SoundListingRuns.{at-goes}
use Rattle.interpreter.specs.declared.turns.hands.Hand.{Hand}
use Rattle.interpreter.specs.Moves.Hands.{HasInHand, todo_of, versioned_in}
use Rattle.prepared_code.specs.Ready.{IsSoundIn, RunsIn}
use Rattle.prepared_code.specs.Standing.{HasVersions, places_of}
use Rattle.activations.specs.Turning.{loads_in}
use Rattle.prepared_code.specs.Versions.{Setup, mark_of, listing_of}
use Rattle.prepared_code.proofs.Tables.StandingSteps.{set-up-runs}
use Rattle.prepared_code.proofs.Tables.VersionsRun.{step-stands}
use Rattle.jvm_machine.specs.Machine.{IsMachine, IsSoundOnce, Stands, state_seen}
use Rattle.jvm_machine.specs.View.{View, is_resting, run_state}
use Rattle.jvm_machine.proofs.Steps.Going.{in-hand-loads}
use Rattle.jvm_machine.proofs.States.Shown.{rest-shows, stands-shows}

-- ---- a step loads what it loads first, and no more

module _ (Runs : ℕ → ℕ → Type 0) (w : World) (fit : IsFit w.program) (t : Listing) (is_sound : IsSoundListing Runs w.program t) where
  at-loaded : (s : State) (f : Frame) (o : Option Instruction) → IsSound Runs w.program s → IsSoundEntry Runs w.program s.shared.loaded (Active f) → t.at f.version f.place ≡ o
      → (steps_at w t s f o).after.shared.loaded ≡ s.shared.loaded ++ classes_loaded_at w s f o
  at-loaded s f None is entry e = with-loaded-is [] s
  at-loaded s f (Some i) is entry e =
      let classes : List ℕ = loads w i.operation s.shared f.operands in
      let ready : State = with_classes_loaded classes s in
      let a : Turn = steps_by w t i ready f (does w i.operation ready.shared f.locals f.operands) in
      ap (λ (z : State). z.shared.loaded) (loaded-after classes a) ∙ ((at-goes Runs w fit t is_sound s f i is entry e).same ∙ with-loaded-is classes s)

  on-loaded : (s : State) (ending : Option Ending) (stack : List Entry) → IsSound Runs w.program s → s.ending ≡ ending → s.stack ≡ stack
      → (steps_on w t s ending stack).after.shared.loaded ≡ s.shared.loaded ++ loads_on w t s ending stack
  on-loaded s (Some e) [] is on has = with-loaded-is [] s
  on-loaded s (Some e) (x ∷ below) is on has = with-loaded-is [] s
  on-loaded s None [] is on has = with-loaded-is [] s
  on-loaded s None (Initializing class part ∷ below) is on has = with-loaded-is [] s
  on-loaded s None (Active f ∷ below) is on has =
      let each = subst (λ z. AllByRecursion (IsSoundEntry Runs w.program s.shared.loaded) z) has is.stack in
      at-loaded (record s { stack = below }) f (t.at f.version f.place) (record { shared = is.shared; stack = each.1; main = is.main }) each.0 refl

  pub step-loaded : (s : State) → IsSound Runs w.program s → (step w t s).after.shared.loaded ≡ s.shared.loaded ++ step_loads w t s
  step-loaded s is = on-loaded s s.ending s.stack is refl refl

-- ---- what is in hand has loaded what the step loads

module _ (w : Setup) (homes : ℕ → ℕ → ℕ) (has : HasVersions w homes) (whole : Turn) (hand : Hand) (live : List Held) (s : State) (h : HasInHand w homes whole hand live s) (once : IsSoundOnce w hand s) where
  abbrev from_original : State
  from_original = original_of (versioned_in w homes) h.between

  same-loaded : from_original.shared.loaded ≡ s.shared.loaded
  same-loaded = sym (ap (λ (z : State). z.shared.loaded) h.versioned)

  attempt-sound : (h : Hand) → IsSoundOnce w h s → h.moves ≡ false → IsSoundIn w s
  attempt-sound h (inl sound) attempt = sound
  attempt-sound h (inr starting) attempt = absurd (let e : true ≡ false = sym starting.moves ∙ attempt in cc)

  stands_now : Stands w homes s from_original
  stands_now = record { between = h.between; versioned_is = h.versioned; original_is = refl; at_places = h.placed }

  abbrev versions_step : State
  versions_step = (step w.world (listing_of w.versions) s).after

  step-there : Stands w homes versions_step (step w.world (original w.world.program) from_original).after
  step-there =
      step-stands w.world.program (places_of w.world.program) homes w.versions has.are w.world refl (program-agrees w.world.program has.closed) s from_original versions_step stands_now refl

  by-moves : (moves : Bool) → hand.moves ≡ moves → (rest w.world (original w.world.program) (todo_of moves) from_original).after ≡ whole.after → whole.after.shared.loaded ≡ s.shared.loaded
  by-moves true e same =
      ap (λ (z : State). z.shared.loaded) (sym same) ∙ (settled-loaded w.world (original w.world.program) (still from_original) ∙ same-loaded)
  by-moves false e same =
      let nothing : loads_in w s ≡ [] = empty_from_length (loads_in w s) (in-hand-loads w homes has whole hand live s h e) in
      ap (λ (z : State). z.shared.loaded) (sym same)
      ∙ (sym (stands-shows w homes versions_step (step w.world (original w.world.program) from_original).after step-there).loaded
      ∙ (step-loaded (RunsIn w.versions) w.world has.fit (listing_of w.versions) (set-up-runs w homes has).listing s (attempt-sound hand once e)
      ∙ (ap (λ l. s.shared.loaded ++ l) nothing ∙ append-nil s.shared.loaded)))

  pub hand-loaded : whole.after.shared.loaded ≡ s.shared.loaded
  hand-loaded = by-moves hand.moves refl h.same

-- ---- the machine

module _ (w : Setup) (hand : Hand) (started broken : Bool) (clock : ℕ) (s : State) (is : IsMachine w hand (state_seen w s started broken clock hand) s)
    (v : View) (view : state_seen w s started broken clock hand ≡ v) (whole : v.broken ≡ false) where
  unbroken : broken ≡ false
  unbroken = ap (λ (x : View). x.broken) view ∙ whole

  -- a step is in hand after the start alone
  busy-started : (b : Bool) → started ≡ b → is_resting v ≡ false → b ≡ true
  busy-started true e busy = refl
  busy-started false e busy =
      let before_the_run = is.before_the_run e in
      absurd (let f : true ≡ false = sym (ap₂ (λ n delivered. n == 0 && not delivered) before_the_run.passed before_the_run.delivered) ∙ (ap is_resting view ∙ busy) in cc)

  busy-loaded : is_resting v ≡ false → s.shared.loaded ≡ (run_state v).shared.loaded
  busy-loaded busy =
      let w_is = is.whole unbroken in
      let resting : is_resting (state_seen w s started broken clock hand) ≡ false = ap is_resting view ∙ busy in
      sym (hand-loaded w is.homes is.has (turn w.world clock) hand (helds (mark_of w.versions) s.stack) s (w_is.in_hand resting) (w_is.sound resting))
      ∙ (ap (λ b. (if b then run w.world clock else before w.world).shared.loaded) (sym (busy-started started refl busy))
      ∙ ap (λ (x : View). (run_state x).shared.loaded) view)

  loaded-by : (b : Bool) → is_resting v ≡ b → s.shared.loaded ≡ (run_state v).shared.loaded
  loaded-by true resting = (rest-shows w hand started broken clock s is v view whole resting).loaded
  loaded-by false busy = busy-loaded busy

  pub run-loaded : s.shared.loaded ≡ (run_state v).shared.loaded
  run-loaded = loaded-by (is_resting v) refl
