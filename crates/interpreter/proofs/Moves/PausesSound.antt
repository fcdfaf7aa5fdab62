-- Wherever a step stops, the state is sound there.
use Rattle.std.proofs.Common.{◌≡◌, ℕ, zero, suc, Bool, true, false, List, [], ◌∷◌, drop, Option, Some, None, refl, sym, ap, subst, ◌∙◌}
use Rattle.std.specs.Prelude.{not, ◌&&◌}
use Rattle.std.specs.List.{AllByRecursion}
use Rattle.std.specs.Option.{IfSome, option_map_or}
use Rattle.jvm_model.specs.declared.due.Due.{Due}
use Rattle.jvm_model.specs.declared.due.Due.TheVariants.{Nothing, Ends, Begins}
use Rattle.jvm_model.specs.declared.ending.Ending.{Ending}
use Rattle.jvm_model.specs.declared.event.Mark.{Mark}
use Rattle.jvm_model.specs.declared.state.Entry.{Entry}
use Rattle.jvm_model.specs.declared.state.Entry.TheVariants.{Active, Initializing}
use Rattle.jvm_model.specs.declared.state.Frame.{Frame}
use Rattle.jvm_model.specs.declared.state.State.{State}
use Rattle.jvm_model.specs.Basis.Data.{Change, Instruction, Listing, Turn}
use Rattle.jvm_model.specs.Running.Applies.{live_in}
use Rattle.jvm_model.specs.Running.Between.{changes_between}
use Rattle.jvm_model.specs.Turns.InHand.{frame_popped}
use Rattle.jvm_model.specs.Running.Moves.{moves_left, move}
use Rattle.jvm_model.specs.Turns.Pauses.{Pause, changes_due, passed_by, pause_by, step_paused, pauses}
use Rattle.jvm_model.specs.Turns.Rest.{classes_loaded_at, loads_on}
use Rattle.jvm_model.specs.Running.Run.{with_classes_loaded}
use Rattle.jvm_model.specs.Soundness.SoundListings.{IsSoundEntry}
use Rattle.jvm_model.specs.Turns.StepPauses.{pause_behind, stack_pause}
use Rattle.jvm_model.specs.Turns.Told.{helds, mark_now}
use Rattle.jvm_model.proofs.Turns.AttemptPauses.{settled-there}
use Rattle.jvm_model.proofs.Soundness.SoundListingRuns.{sound-loaded}
use Rattle.jvm_model.proofs.Soundness.SoundListingSteps.{GoesTo, moves-go}
use Rattle.instructions.specs.Acts.{attempts_on, awaited_in}
use Rattle.prepared_code.specs.Ready.{CanRun, IsSoundIn, RunsIn}
use Rattle.activations.specs.Turning.{goes_by_moves, loads_in, paused_in}
use Rattle.interpreter.specs.Moves.Trying.{leaves_at, pause_behind_attempt, tried_in, tries_again}
use Rattle.prepared_code.specs.Versions.{Setup, listing_of, mark_of}
use Rattle.instructions.proofs.Moves.LineSteps.{IsGoing, behind, going-again}
use Rattle.instructions.proofs.Moves.Sounded.{attempted-sound}
use Rattle.interpreter.proofs.Moves.TriedSteps.{again-nothing, again-ready, told-first, told-silent, tried-again, tried-once, tried-stays}

module _ (w : Setup) (run : CanRun w) where
  abbrev t : Listing
  t = listing_of w.versions

  abbrev Sound : State → Type 0
  Sound s = IsSoundIn w s

  -- ---- moves

  by-due : (before : State) (next : Turn) (n : ℕ) (d : Due) (later : Pause) → Sound before → Sound next.after → Sound later.state
      → Sound (pause_by before next.after n next.changes d later).state
  by-due before next n Nothing later one two three = three
  by-due before next n (Ends k) later one two three = one
  by-due before next n Begins later one two three = two

  by-move : (v : ℕ → Mark) (k n : ℕ) (s : State) → Sound s → ((m : ℕ) (x : State) → Sound x → Sound (pauses w.world t v k m x).state) → (found : Option Turn)
      → IfSome found (λ next. GoesTo (RunsIn w.versions) w.world.program s.shared.loaded next.after)
      → Sound (option_map_or (λ (next : Turn). pause_by s next.after n next.changes (changes_due (mark_now v t) (helds v s.stack) next.changes)
      (pauses w.world t v k (passed_by n next.changes) next.after)) found (record { state = s; passed = n; due = Nothing })).state
  by-move v k n s is later None goes = is
  by-move v k n s is later (Some next) goes =
      by-due s next n (changes_due (mark_now v t) (helds v s.stack) next.changes) (pauses w.world t v k (passed_by n next.changes) next.after) is goes.sound
      (later (passed_by n next.changes) next.after goes.sound)

  pauses-sound : (v : ℕ → Mark) (k n : ℕ) (s : State) → Sound s → Sound (pauses w.world t v k n s).state
  pauses-sound v zero n s is = is
  pauses-sound v (suc k) n s is =
      by-move v k n s is (pauses-sound v k) (move w.world t s)
      (moves-go (RunsIn w.versions) w.world run.fit t run.listing s is s.ending s.thrown s.stack refl is.stack)

  pub paused-sound : (n : ℕ) (s : State) → Sound s → Sound (paused_in w n s).state
  paused-sound n s is = pauses-sound (mark_of w.versions) (moves_left s) n s is

  -- without the current frame
  all-below : (Holds : Entry → Type 0) (stack : List Entry) → AllByRecursion Holds stack → AllByRecursion Holds (drop 1 stack)
  all-below Holds [] each = tt
  all-below Holds (e ∷ below) each = each.1

  popped-sound : (s : State) → Sound s → Sound (frame_popped s)
  popped-sound s is = record {
    shared = is.shared;
    stack = all-below (IsSoundEntry (RunsIn w.versions) w.world.program s.shared.loaded) s.stack is.stack;
    main = is.main;
  }

  pub moved-sound : (delivered : Bool) (n : ℕ) (s : State) → Sound s → Sound (goes_by_moves w delivered n s).state
  moved-sound true n s is = paused-sound (suc n) (frame_popped s) (popped-sound s is)
  moved-sound false n s is = paused-sound n s is

  -- ---- behind an attempt

  behind-sound : (d : Due) (begun later : Pause) → Sound begun.state → Sound later.state → Sound (pause_behind d begun later).state
  behind-sound Begins begun later one two = one
  behind-sound Nothing begun later one two = two
  behind-sound (Ends k) begun later one two = two

  pub followed-sound : (live n : ℕ) (s : State) → Sound s → Sound (pause_behind_attempt w live n s).state
  followed-sound live n s is =
      let changes : List Change = changes_between live s.stack in
      behind-sound (changes_due (mark_now (mark_of w.versions) t) [] changes) (record { state = s; passed = passed_by n changes; due = Begins })
      (step_paused w.world t (mark_of w.versions) (passed_by n changes) s) is (paused-sound (passed_by n changes) s is)

  -- ---- behind the classes that it loads

  at-sound : (s : State) (f : Frame) (io : Option Instruction) → Sound s → Sound (with_classes_loaded (classes_loaded_at w.world s f io) s)
  at-sound s f None is = is
  at-sound s f (Some i) is = sound-loaded (RunsIn w.versions) w.world i.operation f.operands s is

  on-sound : (s : State) (ending : Option Ending) (stack : List Entry) → Sound s → Sound (with_classes_loaded (loads_on w.world t s ending stack) s)
  on-sound s (Some e) stack is = is
  on-sound s None [] is = is
  on-sound s None (Active f ∷ below) is = at-sound s f (t.at f.version f.place) is
  on-sound s None (Initializing c part ∷ below) is = is

  pub loaded-sound : (s : State) → Sound s → Sound (with_classes_loaded (loads_in w s) s)
  loaded-sound s is = on-sound s s.ending s.stack is

-- ---- wherever a step stops that begins with an attempt

module _ (w : Setup) (run : CanRun w) (n : ℕ) (s : State) (is : IsSoundIn w s) (none : loads_in w s ≡ []) where
  abbrev pub mid : State
  mid = attempts_on w s s.stack

  module _ (going : IsGoing s) where
    abbrev first : Pause
    first = pause_behind_attempt w (live_in s.stack) n mid

    mid-sound : IsSoundIn w mid
    mid-sound = attempted-sound w run s going is

    first-sound : IsSoundIn w first.state
    first-sound = followed-sound w run (live_in s.stack) n mid mid-sound

    twice-sound : (c : ℕ) → awaited_in w s ≡ Some c → tries_again n c first ≡ true → IsSoundIn w (tried_in w true n s).state
    twice-sound c awaits again =
        let settles : first.state ≡ behind w mid =
        settled-there w.world (listing_of w.versions) (mark_of w.versions) n (changes_between (live_in s.stack) mid.stack) mid (again-nothing n c first again) in
        let ready = again-ready n c first again in
        subst (λ (p : Pause). IsSoundIn w p.state) (sym (tried-again w run n s going none c awaits settles ready again))
        (followed-sound w run (live_in s.stack) n (attempts_on w first.state first.state.stack)
        (attempted-sound w run first.state (going-again w run s going c awaits mid first.state refl settles ready) first-sound))

    awaits-sound : (o : Option ℕ) → awaited_in w s ≡ o → IsSoundIn w (tried_in w true n s).state
    awaits-sound None awaits = subst (λ (p : Pause). IsSoundIn w p.state) (sym (tried-once w run n s going none awaits)) first-sound
    awaits-sound (Some c) awaits = by (tries_again n c first) refl where
      by : (b : Bool) → tries_again n c first ≡ b → IsSoundIn w (tried_in w true n s).state
      by true again = twice-sound c awaits again
      by false isnt = subst (λ (p : Pause). IsSoundIn w p.state) (sym (tried-stays w run n s going none c awaits isnt)) first-sound

    going-sound : (delivered : Bool) → IsSoundIn w (tried_in w delivered n s).state
    going-sound delivered = by (not delivered && leaves_at w.versions going.frame.version going.frame.place) refl where
      by : (b : Bool) → (not delivered && leaves_at w.versions going.frame.version going.frame.place) ≡ b → IsSoundIn w (tried_in w delivered n s).state
      by true due = subst (λ (p : Pause). IsSoundIn w p.state) (sym (told-first w run n s going delivered due)) is
      by false isnt =
          subst (λ (p : Pause). IsSoundIn w p.state) (told-silent w run n s going delivered isnt) (awaits-sound (awaited_in w s) refl)

  abbrev stopped : Bool → Option Ending → List Entry → State
  stopped delivered ending stack = (stack_pause w.world (listing_of w.versions) (mark_of w.versions) delivered n s ending stack).state

  stack-sound : (delivered : Bool) (ending : Option Ending) (stack : List Entry) → s.ending ≡ ending → s.stack ≡ stack → IsSoundIn w (tried_in w delivered n s).state
  stack-sound delivered (Some e) stack on at = subst (IsSoundIn w) (sym (ap (λ x. stopped delivered x s.stack) on)) is
  stack-sound delivered None [] on at = subst (IsSoundIn w) (sym (ap (λ x. stopped delivered x s.stack) on ∙ ap (stopped delivered None) at)) is
  stack-sound delivered None (Initializing c part ∷ below) on at = subst (IsSoundIn w) (sym (ap (λ x. stopped delivered x s.stack) on ∙ ap (stopped delivered None) at)) is
  stack-sound delivered None (Active f ∷ below) on at = going-sound (record { frame = f; rest = below; ending = on; stack = at }) delivered

  pub tried-sound : (delivered : Bool) → IsSoundIn w (tried_in w delivered n s).state
  tried-sound delivered = stack-sound delivered s.ending s.stack refl refl
