-- What is in hand of a step that has gone on at an instruction, and that what is left is sound.
use Rattle.std.proofs.Common.{◌≡◌, ℕ, Bool, true, false, List, Some, refl, sym, ap, ◌∙◌}
use Rattle.std.specs.Prelude.{◌||◌}
use Rattle.jvm_model.specs.declared.due.Due.{Due}
use Rattle.jvm_model.specs.declared.due.Due.TheVariants.{Nothing}
use Rattle.jvm_model.specs.declared.state.State.{State}
use Rattle.jvm_model.specs.Basis.Data.{Turn}
use Rattle.jvm_model.specs.Running.Run.{starts_with}
use Rattle.jvm_model.specs.Turns.Told.{Held}
use Rattle.prepared_code.specs.declared.initializations.Initialization.{Initialization}
use Rattle.interpreter.specs.declared.turns.hands.Gone.{Gone}
use Rattle.interpreter.specs.declared.turns.hands.Hand.{Hand}
use Rattle.prepared_code.specs.declared.parts.Parts.{Parts}
use Rattle.prepared_code.specs.Versions.{Setup, listing_of}
use Rattle.instructions.specs.Acts.{is_at_rest}
use Rattle.prepared_code.specs.Initializations.{state_of}
use Rattle.prepared_code.specs.Ready.{CanRun, IsSoundIn}
use Rattle.prepared_code.specs.Standing.{HasVersions}
use Rattle.interpreter.specs.Moves.Quickly.{GoesQuickly, TriesQuickly, passed_there}
use Rattle.interpreter.specs.Moves.Hands.{HasGoneOn, HasInHand, IsLeft, goes_as}
use Rattle.interpreter.specs.Moves.Trying.{tried_in}
use Rattle.activations.specs.Turning.{goes_by_moves, loads_none, pause_at}
use Rattle.interpreter.proofs.Moves.HandLaws.{attempt-sound, hands-on, moves-sound, reaches-attempt, reaches-moves, start-sound}
use Rattle.instructions.proofs.Moves.LineSteps.{rest-moves}
use Rattle.interpreter.proofs.Moves.OneMove.{rest-pauses}

module _ (w : Setup) (ms : List Initialization) (hand : Hand) (p : Parts) (gone : Gone) (left : IsLeft gone) where
  abbrev s : State
  s = state_of ms p

  -- moves are left of it, and none applies
  pub quick-moves : hand.moves ≡ true → hand.delivered ≡ false → is_at_rest ms p ≡ true → gone.due ≡ Nothing → gone.hand.passed ≡ hand.passed → GoesQuickly w ms hand p gone p
  quick-moves moves undelivered rests due counts =
      let paused = sym (rest-pauses w hand.passed s (rest-moves w (listing_of w.versions) ms p rests)) in
      record {
        loads = ap (λ b. b || loads_none w s) moves;
        reaches = reaches-moves w hand s s hand.passed Nothing gone counts due moves (paused ∙ ap (λ b. goes_by_moves w b hand.passed s) (sym undelivered));
        left = left;
        loaded = refl;
        world = refl;
        keeps = λ k superseded runs. runs;
      }

  -- an attempt is left of it
  pub quick-tries : (after : Parts) (due : Due) → hand.moves ≡ false → hand.passed ≡ 0 → TriesQuickly w ms hand.delivered p due after → gone.due ≡ due
      → gone.hand.passed ≡ passed_there due → GoesQuickly w ms hand p gone after
  quick-tries after due moves first tries is_due counts = record {
    loads = ap (λ b. b || loads_none w s) moves ∙ tries.loads;
    reaches = reaches-attempt w hand s (state_of ms after) (passed_there due) due gone counts is_due moves (Some due) refl
        (tries.reaches ∙ ap (λ n. tried_in w hand.delivered n s) (sym first));
    left = left;
    loaded = tries.loaded;
    world = tries.world;
    keeps = tries.keeps;
  }

module _ (w : Setup) (ms : List Initialization) (hand : Hand) (p : Parts) (gone : Gone) (after : Parts) (goes : GoesQuickly w ms hand p gone after) where
  abbrev old : State
  old = state_of ms p

  abbrev new : State
  new = state_of ms after

  pub hands-quickly : (homes : ℕ → ℕ → ℕ) (turn : Turn) (live : List Held) → HasVersions w homes → HasInHand w homes turn hand live old
      → HasGoneOn w homes turn hand live gone new
  hands-quickly homes turn live has in_hand = hands-on w homes has turn hand live old in_hand gone new goes.reaches

  goes-as : (b : Bool) → hand.moves ≡ b → pause_at new gone.hand.passed gone.due ≡ goes_as w b hand.delivered hand.passed old
  goes-as b e = goes.reaches ∙ ap (λ m. goes_as w m hand.delivered hand.passed old) e

  pub sound-quickly : CanRun w → IsSoundIn w old → IsSoundIn w new
  sound-quickly run is = by hand.moves refl where
    by : (b : Bool) → hand.moves ≡ b → IsSoundIn w new
    by true e = moves-sound w run old new hand.delivered hand.passed gone.hand.passed gone.due (goes-as true e) is
    by false e =
        attempt-sound w run old new (Some gone.due) hand.delivered hand.passed gone.hand.passed (sym goes.loads ∙ ap (λ b. b || loads_none w old) e)
        (goes-as false e) tt is

  pub start-quickly : CanRun w → hand.moves ≡ true → hand.delivered ≡ false → old ≡ starts_with w.world → IsSoundIn w new
  start-quickly run moves undelivered start =
      start-sound w run old new hand.delivered hand.passed gone.hand.passed gone.due (goes-as true moves) undelivered start
