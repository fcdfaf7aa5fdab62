-- A step in hand goes on: what is in hand then, and that all of it stays sound.
use Rattle.std.proofs.Common.{◌≡◌, ℕ, Bool, true, false, List, Option, Some, None, refl, sym, ap, subst, ◌∙◌}
use Rattle.std.specs.Prelude.{is_some, IfNone}
use Rattle.std.specs.Option.{IfSome}
use Rattle.jf_bytes.proofs.Lists.{empty_from_length}
use Rattle.jvm_model.specs.declared.due.Due.{Due}
use Rattle.jvm_model.specs.declared.state.State.{State}
use Rattle.jvm_model.specs.Basis.Data.{Turn}
use Rattle.jvm_model.specs.Turns.InHand.{GoesOn, goes_from, frame_popped}
use Rattle.jvm_model.specs.Codes.Originals.{original}
use Rattle.jvm_model.specs.Turns.Pauses.{Pause}
use Rattle.jvm_model.specs.Running.Run.{starts_with, with_classes_loaded}
use Rattle.jvm_model.specs.Turns.Told.{Held}
use Rattle.jvm_model.proofs.Relocated.ClosedPrograms.{program-agrees}
use Rattle.jvm_model.proofs.Turns.GoesAll.{all-goes}
use Rattle.jvm_model.proofs.Running.OnlyReturns.{ends-by-return}
use Rattle.interpreter.specs.declared.turns.hands.Gone.{Gone}
use Rattle.interpreter.specs.declared.turns.hands.Hand.{Hand}
use Rattle.interpreter.specs.Moves.Hands.{HasGoneOn, HasInHand, goes_as, goes_in, todo_of, versioned_in}
use Rattle.prepared_code.specs.Ready.{CanRun, IsSoundIn}
use Rattle.prepared_code.specs.Standing.{HasVersions, places_of}
use Rattle.activations.specs.Turning.{goes_by_moves, loads_in, loads_none, pause_at}
use Rattle.interpreter.specs.Moves.Trying.{tried_in}
use Rattle.prepared_code.specs.Versions.{Setup, current_of, listing_of}
use Rattle.interpreter.proofs.Moves.PausesSound.{loaded-sound, moved-sound, tried-sound}
use Rattle.interpreter.proofs.Loads.StartSound.{starts-sound}
use Rattle.prepared_code.proofs.Tables.VersionsAgree.{versions-agree}

-- ---- the rest of the same step is in hand

module _ (w : Setup) (homes : ℕ → ℕ → ℕ) (has : HasVersions w homes) where
  goes-same : (moves delivered : Bool) (n : ℕ) (s : State) → goes_from w.world (listing_of w.versions) (versioned_in w homes) delivered n (todo_of moves) s (frame_popped s) ≡ goes_as w moves delivered n s
  goes-same true true n s = refl
  goes-same true false n s = refl
  goes-same false delivered n s = refl

  pub hands-on : (turn : Turn) (hand : Hand) (live : List Held) (s : State) → HasInHand w homes turn hand live s → (gone : Gone) (new : State)
      → pause_at new gone.hand.passed gone.due ≡ goes_in w hand s → HasGoneOn w homes turn hand live gone new
  hands-on turn hand live s in_hand gone new reaches =
      subst (GoesOn w.world (original w.world.program) (versioned_in w homes) (current_of w.versions) turn hand.passed hand.delivered live)
      (goes-same hand.moves hand.delivered hand.passed s ∙ sym reaches)
      (all-goes w.world (original w.world.program) (versioned_in w homes) (program-agrees w.world.program has.closed) (current_of w.versions) (listing_of w.versions)
      (versions-agree w.world.program (places_of w.world.program) homes w.versions has.are) (ends-by-return w.world) turn hand.passed live hand.delivered (todo_of hand.moves) s in_hand)

-- ---- what is left is sound

module _ (w : Setup) (run : CanRun w) (s new : State) where
  -- by moves
  pub moves-sound : (delivered : Bool) (n passed : ℕ) (due : Due) → pause_at new passed due ≡ goes_by_moves w delivered n s → IsSoundIn w s → IsSoundIn w new
  moves-sound delivered n passed due reaches is = subst (IsSoundIn w) (ap (λ (p : Pause). p.state) (sym reaches)) (moved-sound w run delivered n s is)

  -- by those of the start
  pub start-sound : (delivered : Bool) (n passed : ℕ) (due : Due) → pause_at new passed due ≡ goes_by_moves w delivered n s → delivered ≡ false → s ≡ starts_with w.world → IsSoundIn w new
  start-sound delivered n passed due reaches undelivered start =
      subst (IsSoundIn w) (ap (λ (p : Pause). p.state) (sym (reaches ∙ ap (λ b. goes_by_moves w b n s) undelivered))) (starts-sound w run n s start)

  -- from an attempt
  pub attempt-sound : (o : Option Due) (delivered : Bool) (n passed : ℕ) → is_some o ≡ loads_none w s
      → IfSome o (λ due. pause_at new passed due ≡ tried_in w delivered n s) → IfNone o (new ≡ with_classes_loaded (loads_in w s) s) → IsSoundIn w s → IsSoundIn w new
  attempt-sound (Some due) delivered n passed some reaches loads is =
      subst (IsSoundIn w) (ap (λ (p : Pause). p.state) (sym reaches)) (tried-sound w run n s is (empty_from_length (loads_in w s) (sym some)) delivered)
  attempt-sound None delivered n passed some reaches loads is = subst (IsSoundIn w) (sym loads) (loaded-sound w run s is)

-- ---- where it has stopped

module _ (w : Setup) (hand : Hand) (s new : State) (passed : ℕ) (due : Due) (gone : Gone) (counts : gone.hand.passed ≡ passed) (is_due : gone.due ≡ due) where
  there : pause_at new gone.hand.passed gone.due ≡ pause_at new passed due
  there = ap (λ n. pause_at new n gone.due) counts ∙ ap (pause_at new passed) is_due

  pub reaches-moves : hand.moves ≡ true → pause_at new passed due ≡ goes_by_moves w hand.delivered hand.passed s → pause_at new gone.hand.passed gone.due ≡ goes_in w hand s
  reaches-moves moves reaches = there ∙ (reaches ∙ ap (λ b. goes_as w b hand.delivered hand.passed s) (sym moves))

  pub reaches-attempt : hand.moves ≡ false → (o : Option Due) → o ≡ Some due → IfSome o (λ due. pause_at new passed due ≡ tried_in w hand.delivered hand.passed s)
      → pause_at new gone.hand.passed gone.due ≡ goes_in w hand s
  reaches-attempt moves o is reaches =
      there
      ∙ (subst (λ x. IfSome x (λ due. pause_at new passed due ≡ tried_in w hand.delivered hand.passed s)) is reaches
      ∙ ap (λ b. goes_as w b hand.delivered hand.passed s) (sym moves))
