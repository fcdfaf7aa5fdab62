-- The start leaves a sound state where it stops.
use Rattle.std.proofs.Common.{◌≡◌, ℕ, [], Option, Some, None, sym, ap, subst, ◌∙◌, ◌⊎◌, inl, inr}
use Rattle.std.specs.List.{AllByRecursion}
use Rattle.std.specs.Option.{option_map_or}
use Rattle.jvm_model.specs.declared.due.Due.TheVariants.{Nothing}
use Rattle.jvm_model.specs.declared.event.Mark.{Mark}
use Rattle.jvm_model.specs.declared.ending.Ending.TheVariants.{Uncaught}
use Rattle.jvm_model.specs.declared.state.State.{State}
use Rattle.jvm_model.specs.Basis.Data.{Listing, Turn, World}
use Rattle.jvm_model.specs.Running.Applies.{still}
use Rattle.jvm_model.specs.Running.Moves.{move, moves}
use Rattle.jvm_model.specs.Turns.Pauses.{Pause, changes_due, passed_by, pause_by, step_paused}
use Rattle.jvm_model.specs.Running.Run.{starts_with}
use Rattle.jvm_model.specs.Basis.SharedState.{arguments_fit, class_of}
use Rattle.jvm_model.specs.Soundness.SoundListings.{IsSoundEntry}
use Rattle.jvm_model.specs.Turns.Told.{helds, mark_now}
use Rattle.jvm_model.proofs.Turns.LoopOfPauses.{paused-move}
use Rattle.jvm_model.proofs.Soundness.SoundStart.{IsRefused, begins-if}
use Rattle.prepared_code.specs.Ready.{CanRun, IsSoundIn, RunsIn}
use Rattle.activations.specs.Turning.{paused_in}
use Rattle.prepared_code.specs.Versions.{Setup, listing_of, mark_of}
use Rattle.interpreter.proofs.Moves.PausesSound.{paused-sound}

-- where it was refused the run has ended behind the one move that is made
module _ (w : World) (t : Listing) (v : ℕ → Mark) (n : ℕ) (s : State) (object : ℕ) where
  abbrev over : State
  over = record s { ending = Some (Uncaught (class_of w.program s.shared object)) }

  abbrev one : State → Option Turn → Pause
  one x found =
      option_map_or (λ (next : Turn). pause_by x next.after n next.changes (changes_due (mark_now v t) (helds v x.stack) next.changes)
      (step_paused w t v (passed_by n next.changes) next.after)) found (record { state = x; passed = n; due = Nothing })

  moves-over : s.ending ≡ None → s.thrown ≡ Some object → s.stack ≡ [] → move w t s ≡ Some (still over)
  moves-over on threw none =
      ap (λ e. moves w t s e s.thrown s.stack) on ∙ (ap (λ o. moves w t s None o s.stack) threw ∙ ap (moves w t s None (Some object)) none)

  pub refused-over : s.ending ≡ None → s.thrown ≡ Some object → s.stack ≡ [] → (step_paused w t v n s).state ≡ over
  refused-over on threw none =
      ap (λ (p : Pause). p.state)
      (paused-move w t v n s ∙ (ap (one s) (moves-over on threw none) ∙ paused-move w t v n over))

module _ (w : Setup) (run : CanRun w) (n : ℕ) where
  refused-sound : (s : State) → IsRefused (RunsIn w.versions) w.world run.fit s → IsSoundIn w (paused_in w n s).state
  refused-sound s is =
      subst (IsSoundIn w) (sym (refused-over w.world (listing_of w.versions) (mark_of w.versions) n s is.object is.ending is.thrown is.stack)) (record {
        shared = is.shared;
        stack = subst (λ stack. AllByRecursion (IsSoundEntry (RunsIn w.versions) w.world.program s.shared.loaded) stack) (sym is.stack) tt;
        main = λ on. absurd (let e : Some (Uncaught (class_of w.world.program s.shared is.object)) ≡ None = on in cc);
      })

  either-sound : (s : State) → IsSoundIn w s ⊎ IsRefused (RunsIn w.versions) w.world run.fit s → IsSoundIn w (paused_in w n s).state
  either-sound s (inl is) = paused-sound w run n s is
  either-sound s (inr is) = refused-sound s is

  pub starts-sound : (s : State) → s ≡ starts_with w.world → IsSoundIn w (paused_in w n s).state
  starts-sound s start =
      subst (λ x. IsSoundIn w (paused_in w n x).state) (sym start)
      (either-sound (starts_with w.world) (begins-if (RunsIn w.versions) w.world run.fit (arguments_fit w.world.program)))
