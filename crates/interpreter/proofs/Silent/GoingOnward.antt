-- A step that tells nothing is made, or none; then several, and what the next one has come to.
use Rattle.std.proofs.Common.{◌≡◌, ◌+◌, ℕ, Bool, true, false, List, Some, refl, sym, subst, arith}
use Rattle.std.proofs.lemmas.Bool.{false≢true}
use Rattle.jvm_model.specs.declared.due.Due.{Due}
use Rattle.jvm_model.specs.declared.due.Due.TheVariants.{Begins, Ends, Nothing}
use Rattle.jvm_model.specs.declared.event.Mark.{Mark}
use Rattle.jvm_model.specs.declared.event.Mark.TheVariants.{Off, Plain, Root}
use Rattle.jvm_model.specs.Rewriting.Images.{is_off}
use Rattle.prepared_code.specs.declared.initializations.Initialization.{Initialization}
use Rattle.prepared_code.specs.declared.parts.Parts.{Parts}
use Rattle.prepared_code.specs.Ready.{CanRun}
use Rattle.prepared_code.specs.Versions.{Setup}
use Rattle.interpreter.specs.declared.turns.hands.Gone.{Gone}
use Rattle.interpreter.specs.Moves.Passing.{Passes, steps_if}
use Rattle.interpreter.specs.Moves.Quickly.{GoesQuickly, TriesQuickly, passed_there}
use Rattle.interpreter.specs.Moves.Hands.{IsLeft}
use Rattle.interpreter.specs.Moves.Onward.{GoesOnward, StopsQuickly, empty_hand, is_telling, made_if}
use Rattle.interpreter.proofs.Silent.SilentSteps.{passes-on}
use Rattle.interpreter.proofs.Moves.QuickHands.{hands-quickly, quick-tries, sound-quickly}

pub onward-if : (w : Setup) (ms : List Initialization) (old new : Parts) (b : Bool) → Passes w ms old (steps_if b) new → GoesOnward w ms old (made_if b) new
onward-if w ms old new true is = is
onward-if w ms old new false is = is

pub off-by : (mark : Mark) → is_off mark ≡ true → mark ≡ Off
off-by Off is = refl
off-by Plain is = absurd (false≢true is)
off-by Root is = absurd (false≢true is)

module _ (w : Setup) (ms : List Initialization) (old new : Parts) where
  -- nothing is told of it
  pub silent-onward : (due : Due) → is_telling due ≡ false → GoesOnward w ms old (Some due) new → Passes w ms old 1 new
  silent-onward Nothing silent is = is
  silent-onward (Ends k) silent is = absurd (false≢true (sym silent))
  silent-onward Begins silent is = absurd (false≢true (sym silent))

  -- a probe tells of it
  pub told-onward : (due : Due) → is_telling due ≡ true → GoesOnward w ms old (Some due) new → TriesQuickly w ms false old due new
  told-onward Nothing tells is = absurd (false≢true tells)
  told-onward (Ends k) tells is = is
  told-onward Begins tells is = is

  pub stops-onward : CanRun w → (due : Due) (gone : Gone) → TriesQuickly w ms false old due new → IsLeft gone → gone.due ≡ due → gone.hand.passed ≡ passed_there due
      → StopsQuickly w ms old gone new
  stops-onward run due gone tries left is_due counts =
      let goes : GoesQuickly w ms empty_hand old gone new = quick-tries w ms empty_hand old gone left new due refl refl tries is_due counts in
      record {
        goes = goes;
        hands = hands-quickly w ms empty_hand old gone new goes;
        sound = sound-quickly w ms empty_hand old gone new goes run;
      }

-- nothing more was done
pub passes-still : (w : Setup) (ms : List Initialization) (old mid new : Parts) (n : ℕ) → Passes w ms old n mid → Passes w ms mid 0 new → Passes w ms old n new
passes-still w ms old mid new n first none =
    let same : n + 0 ≡ n = omega arith in
    subst (λ k. Passes w ms old k new) same (passes-on w ms old mid new n 0 first none)
