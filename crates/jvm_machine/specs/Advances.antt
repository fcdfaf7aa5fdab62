-- How one call of `step` goes on with what is seen.
use Rattle.std.specs.Prelude.{◌≡◌, ℕ, ◌+◌, ◌<◌, Bool, true, false, List, [], length, if◌then◌else◌}
use Rattle.jvm_model.specs.declared.due.Due.{Due}
use Rattle.jvm_model.specs.declared.due.Due.TheVariants.{Nothing, Ends, Begins}
use Rattle.jvm_model.specs.declared.state.State.{State}
use Rattle.jvm_model.specs.Basis.Data.{World}
use Rattle.jvm_model.specs.Turns.InHand.{behind_load}
use Rattle.jvm_model.specs.Running.Run.{main_loads, starts_with}
use Rattle.interpreter.specs.declared.turns.hands.Gone.{Gone}
use Rattle.interpreter.specs.declared.turns.hands.Hand.{Hand}
use Rattle.jvm_machine.specs.declared.advancing.Telling.{Telling}
use Rattle.jvm_machine.specs.declared.advancing.Telling.TheVariants as telling
use Rattle.jvm_machine.specs.View.{View, step_begun, is_resting, loads_next, next_stop, step_rested, step_stopped}

-- ---- what is in hand is taken up, or the start, or the next step

abbrev pub taken_hand : World → Bool → Bool → Hand → Hand
taken_hand w false started hand = hand
taken_hand w true true hand = record { moves = false; delivered = false; passed = 0 }
taken_hand w true false hand = record { moves = true; delivered = false; passed = behind_load (main_loads w) }

-- what that loads; a step loads its classes later
abbrev pub taken_loads : World → Bool → Bool → List ℕ
taken_loads w true false = main_loads w
taken_loads w _ _ = []

abbrev pub taken_state : World → Bool → Bool → State → State
taken_state w true false s = starts_with w
taken_state w true true s = s
taken_state w false started s = s

abbrev pub clock_in : Bool → Bool → ℕ → ℕ
clock_in resting started clock = if resting then (if started then clock + 1 else 0) else clock

-- ---- where it stops

-- nothing is in hand where a step is done
abbrev pub passed_then : Due → ℕ → ℕ
passed_then Nothing passed = 0
passed_then (Ends k) passed = passed
passed_then Begins passed = passed

abbrev pub left_in : Gone → Hand
left_in gone = record gone.hand { passed = passed_then gone.due gone.hand.passed }

abbrev pub told_in : View → Due → View
told_in v Nothing = step_rested v
told_in v (Ends k) = step_stopped v
told_in v Begins = step_stopped v

abbrev pub broken_in : View → View → View
broken_in old new = record (step_begun old) { broken = true; passed = new.passed; delivered = new.delivered; live = new.live }

-- it tells classes, which were loaded before anything else
pub record TellsClasses (old : View) (classes : List ℕ) (new : View) : Type 0 where
  pub first : is_resting old ≡ true
  pub some : 0 < length classes
  pub loads : loads_next (step_begun old) ≡ classes
  pub stepped : new ≡ record (step_begun old) { passed = 1 }

-- or it has come to the next stop
pub record Stops (old : View) (due : Due) (new : View) : Type 0 where
  pub loads : loads_next (step_begun old) ≡ []
  pub due_is : (next_stop (step_begun old)).due ≡ due
  pub stepped : new ≡ told_in (step_begun old) due

abbrev pub Advances : View → Telling → View → Type 0
Advances old (telling.Classes classes) new = TellsClasses old classes new
Advances old (telling.Due due) new = Stops old due new
