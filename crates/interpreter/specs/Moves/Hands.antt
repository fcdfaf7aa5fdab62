-- What is in hand of a step over versions, between two turns of a machine.
use Rattle.std.specs.Prelude.{◌≡◌, ℕ, Bool, true, false, List}
use Rattle.jvm_model.specs.declared.state.State.{State}
use Rattle.jvm_model.specs.Basis.Data.{Turn}
use Rattle.jvm_model.specs.Turns.InHand.{GoesOn, InHand, Versioned}
use Rattle.jvm_model.specs.Codes.Originals.{original}
use Rattle.jvm_model.specs.Turns.Pauses.{Pause, is_end, later_of}
use Rattle.jvm_model.specs.Turns.Rest.{Todo, Attempt, Moves}
use Rattle.jvm_model.specs.Turns.Told.{Held}
use Rattle.interpreter.specs.declared.turns.hands.Gone.{Gone}
use Rattle.interpreter.specs.declared.turns.hands.Hand.{Hand}
use Rattle.prepared_code.specs.Standing.{places_of}
use Rattle.interpreter.specs.Moves.Trying.{tried_in}
use Rattle.activations.specs.Turning.{goes_by_moves, pause_at}
use Rattle.prepared_code.specs.Versions.{Setup, current_of, method_of, mark_of}

abbrev pub todo_of : Bool → Todo
todo_of true = Moves
todo_of false = Attempt

-- the versions with their marks, and where their places stand
abbrev pub versioned_in : Setup → (ℕ → ℕ → ℕ) → Versioned
versioned_in w homes = record {
  norm = places_of w.world.program;
  method_of = method_of w.versions;
  homes = homes;
  mark_of = mark_of w.versions;
}

-- the rest of this whole step of original code is in hand
abbrev pub HasInHand : Setup → (ℕ → ℕ → ℕ) → Turn → Hand → List Held → State → Type 0
HasInHand w homes turn hand live s =
    InHand w.world (original w.world.program) (versioned_in w homes) turn hand.passed hand.delivered live (todo_of hand.moves) s

-- where it goes on to
abbrev pub goes_as : Setup → Bool → Bool → ℕ → State → Pause
goes_as w true delivered n s = goes_by_moves w delivered n s
goes_as w false delivered n s = tried_in w delivered n s

abbrev pub goes_in : Setup → Hand → State → Pause
goes_in w hand s = goes_as w hand.moves hand.delivered hand.passed s

abbrev pub HasGoneOn : Setup → (ℕ → ℕ → ℕ) → Turn → Hand → List Held → Gone → State → Type 0
HasGoneOn w homes turn hand live gone s =
    GoesOn w.world (original w.world.program) (versioned_in w homes) (current_of w.versions) turn hand.passed hand.delivered live
    (pause_at s gone.hand.passed gone.due)

-- what is left there: whether an end was told, and whether moves alone are left
pub record IsLeft (gone : Gone) : Type 0 where
  pub delivered : gone.hand.delivered ≡ is_end gone.due
  pub moves : todo_of gone.hand.moves ≡ later_of gone.due
