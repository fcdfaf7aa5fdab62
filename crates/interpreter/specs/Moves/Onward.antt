-- Several steps that tell nothing, and the one behind them up to where a probe tells of it.
use Rattle.std.specs.Prelude.{◌≡◌, ℕ, Bool, true, false, List, Option, Some, None}
use Rattle.jvm_model.specs.declared.due.Due.{Due}
use Rattle.jvm_model.specs.declared.due.Due.TheVariants.{Nothing, Ends, Begins}
use Rattle.jvm_model.specs.Basis.Data.{Turn}
use Rattle.jvm_model.specs.Turns.Told.{Held}
use Rattle.prepared_code.specs.declared.initializations.Initialization.{Initialization}
use Rattle.prepared_code.specs.declared.parts.Parts.{Parts}
use Rattle.prepared_code.specs.Initializations.{state_of}
use Rattle.prepared_code.specs.Ready.{IsSoundIn}
use Rattle.prepared_code.specs.Standing.{HasVersions}
use Rattle.prepared_code.specs.Versions.{Setup}
use Rattle.interpreter.specs.declared.turns.hands.Gone.{Gone}
use Rattle.interpreter.specs.declared.turns.hands.Hand.{Hand}
use Rattle.interpreter.specs.declared.turns.hands.Passed.{Passed}
use Rattle.interpreter.specs.Moves.Passing.{Passes}
use Rattle.interpreter.specs.Moves.Quickly.{GoesQuickly, TriesQuickly}
use Rattle.interpreter.specs.Moves.Hands.{HasGoneOn, HasInHand}

-- ---- one line

-- what is due where a method has begun in a version, by whether that has probes
abbrev pub begun_due : Bool → Due
begun_due true = Begins
begun_due false = Nothing

-- a step was made of which nothing is told, or none
abbrev pub made_if : Bool → Option Due
made_if true = Some Nothing
made_if false = None

-- a probe tells there
abbrev pub is_telling : Due → Bool
is_telling Nothing = false
is_telling (Ends k) = true
is_telling Begins = true

-- A step that tells nothing was made, or the step has come to where this is due, or nothing was done.
abbrev pub GoesOnward : Setup → List Initialization → Parts → Option Due → Parts → Type 0
GoesOnward w ms old None new = Passes w ms old 0 new
GoesOnward w ms old (Some Nothing) new = Passes w ms old 1 new
GoesOnward w ms old (Some (Ends k)) new = TriesQuickly w ms false old (Ends k) new
GoesOnward w ms old (Some Begins) new = TriesQuickly w ms false old Begins new

-- ---- several

-- nothing of a step is in hand
abbrev pub empty_hand : Hand
empty_hand = record { moves = false; delivered = false; passed = 0 }

-- The next step has gone on to where a probe tells of it, and the rest of it is in hand there.
pub record StopsQuickly (w : Setup) (ms : List Initialization) (old : Parts) (gone : Gone) (new : Parts) : Type 0 where
  pub goes : GoesQuickly w ms empty_hand old gone new
  pub hands : (homes : ℕ → ℕ → ℕ) (turn : Turn) (live : List Held) → HasVersions w homes → HasInHand w homes turn empty_hand live (state_of ms old)
      → HasGoneOn w homes turn empty_hand live gone (state_of ms new)
  pub sound : IsSoundIn w (state_of ms old) → IsSoundIn w (state_of ms new)

-- it has, or nothing was done
abbrev pub StopsIf : Setup → List Initialization → Parts → Option Gone → Parts → Type 0
StopsIf w ms old None new = new ≡ old
StopsIf w ms old (Some gone) new = StopsQuickly w ms old gone new

-- so many steps that told nothing were made, and then the next one has come to where a probe tells of it, if it did
pub record PassesOnward (w : Setup) (ms : List Initialization) (old : Parts) (passed : Passed) (new : Parts) : Type 0 where
  pub between : Parts
  pub passes : Passes w ms old passed.made between
  pub stops : StopsIf w ms between passed.gone new

-- ---- the same by what is due

-- this is due of the next step, or nothing more was done
abbrev pub ComesIf : Setup → List Initialization → Parts → Option Due → Parts → Type 0
ComesIf w ms old None new = new ≡ old
ComesIf w ms old (Some due) new = TriesQuickly w ms false old due new

pub record ComesTo (w : Setup) (ms : List Initialization) (old : Parts) (made : ℕ) (due : Option Due) (new : Parts) : Type 0 where
  pub between : Parts
  pub passes : Passes w ms old made between
  pub comes : ComesIf w ms between due new
