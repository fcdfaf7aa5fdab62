-- A step that goes on to what is told next where the run is at an instruction: by a call into a version with probes,
-- or a return from one, of what is known.
use Rattle.std.specs.Prelude.{◌≡◌, ℕ, ◌-◌, Bool, true, false, List, [], length, Some, None, ◌||◌}
use Rattle.frame_stack.specs.FrameLists.{PlacedFrame}
use Rattle.jvm_model.specs.declared.due.Due.{Due}
use Rattle.jvm_model.specs.declared.due.Due.TheVariants.{Nothing, Ends, Begins}
use Rattle.prepared_code.specs.declared.initializations.Initialization.{Initialization}
use Rattle.prepared_lines.specs.declared.line.Line.{Line}
use Rattle.interpreter.specs.declared.turns.hands.Gone.{Gone}
use Rattle.interpreter.specs.declared.turns.hands.Hand.{Hand}
use Rattle.prepared_code.specs.declared.parts.Parts.{Parts}
use Rattle.prepared_code.specs.Tables.{Versions}
use Rattle.prepared_code.specs.Versions.{Setup, next_in}
use Rattle.instructions.specs.Acts.{attempts_on, awaited_in}
use Rattle.interpreter.specs.Moves.Passing.{AreKeptBy, caller_line}
use Rattle.prepared_code.specs.Initializations.{initialization_on, state_of}
use Rattle.prepared_code.specs.Runs.{IsAtInstruction}
use Rattle.interpreter.specs.Moves.Hands.{IsLeft, goes_in}
use Rattle.interpreter.specs.Moves.Trying.{tried_in}
use Rattle.activations.specs.Turning.{loads_in, loads_none, pause_at}

-- ---- an attempt

-- It loads nothing and awaits no class, the run is at an instruction behind it, and no version that is held is left
-- behind by it.
pub record Attempted (w : Setup) (ms : List Initialization) (old new : Parts) : Type 0 where
  pub at_instruction : IsAtInstruction (length new.frames.frames) ms new
  pub loaded : new.runtime.shared.loaded ≡ old.runtime.shared.loaded
  pub world : new.runtime.world ≡ old.runtime.world
  pub loads : loads_in w (state_of ms old) ≡ []
  pub awaits : awaited_in w (state_of ms old) ≡ None
  pub made : state_of ms new ≡ attempts_on w (state_of ms old) (state_of ms old).stack
  pub keeps : AreKeptBy w (state_of ms old).stack (state_of ms new).stack

-- where the caller of the current frame goes on by a return, no initialization standing on it
pub record GoesBack (v : Versions) (ms : List Initialization) (fs : List PlacedFrame) (next : ℕ) : Type 0 where
  pub caller : Line
  pub stands : caller_line v fs ≡ Some caller
  pub goes_on : next_in caller ≡ Some next
  pub executing : initialization_on (length fs - 1) ms ≡ None

-- ---- where it stops

-- how many changes of a step are behind it there, where none was before
abbrev pub passed_there : Due → ℕ
passed_there Nothing = 1
passed_there (Ends k) = 0
passed_there Begins = 1

-- this is due then, by an attempt or before it
pub record TriesQuickly (w : Setup) (ms : List Initialization) (delivered : Bool) (old : Parts) (due : Due) (new : Parts) : Type 0 where
  pub loads : loads_none w (state_of ms old) ≡ true
  pub reaches : pause_at (state_of ms new) (passed_there due) due ≡ tried_in w delivered 0 (state_of ms old)
  pub loaded : new.runtime.shared.loaded ≡ old.runtime.shared.loaded
  pub world : new.runtime.world ≡ old.runtime.world
  pub keeps : AreKeptBy w (state_of ms old).stack (state_of ms new).stack

-- it is, or nothing was done
abbrev pub TriesIf : Bool → Setup → List Initialization → Bool → Parts → Due → Parts → Type 0
TriesIf true w ms delivered old due new = TriesQuickly w ms delivered old due new
TriesIf false w ms delivered old due new = state_of ms new ≡ state_of ms old

-- ---- what is in hand

-- The step in hand has gone on to what is told next of it, or to its end; it has loaded nothing.
pub record GoesQuickly (w : Setup) (ms : List Initialization) (hand : Hand) (old : Parts) (gone : Gone) (new : Parts) : Type 0 where
  pub loads : (hand.moves || loads_none w (state_of ms old)) ≡ true
  pub reaches : pause_at (state_of ms new) gone.hand.passed gone.due ≡ goes_in w hand (state_of ms old)
  pub left : IsLeft gone
  pub loaded : new.runtime.shared.loaded ≡ old.runtime.shared.loaded
  pub world : new.runtime.world ≡ old.runtime.world
  pub keeps : AreKeptBy w (state_of ms old).stack (state_of ms new).stack
