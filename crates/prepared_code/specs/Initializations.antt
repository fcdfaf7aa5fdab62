-- Initializations in hand as initializations beside the frames (JVM Specification 5.5). An initialization tells on how
-- many frames it stands, at least: those at the front that tell no fewer than there are stand on the current frame. So
-- any frames and any initializations are a stack.
use Rattle.std.specs.Prelude.{◌≡◌, ℕ, suc, Bool, List, [], ◌∷◌, ◌++◌, length, map, Option, Some, None, is_none, nat_le, if◌then◌else◌}
use Rattle.jvm_model.specs.declared.state.Entry.{Entry}
use Rattle.jvm_model.specs.declared.state.Entry.TheVariants.{Initializing}
use Rattle.jvm_model.specs.declared.state.State.{State}
use Rattle.jvm_model.specs.Running.Moves.{at_part}
use Rattle.prepared_code.specs.declared.initializations.Initialization.{Initialization}
use Rattle.prepared_code.specs.declared.parts.Parts.{Parts}
use Rattle.prepared_code.specs.States.{state_in}

abbrev pub initializing_entry : Initialization → Entry
initializing_entry m = Initializing m.class m.part

-- the one on top of so many frames, if one stands there
unfoldable pub initialization_on : ℕ → List Initialization → Option Initialization
initialization_on n [] = None
initialization_on n (m ∷ ms) = if nat_le n m.depth then Some m else None

-- all that stand there, and those below them
unfoldable pub above : ℕ → List Initialization → List Initialization
above n [] = []
above n (m ∷ ms) = if nat_le n m.depth then m ∷ above n ms else []

unfoldable pub beneath : ℕ → List Initialization → List Initialization
beneath n [] = []
beneath n (m ∷ ms) = if nat_le n m.depth then beneath n ms else m ∷ ms

-- these frames, the current one first, with the initializations on each of them
unfoldable pub stack_of : List Entry → List Initialization → List Entry
stack_of [] ms = map initializing_entry ms
stack_of (e ∷ es) ms = map initializing_entry (above (suc (length es)) ms) ++ e ∷ stack_of es (beneath (suc (length es)) ms)

abbrev pub with_initializations : List Initialization → State → State
with_initializations ms s = record s { stack = stack_of s.stack ms }

-- the state of a run that the parts of a machine and its initializations are
abbrev pub state_of : List Initialization → Parts → State
state_of ms p = with_initializations ms (state_in p)

-- no initialization stands on the current frame
abbrev pub is_executing : List Initialization → Parts → Bool
is_executing ms p = is_none (initialization_on (length p.frames.frames) ms)

-- the initialization that was taken off the current frame, if one was there
abbrev pub TakesInitialization : Option Initialization → Parts → List Initialization → List Initialization → Type 0
TakesInitialization None p old new = (new ≡ old) × (initialization_on (length p.frames.frames) old ≡ None)
TakesInitialization (Some m) p old new = state_of old p ≡ at_part (state_of new p) m.class m.part
