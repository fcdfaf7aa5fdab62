-- What is left of a step where it stops on the way. Its classes were loaded and the instruction is still to be
-- attempted; or it was attempted, and moves are left. The listing may be another one from there on.
use Rattle.std.specs.Prelude.{◌≡◌, ℕ, List, [], ◌∷◌, ◌++◌, Option, Some, None}
use Rattle.jvm_model.specs.Basis.Data.{Frame, Entry, Active, Ending, State, Change, Loads, Turn, Instruction, Listing, World}
use Rattle.jvm_model.specs.Instructions.Does.{loads}
use Rattle.jvm_model.specs.Running.Applies.{still}
use Rattle.jvm_model.specs.Running.Moves.{turn_settled}
use Rattle.jvm_model.specs.Running.Run.{step}

-- ---- the classes that a step loads first

abbrev pub classes_loaded_at : World → State → Frame → Option Instruction → List ℕ
classes_loaded_at w s f None = []
classes_loaded_at w s f (Some i) = loads w i.operation s.shared f.operands

abbrev pub loads_on : World → Listing → State → Option Ending → List Entry → List ℕ
loads_on w t s None (Active f ∷ below) = classes_loaded_at w s f (t.at f.version f.place)
loads_on w t s _ _ = []

abbrev pub step_loads : World → Listing → State → List ℕ
step_loads w t s = loads_on w t s s.ending s.stack

-- of a step's changes, which tell them first
abbrev pub loads_first : List Change → List ℕ
loads_first (Loads classes ∷ more) = classes
loads_first _ = []

-- ---- what is left

pub data Todo : Type 0 where
  -- the instruction is attempted; all that it needs is loaded
  Attempt : Todo
  -- moves alone
  Moves : Todo

abbrev pub rest : World → Listing → Todo → State → Turn
rest w t Attempt s = step w t s
rest w t Moves s = turn_settled w t (still s)

-- A part of what is left: with these changes it comes to a state from which so much is left.
pub record IsPart (w : World) (t : Listing) (l : Todo) (s : State) (changes : List Change) (m : Todo) (after : State) : Type 0 where
  pub same : (rest w t l s).after ≡ (rest w t m after).after
  pub tells : (rest w t l s).changes ≡ changes ++ (rest w t m after).changes
