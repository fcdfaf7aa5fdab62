-- The state before the start of a program, on whatever input, and how its main class begins.
use Rattle.std.specs.Prelude.{◌≡◌, ◌≤◌, ℕ, List, Result, Ok, Err}
use Rattle.jvm_model.specs.declared.program.Program.{Program}
use Rattle.jvm_model.specs.declared.state.State.{State}
use Rattle.jvm_model.specs.Basis.Data.{World, Outcome, Raises}
use Rattle.jvm_model.specs.Running.Moves.{raises}
use Rattle.jvm_model.specs.Running.Run.{before}
use Rattle.activations.specs.Initializing.{begins_class}

-- it holds of that state
abbrev pub BeforeEach : Program → (State → Type 0) → Type 0
BeforeEach p Holds = (input : List ℕ) → Holds (before (record { program = p; input = input }))

-- A program that can start: its heap has room for the objects that are there before the start.
pub record CanStart (p : Program) : Type 0 where
  pub room : 1024 ≤ p.heap

-- before the start of such a program
pub record IsAtStart (w : World) (s : State) : Type 0 where
  pub before : s ≡ before w
  pub room : 1024 ≤ w.program.heap

-- What was found for the main class's name: its initialization begins, or what stopped its loading is raised.
abbrev pub begun_by : World → ℕ → Result ℕ Outcome → State → State
begun_by w class (Ok kind) s = begins_class class s
begun_by w class (Err (Raises name message)) s = raises w s name message
begun_by w class (Err _) s = begins_class class s
