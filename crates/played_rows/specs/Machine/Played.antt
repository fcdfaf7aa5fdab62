-- When what came is what the lines of a row say, and what came in place of it.
use Rattle.std.specs.Prelude.{◌≡◌, ◌≢◌, ◌<◌, ◌⊎◌, ℕ, Bool, true, false, List, [], ◌∷◌, ◌++◌, length, map, Option, Some, None}
use Rattle.class_shape.specs.declared.error.SwapError.{SwapError}
use Rattle.const_pool.specs.declared.class.ClassFile.{ClassFile}
use Rattle.inject_events.specs.Answers.{MarkedHaveCode}
use Rattle.jvm_model.specs.declared.ending.Ending.{Ending}
use Rattle.jvm_model.specs.declared.event.Mark.{Mark}
use Rattle.jvm_model.specs.declared.program.Program.{Program}
use Rattle.jvm_model.specs.Basis.Programs.{class_at}
use Rattle.jvm_model.specs.Classes.Load.{is_among}
use Rattle.hotswap.specs.Redefining.{IsRefused, Redefines}
use Rattle.jvm_machine.specs.declared.turn.Turn.{Turn}
use Rattle.jvm_machine.specs.Installs.{with_class}
use Rattle.jvm_machine.specs.Several.{RunsOn}
use Rattle.jvm_machine.specs.Turns.{Turns}
use Rattle.jvm_machine.specs.View.{View, is_resting, run_state}
use Rattle.played_rows.specs.declared.machine.line.Line.{Line}
use Rattle.played_rows.specs.declared.machine.line.Line.TheVariants.{Turned, Ran, Installed, Refused, Ended, Printed, Lives}
use Rattle.played_rows.specs.declared.machine.line.Placed.{Placed}
use Rattle.played_rows.specs.declared.machine.playing.Failure.{Failure}
use Rattle.played_rows.specs.declared.machine.turns.Difference.{Difference}
use Rattle.played_rows.specs.declared.machine.turns.Difference.TheVariants as difference

-- ---- one line

-- the machine's next turn is this, and its clock is then this
pub record IsTurned (old : View) (turn : Turn) (clock : ℕ) (new : View) : Type 0 where
  pub turns : Turns old turn new
  pub clock_is : new.clock ≡ clock

-- the same of as many steps as tell nothing
pub record IsRun (old : View) (most : ℕ) (turn : Turn) (clock : ℕ) (new : View) : Type 0 where
  pub runs : RunsOn old most turn new
  pub clock_is : new.clock ≡ clock

-- the bytes redefine nothing, which is told, and nothing has changed
pub record IsNotRedefined (old : View) (class : ℕ) (bytes : List ℕ) (refusal : SwapError) (new : View) : Type 0 where
  pub refused : IsRefused old.program class bytes refusal
  pub same : new ≡ old

-- what was asked of a machine, which says of it what is known of one at rest
pub record IsAsked (old : View) (Holds : Type 0) (new : View) : Type 0 where
  pub holds : is_resting old ≡ true → Holds
  pub same : new ≡ old

-- what has come of a line
abbrev pub IsPlayed : Line → View → View → Type 0
IsPlayed (Turned turn clock) old new = IsTurned old turn clock new
IsPlayed (Ran most turn clock) old new = IsRun old most turn clock new
IsPlayed (Installed class marks) old new = new ≡ with_class class marks old
IsPlayed (Refused class bytes refusal) old new = IsNotRedefined old class bytes refusal new
IsPlayed (Ended ending) old new = IsAsked old ((run_state old).ending ≡ Some ending) new
IsPlayed (Printed bytes) old new = IsAsked old ((run_state old).output ≡ bytes) new
IsPlayed (Lives count) old new = (length old.live ≡ count) × (new ≡ old)

-- ---- another thing

-- the most steps of a row, and the most of one call
abbrev pub most_steps : ℕ
most_steps = 1000000000000

-- this turn is the next one, with this clock, and it is another than the wanted one, or its clock is
pub record IsTurnedElse (old : View) (turn : Turn) (clock : ℕ) (came : Turn) (now : ℕ) : Type 0 where
  pub new : View
  pub turned : IsTurned old came now new
  pub other : came ≡ turn → now ≢ clock

-- the same of as many steps as tell nothing
pub record IsRunElse (old : View) (most : ℕ) (turn : Turn) (clock : ℕ) (came : Turn) (now : ℕ) : Type 0 where
  pub new : View
  pub ran : IsRun old most came now new
  pub other : came ≡ turn → now ≢ clock

-- so many steps are not asked for: too many were made, these are too many or none, or a step is in hand
abbrev pub IsNotRun : View → ℕ → Type 0
IsNotRun v most = (most_steps < v.clock) ⊎ ((most_steps < most) ⊎ ((most ≡ 0) ⊎ (is_resting v ≡ false)))

abbrev pub is_loaded : ℕ → View → Bool
is_loaded class v = is_among class (run_state v).shared.loaded

-- the marks are one for each method of the class at this position, and none of a method without Code
pub record FitsMarks (p : Program) (class : ℕ) (marks : List Mark) : Type 0 where
  pub file : ClassFile
  pub there : class_at p class ≡ Some file
  pub counted : length marks ≡ length file.methods
  pub coded : MarkedHaveCode marks file.methods

-- the class is not loaded, or it cannot have these marks
abbrev pub CannotBeMarked : View → ℕ → List Mark → Type 0
CannotBeMarked v class marks = (is_loaded class v ≡ false) ⊎ (FitsMarks v.program class marks → ⊥)

-- no class has this position, or the bytes redefine the one that has it
abbrev pub IsNotUnfit : Program → ℕ → List ℕ → Type 0
IsNotUnfit p class bytes = (class_at p class ≡ None) ⊎ Redefines p class bytes

-- What is told of a line that has not come. An image for marks that a class can have is never refused.
pub data IsOtherwise (old : View) : Line → Difference → Type 0 where
  spent : (turn : Turn) (clock : ℕ) → most_steps < old.clock → IsOtherwise old (Turned turn clock) difference.NotAsked
  turned : (turn came : Turn) (clock now : ℕ) → IsTurnedElse old turn clock came now
      → IsOtherwise old (Turned turn clock) (difference.Turned came now)
  not_run : (most : ℕ) (turn : Turn) (clock : ℕ) → IsNotRun old most → IsOtherwise old (Ran most turn clock) difference.NotAsked
  ran : (most : ℕ) (turn came : Turn) (clock now : ℕ) → IsRunElse old most turn clock came now
      → IsOtherwise old (Ran most turn clock) (difference.Turned came now)
  not_marked : (class : ℕ) (marks : List Mark) → CannotBeMarked old class marks → IsOtherwise old (Installed class marks) difference.NotMarked
  not_loaded : (class : ℕ) (bytes : List ℕ) (refusal : SwapError) → is_loaded class old ≡ false
      → IsOtherwise old (Refused class bytes refusal) difference.NotLoaded
  not_refused : (class : ℕ) (bytes : List ℕ) (refusal : SwapError) → IsNotUnfit old.program class bytes
      → IsOtherwise old (Refused class bytes refusal) difference.NotRefused
  refused : (class : ℕ) (bytes : List ℕ) (refusal came : SwapError) → IsRefused old.program class bytes came → came ≢ refusal
      → IsOtherwise old (Refused class bytes refusal) (difference.Redefined (Some came))
  ended : (ending : Ending) (came : Option Ending) → (is_resting old ≡ true → (run_state old).ending ≡ came) → came ≢ Some ending
      → IsOtherwise old (Ended ending) (difference.Ended came)
  printed : (bytes : List ℕ) → (is_resting old ≡ true → (run_state old).output ≢ bytes)
      → IsOtherwise old (Printed bytes) difference.Printed
  lives : (count came : ℕ) → length old.live ≡ came → came ≢ count → IsOtherwise old (Lives count) (difference.Lives came)

-- ---- all lines

-- each line has come, one behind the other
pub data Plays : List Line → View → View → Type 0 where
  none : (v : View) → Plays [] v v
  more : (line : Line) (rest : List Line) (old mid new : View) → IsPlayed line old mid → Plays rest mid new → Plays (line ∷ rest) old new

-- what is the case where all lines of a row have come
abbrev pub PlaysAll : List Line → View → Type 0
PlaysAll lines old = (new : View) × Plays lines old new

-- The lines before this one have come, one behind the other, and of it another thing came, which is told with its
-- number.
pub record FailsAt (placed : List Placed) (failure : Failure) (old : View) : Type 0 where
  pub before : List Placed
  pub line : Placed
  pub after : List Placed
  pub there : placed ≡ before ++ line ∷ after
  pub stands : View
  pub played : Plays (map (λ l. l.line) before) old stands
  pub number : failure.number ≡ line.number
  pub otherwise : IsOtherwise stands line.line failure.difference
