-- What a call is given, when it is accepted, and the cause of each refusal.
use Rattle.std.specs.Prelude.{◌≡◌, ◌<◌, ◌≤◌, ℕ, ◌⊎◌, List, length, take, Option, Some, None, Ok, slice_get, IfSome, IsSome}
use Rattle.byte_streams.specs.Streams.{Told}
use Rattle.jvm_model.specs.declared.program.Program.{Program}
use Rattle.command_line.specs.Input.{most_input}
use Rattle.command_line.specs.Words.{Read}
use Rattle.jfluid_cli.specs.declared.refusal.Refusal.{Refusal}
use Rattle.jfluid_cli.specs.declared.refusal.Refusal.TheVariants as refusal
use Rattle.code_admission.specs.declared.error.AdmitError.{AdmitError}
use Rattle.admit_check.specs.Admission.{root_in}
use Rattle.generated_programs.specs.Admitted.{generated_program}
use Rattle.command_line.specs.declared.words.Generation.{Generation}
use Rattle.plan_text.specs.declared.plan.Action.{Action}
use Rattle.jfluid_cli.specs.Asking.{asked_by, IsPlanFor, IsFaultOfPlan, HasNoMain, IsMisplanned}
use Rattle.jfluid_cli.specs.Contents.{AreContentsBy, AreToldAs, IsFaultAt}
use Rattle.jfluid_cli.specs.Top.{IsProgram, HasProgram, HasRefused, HasNoProgram}
use Rattle.jfluid_cli.specs.Words.{Command, words_accepted, AreClaps, AreRefused, command_for}

-- the words as bytes, what the files tell, and what the source of input has left, where it tells it
pub record CallInputs : Type 0 where
  pub words : List (List ℕ)
  pub told : Option Told
  pub left : Option (List ℕ)

-- the contents of the class files that a command asks for
abbrev pub AreContentsOf : Option Told → Command → List (List ℕ) → Type 0
AreContentsOf told k contents = AreContentsBy told k.generated k.files contents

-- ---- what is accepted

-- The words are accepted with their plan, and this is what they ask for.
pub record Accepts (g : CallInputs) (k : Command) : Type 0 where
  pub words : Read
  pub read : words_accepted g.words ≡ Some words
  pub planned : IsPlanFor g.told words (Ok k.plan)
  pub asked : command_for words k.plan ≡ Some k

-- The files tell their contents, where any are fetched: for a generated program they are not, but a plan's.
abbrev pub TellsFor : Option Told → Option (List ℕ) → Option Generation → Type 0
TellsFor told (Some plan) generated = IsSome told
TellsFor told None None = IsSome told
TellsFor told None (Some generation) = Unit {0}

-- The words and their plan are accepted, and the files tell this program for them, or it is generated.
pub record IsAdmitted (g : CallInputs) (program : Program) : Type 0 where
  pub command : Command
  pub accepts : Accepts g command
  pub telling : TellsFor g.told accepts.words.plan command.generated
  pub contents : List (List ℕ)
  pub told_as : AreContentsOf g.told command contents
  pub program_is : IsProgram (asked_by command) contents program

-- And the input is within its limit.
pub record IsAccepted (g : CallInputs) (program : Program) : Type 0 where
  pub admitted : IsAdmitted g program
  pub input : List ℕ
  pub input_is : g.left ≡ Some input
  pub short : length input ≤ most_input

-- Or there is more input than that.
pub record HasLongInput (g : CallInputs) : Type 0 where
  pub program : Program
  pub admitted : IsAdmitted g program
  pub input : List ℕ
  pub input_is : g.left ≡ Some input
  pub long : most_input < length input

-- The words and their plan are accepted, and what the files tell for them, or what is generated, is no
-- program.
pub record IsUnfit (g : CallInputs) : Type 0 where
  pub command : Command
  pub accepts : Accepts g command
  pub files : Told
  pub telling : g.told ≡ Some files
  pub contents : List (List ℕ)
  pub told_as : AreContentsOf (Some files) command contents
  pub none : HasNoProgram (asked_by command) contents

-- An action selects or deselects what is no method with Code of the program.
pub record NamesNoMethod (program : Program) (actions : List Action) : Type 0 where
  pub at : ℕ
  pub action : Action
  pub there : slice_get actions at ≡ Some action
  pub none : root_in program action.root ≡ None

-- The words generate their program, and an action of their plan names no method of it.
pub record HasNoRoot (g : CallInputs) : Type 0 where
  pub command : Command
  pub accepts : Accepts g command
  pub generation : Generation
  pub generated : command.generated ≡ Some generation
  pub unnamed :
      let plan = command.plan in
      NamesNoMethod (generated_program generation.seed generation.size plan) plan.actions

-- The words are accepted by themselves, and not with their plan, which the files tell.
pub record HasBadPlan (g : CallInputs) : Type 0 where
  pub words : Read
  pub read : words_accepted g.words ≡ Some words
  pub telling : IsSome g.told
  pub misplanned : IsMisplanned g.told words

-- ---- what is refused

-- the source has more than the limit, where it tells what it has
abbrev pub IsLong : Option (List ℕ) → Type 0
IsLong left = IfSome left (λ all. most_input < length all)

-- the words are accepted by themselves, and this holds of them
abbrev pub OfWords : CallInputs → (Read → Type 0) → Type 0
OfWords g P = (words : Read) × (words_accepted g.words ≡ Some words) × P words

-- The words are accepted, all of their files are told, or generated, and this holds of the contents.
pub record OfFiles (g : CallInputs) (P : Command → List (List ℕ) → Type 0) : Type 0 where
  pub command : Command
  pub accepts : Accepts g command
  pub contents : List (List ℕ)
  pub told_as : AreContentsOf g.told command contents
  pub holds : P command contents

-- classes are told that are not admitted, for this fault
abbrev pub OfClasses : CallInputs → AdmitError → Type 0
OfClasses g fault = OfFiles g (λ k. HasRefused (asked_by k) fault)

-- a program is told
abbrev pub OfProgram : CallInputs → Type 0
OfProgram g = OfFiles g (λ k. HasProgram (asked_by k))

-- The words are accepted, and those of their files that stand before this position are told.
pub record OfFetched (g : CallInputs) (at : ℕ) : Type 0 where
  pub command : Command
  pub accepts : Accepts g command
  pub within : at < length command.files
  pub contents : List (List ℕ)
  pub told_as : AreToldAs g.told (take at command.files) contents

-- The cause of each refusal in what is given; that of a fault is a count beside. Of clap's text
-- nothing is said.
abbrev pub Because : CallInputs → Refusal → Type 0
Because g (refusal.Clap text) = AreClaps g.words
Because g refusal.Words = AreRefused g.words ⊎ OfWords g (HasNoMain g.told)
Because g (refusal.Plan fault) = OfWords g (λ words. IsFaultOfPlan g.told words fault)
Because g (refusal.NotRead at fault) = OfFiles g (λ k contents. IsFaultAt contents at fault)
Because g (refusal.NotAdmitted fault) = OfClasses g fault
Because g refusal.InputFailed = OfProgram g
Because g refusal.OutFailed = OfProgram g
Because g refusal.PlanNotFetched = OfWords g (λ words. IsSome words.plan)
Because g (refusal.NotFetched at) = OfFetched g at
Because g refusal.NoMemory = Unit {0}
Because g refusal.InputTooLong = OfProgram g × IsLong g.left
