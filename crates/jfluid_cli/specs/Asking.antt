-- The plan of accepted words, and what a command asks of a program.
use Rattle.std.specs.Prelude.{◌≡◌, ◌≢◌, ℕ, ◌⊎◌, List, Option, Some, None, Result, Ok, Err}
use Rattle.byte_streams.specs.Streams.{Told, IsToldAs}
use Rattle.plan_text.specs.declared.plan.Plan.{Plan}
use Rattle.plan_text.specs.declared.plan.PlanError.{PlanError}
use Rattle.plan_text.specs.declared.plan.PlanError.TheVariants.{NoMemory}
use Rattle.plan_text.specs.Lines.{IsPlanRead}
use Rattle.plan_text.specs.Roots.{IsNoRoot}
use Rattle.command_line.specs.Chosen.{IsOwnPlan}
use Rattle.command_line.specs.Words.{Read}
use Rattle.jfluid_cli.specs.Words.{Command, command_for}

-- ---- the plan

-- what is answered for the contents that the files tell under a name
abbrev pub IsToldPlan : Option Told → List ℕ → Result Plan PlanError → Type 0
IsToldPlan told name result = (bytes : List ℕ) × IsToldAs told name bytes × IsPlanRead bytes result

-- the plan of the file that is named, else of the word for a root, else the silent one
abbrev pub IsPlanBy : Option Told → Option (List ℕ) → Option (List ℕ) → Result Plan PlanError
    → Type 0
IsPlanBy told root (Some name) result = IsToldPlan told name result
IsPlanBy told root None result = IsOwnPlan root result

abbrev pub IsPlanFor : Option Told → Read → Result Plan PlanError → Type 0
IsPlanFor told words result = IsPlanBy told words.root words.plan result

-- The plan has this fault.
pub record IsFaultOfPlan (told : Option Told) (words : Read) (fault : PlanError) : Type 0 where
  pub fault_is : IsPlanFor told words (Err fault)
  pub other : fault ≢ NoMemory

-- The plan is read, but neither it nor a word names a main class.
pub record HasNoMain (told : Option Told) (words : Read) : Type 0 where
  pub plan : Plan
  pub plan_is : IsPlanFor told words (Ok plan)
  pub none : command_for words plan ≡ None

-- the plan is refused, or the words are for want of a main class in it
abbrev pub IsMisplanned : Option Told → Read → Type 0
IsMisplanned told words =
    ((fault : PlanError) × IsFaultOfPlan told words fault) ⊎ HasNoMain told words

-- No plan's file is named, and the word for a root names no method.
pub record HasBadRoot (words : Read) : Type 0 where
  pub root : List ℕ
  pub given : words.root ≡ Some root
  pub none : IsNoRoot root
  pub own : words.plan ≡ None

-- ---- what is asked of a program

pub record ProgramWanted : Type 0 where
  -- the main class, with slashes
  pub main : List ℕ
  pub plan : Plan

abbrev pub asked_for : List ℕ → Plan → ProgramWanted
asked_for main plan = record { main = main; plan = plan }

abbrev pub asked_by : Command → ProgramWanted
asked_by k = asked_for k.main k.plan
