-- What the parts of a call owe one another.
use Rattle.std.specs.Prelude.{◌≡◌, ◌≢◌, ◌<◌, ℕ, ◌⊎◌, Bool, true, List, ◌∷◌, [], length, take, slice_get, Option, Some, None, Ok, Err, Result, IfOk, IfErr, IfSome, IsSome}
use Rattle.byte_streams.specs.Streams.{Told, Rose}
use Rattle.plan_text.specs.declared.plan.Plan.{Plan}
use Rattle.plan_text.specs.declared.plan.PlanError.{PlanError}
use Rattle.plan_text.specs.declared.plan.PlanError.TheVariants as plan
use Rattle.class_reader.specs.Files.{IsFirstFault}
use Rattle.class_reader.specs.declared.error.ReadError.{ReadError}
use Rattle.jvm_model.specs.declared.program.Program.{Program}
use Rattle.plan_text.specs.Lines.{IsPlanRead}
use Rattle.command_line.specs.Chosen.{IsOwnPlan}
use Rattle.command_line.specs.Input.{TakesAtMost, TakesOneMore, most_input, most_taken}
use Rattle.command_line.specs.Words.{Read}
use Rattle.jfluid_cli.specs.declared.kept.Kept.{Kept}
use Rattle.jfluid_cli.specs.declared.refusal.Refusal.{Refusal}
use Rattle.jfluid_cli.specs.declared.refusal.Refusal.TheVariants as refusal
use Rattle.jfluid_cli.specs.declared.refusal.Refusal.TheVariants.{NotRead, InputFailed, OutFailed, PlanNotFetched, NotFetched, NoMemory, InputTooLong}
use Rattle.jfluid_cli.specs.Asking.{ProgramWanted, asked_by, IsPlanFor, IsToldPlan}
use Rattle.jfluid_cli.specs.Calls.{Call, IsTrueOf, IsRunOf, IsRefused}
use Rattle.jfluid_cli.specs.Causes.{CallInputs, Accepts, AreContentsOf, IsLong, Because}
use Rattle.jfluid_cli.specs.Contents.{AreFetched, IsFaultAt, SpellAlone, classes_for}
use Rattle.jfluid_cli.specs.Refusals.{status_of, refusal_of}
use Rattle.jfluid_cli.specs.Runs.{IsCutOff, SameProgram}
use Rattle.jfluid_cli.specs.Sinks.{DevicesView, FilesView, SourceView, IsUntold}
use Rattle.jfluid_cli.specs.Top.{IsProgram, is_one_of}
use Rattle.jfluid_cli.specs.Words.{Command, words_accepted, AreClaps, AreRefused}

-- ---- before a session is made

-- the statuses of a refusal before the input is taken
abbrev pub is_before_the_run : ℕ → Bool
is_before_the_run = is_one_of (2 ∷ 3 ∷ 7 ∷ 9 ∷ [])

-- A refusal before the input is taken.
pub record IsBeforeTheRun (g : CallInputs) (r : Refusal) : Type 0 where
  pub cause : Because g r
  pub before_the_run : is_before_the_run (status_of r) ≡ true

-- why words are not accepted: for clap or for a rule of the program's own, or memory ran out
abbrev pub IsWordsRefusal : List (List ℕ) → Refusal → Type 0
IsWordsRefusal words (refusal.Clap text) = AreClaps words
IsWordsRefusal words refusal.Words = AreRefused words
IsWordsRefusal words refusal.NoMemory = Unit {0}
IsWordsRefusal words r = ⊥

-- a fault of a plan with this answer, or memory ran out
abbrev pub IsFaultOf : (Result Plan PlanError → Type 0) → Refusal → Type 0
IsFaultOf IsAnswer r =
    (fault : PlanError) × (r ≡ refusal_of fault) × (fault ≢ plan.NoMemory → IsAnswer (Err fault))

-- why a text is no plan
abbrev pub IsTextRefusal : List ℕ → Refusal → Type 0
IsTextRefusal bytes = IsFaultOf (IsPlanRead bytes)

-- why a word for a root is none, if there is one
abbrev pub IsOwnRefusal : Option (List ℕ) → Refusal → Type 0
IsOwnRefusal root = IsFaultOf (IsOwnPlan root)

-- why there is no plan of a file
abbrev pub IsToldRefusal : Option Told → List ℕ → Refusal → Type 0
IsToldRefusal told name r = (r ≡ PlanNotFetched) ⊎ IsFaultOf (IsToldPlan told name) r

-- why words have no plan
abbrev pub IsPlanRefusal : Option Told → Read → Refusal → Type 0
IsPlanRefusal told words r =
    ((r ≡ PlanNotFetched) × IsSome words.plan) ⊎ IsFaultOf (IsPlanFor told words) r

-- Words are accepted by themselves, and have this plan.
pub record AreReadWith (g : CallInputs) (words : Read) (plan : Plan) : Type 0 where
  pub read : words_accepted g.words ≡ Some words
  pub planned : IsPlanFor g.told words (Ok plan)

-- What was fetched for a command that asks for this: the contents of its files, or of longer ones
-- fronts that show it.
pub record IsFetchedFor (g : CallInputs) (asked : ProgramWanted) (fronts : List (List ℕ)) : Type 0 where
  pub command : Command
  pub accepts : Accepts g command
  pub asked_is : asked_by command ≡ asked
  pub own : command.generated ≡ None
  pub fetched : AreFetched g.told command.files fronts

-- What was loaded for a command: the contents that the files tell, or that are generated, which spell
-- this program alone.
pub record IsLoaded (told : Option Told) (k : Command) (contents : List (List ℕ))
    (program : Program) : Type 0 where
  pub told_as : AreContentsOf told k contents
  pub program_is : IsProgram (asked_by k) contents program
  pub alone : SpellAlone contents (classes_for contents program)

-- What was prepared for words: what they ask for with their plan, and its program.
pub record IsPrepared (g : CallInputs) (plan : Plan) (budget : ℕ) (contents : List (List ℕ))
    (program : Program) : Type 0 where
  pub command : Command
  pub accepts : Accepts g command
  pub plan_is : plan ≡ command.plan
  pub budget_is : budget ≡ command.budget
  pub loaded : IsLoaded g.told command contents program

-- A fetch fails only where the count rose, and the last failed name is then that of the file; what
-- the files tell of faults is as before, where it is no fetch that failed.
pub record HasFetchCause (named : Option (List ℕ)) (files : List (List ℕ)) (old new : FilesView)
    (r : Refusal) : Type 0 where
  pub failed : status_of r ≡ 7 → Rose old.faults new.faults
  pub plan_is : r ≡ PlanNotFetched → named ≡ Some new.last_failed
  pub name_is : (at : ℕ) → r ≡ NotFetched at → slice_get files at ≡ Some new.last_failed
  pub without_fault : status_of r ≢ 7 → new ≡ old

-- a fetch of one file is refused so where the count rose, and leaves its name, or memory ran out
abbrev pub IsFetchFault : List ℕ → Refusal → FilesView → FilesView → Refusal → Type 0
IsFetchFault word failed old new r =
    ((r ≡ failed) × Rose old.faults new.faults × (new.last_failed ≡ word))
    ⊎ ((r ≡ NoMemory) × (new ≡ old))

-- A fetch of the files failed: of the one at this position, behind the fronts of those before it.
pub record IsUnfetched (told : Option Told) (files : List (List ℕ)) (at : ℕ) : Type 0 where
  pub within : at < length files
  pub fronts : List (List ℕ)
  pub earlier : AreFetched told (take at files) fronts

-- what the fetches of files refuse
abbrev pub IsFetchRefusal : Option Told → List (List ℕ) → Refusal → Type 0
IsFetchRefusal told files r =
    ((at : ℕ) × (r ≡ NotFetched at) × IsUnfetched told files at) ⊎ (r ≡ NoMemory)

-- what the reading of one content refuses
abbrev pub IsUnread : List ℕ → ℕ → Refusal → Type 0
IsUnread bytes at r =
    ((fault : ReadError) × (r ≡ NotRead at fault) × IsFirstFault bytes fault) ⊎ (r ≡ NoMemory)

-- what the readings of contents refuse
abbrev pub IsReadRefusal : List (List ℕ) → Refusal → Type 0
IsReadRefusal contents r =
    ((at : ℕ) × (fault : ReadError) × (r ≡ NotRead at fault) × IsFaultAt contents at fault)
    ⊎ (r ≡ NoMemory)

-- ---- the input

-- why the input is not there: a take failed, there is too much, or memory ran out
abbrev pub IsInputRefusal : SourceView → SourceView → Refusal → Type 0
IsInputRefusal old new r =
    ((r ≡ InputFailed) × Rose old.faults new.faults × TakesAtMost most_input old.left new.left)
    ⊎ (((r ≡ InputTooLong)
    × IsLong old.left × TakesOneMore old.left new.left × (new.faults ≡ old.faults))
    ⊎ ((r ≡ NoMemory) × (new.faults ≡ old.faults) × TakesAtMost most_taken old.left new.left))

-- ---- behind a session

-- What was made goes on.
pub record IsSameRun (made k : Kept) : Type 0 where
  pub program : SameProgram made.session.value k.session.value
  pub classes : k.classes ≡ made.classes
  pub plan : k.plan ≡ made.plan

-- A run stopped before its end and its budget, for its output or for want of memory.
pub record IsStopped (kept : Option Kept) (budget : ℕ) (old new : DevicesView) (r : Refusal) : Type 0 where
  pub why : ((r ≡ OutFailed) × Rose old.out.faults new.out.faults) ⊎ (r ≡ NoMemory)
  pub cut : r ≡ OutFailed → IfSome kept (λ k. IsCutOff k.session.value budget old.out.taken new.out.taken)
  pub untold : IsUntold old.report new.report
  pub unshown : r ≡ OutFailed → IsUntold old.images new.images

-- A call before the line of a refusal is put.
pub record IsCarried (c : Call) (result : Result ℕ Refusal) : Type 0 where
  pub always : IsTrueOf c
  pub ran : IfOk result (IsRunOf c)
  pub refused : IfErr result (IsRefused c)
  pub untold : IfErr result (λ r. IsUntold c.old.report c.new.report)
