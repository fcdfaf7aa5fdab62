-- What a call of the program leaves: all that it promises.
use Rattle.std.specs.Prelude.{◌≡◌, ◌≢◌, ℕ, ◌⊎◌, Bool, true, false, List, Option, Some, None, Result, slice_get, IfSome, IsErr, IsSome, IsSomeAnd}
use Rattle.jf_bytes.specs.declared.error.NoMemory.{NoMemory}
use Rattle.std.specs.Io.KnownBytes.{IsAtEnd}
use Rattle.byte_streams.specs.Streams.{PutsAll, PutsPrefix, Rose}
use Rattle.command_line.specs.Input.{TakesAtMost, TakesOneMore, most_input, most_taken}
use Rattle.jvm_model.specs.declared.program.Program.{Program}
use Rattle.jvm_model.specs.Running.Run.{ending_of}
use Rattle.profile_session.specs.Sessions.{Profiling}
use Rattle.jfluid_cli.specs.declared.kept.Kept.{Kept}
use Rattle.jfluid_cli.specs.declared.refusal.Refusal.{Refusal}
use Rattle.jfluid_cli.specs.declared.refusal.Refusal.TheVariants.{PlanNotFetched, NotFetched}
use Rattle.jfluid_cli.specs.Asking.{HasBadRoot}
use Rattle.jfluid_cli.specs.Causes.{CallInputs, HasBadPlan, HasLongInput, HasNoRoot, IsAccepted, IsUnfit, OfWords, Because}
use Rattle.jfluid_cli.specs.Images.{IsImaged, IsUnimaged, images_of}
use Rattle.jfluid_cli.specs.Origins.{HasOrigin, IsOnlyProgram}
use Rattle.jfluid_cli.specs.Refusals.{status_of, refusal_line}
use Rattle.jfluid_cli.specs.Runs.{IsCarriedOut, IsCutOff, PutsAtMost, ending_at, world_on}
use Rattle.jfluid_cli.specs.Sinks.{DevicesView, SinkView, FailsOnce, IsUntold, PutsOrRose}
use Rattle.jfluid_cli.specs.Top.{IsWithoutFault, is_run, is_refused, is_unadmitted, is_status, report_of, status_of_ending}
use Rattle.jfluid_cli.specs.Words.{words_accepted, asks_images, budget_of, file_words, is_generated, plan_word, words_in}

-- ---- a call

-- A call: the words as bytes, or the want of memory that came in their place, the devices before and
-- behind it, and what is kept.
pub record Call : Type 0 where
  pub words : Result (List (List ℕ)) NoMemory
  pub old : DevicesView
  pub new : DevicesView
  pub kept : Option Kept

abbrev pub call_of : Result (List (List ℕ)) NoMemory → DevicesView → DevicesView → Option Kept → Call
call_of words old new kept = record {
  words = words;
  old = old;
  new = new;
  kept = kept;
}

abbrev pub words_of : Call → List (List ℕ)
words_of c = words_in c.words

abbrev pub given_of : Call → CallInputs
given_of c = record { words = words_of c; told = c.old.told; left = c.old.input.left }

-- ---- with every status

-- what was put to images is a front of those that are asked for
abbrev pub PutsImages : Bool → Profiling → DevicesView → DevicesView → Type 0
PutsImages asked v old new = PutsPrefix old.images.taken new.images.taken (images_of asked v)

pub record IsTrueOf (c : Call) : Type 0 where
  -- what is kept came from words, files and input, and is all that the files spell
  pub origin : IfSome c.kept (HasOrigin (given_of c))
  pub only : IfSome c.kept IsOnlyProgram
  -- the input was taken to its end
  pub ended : IsSome c.kept → IsAtEnd c.new.input.left
  -- with any status the source gave bytes from its front alone, at most one more than the limit
  pub rest : TakesAtMost most_taken c.old.input.left c.new.input.left
  -- a front of the output at the budget was put, and nothing where nothing was made
  pub prefix :
      IfSome c.kept
      (λ k. PutsAtMost k.session.value (budget_of (words_of c) k.plan) c.old.out.taken c.new.out.taken)
  pub nothing : c.kept ≡ None → IsUntold c.old.out c.new.out
  -- a front of the images that are asked for was put, and nothing where none are or nothing was made
  pub images : IfSome c.kept (λ k. PutsImages (asks_images (words_of c)) k.session.value c.old c.new)
  pub unasked : asks_images (words_of c) ≡ false → IsUntold c.old.images c.new.images
  pub unimaged : c.kept ≡ None → IsUntold c.old.images c.new.images
  -- no version is held but those in which methods begin and those that live activations run
  pub held : IfSome c.kept (λ k. k.session.value.stale ≡ false)

-- ---- a run

-- The report of a run was put, its tree or the sums over it, with the status of its ending, or the put failed, with
-- status 8.
pub record IsReported (summary : Bool) (v : Profiling) (old new : SinkView) (status : ℕ) : Type 0 where
  pub is_one : is_run status ≡ true
  pub known : is_status status ≡ true
  pub ending : status ≢ 8 → status ≡ status_of_ending (ending_at v v.clock)
  pub reported : status ≢ 8 → PutsAll old.taken new.taken (report_of summary v)
  pub without_fault : status ≢ 8 → new.faults ≡ old.faults
  pub reported_in_part : status ≡ 8 → PutsPrefix old.taken new.taken (report_of summary v)
  pub not_reported : status ≡ 8 → Rose old.faults new.faults

-- The images of a run that are asked for were put, and behind them its report; or a put of them
-- failed, with status 8, and nothing is on the report.
abbrev pub IsShown : Bool → Bool → Profiling → (images images_after report report_after : SinkView) → ℕ → Type 0
IsShown summary asked v images images_after report report_after status =
    (IsImaged asked v images images_after × IsReported summary v report report_after status)
    ⊎ ((status ≡ 8) × IsUnimaged asked v images images_after × IsUntold report report_after)

-- The run of what is kept was carried out up to its end or the budget; what was put is its output.
pub record IsRun (summary asked : Bool) (budget : ℕ) (old new : DevicesView) (status : ℕ) (k : Kept)
    : Type 0 where
  pub output : IsCarriedOut k.session.value budget old.out.taken new.out.taken
  pub without_fault : new.out.faults ≡ old.out.faults
  pub shown : IsShown summary asked k.session.value old.images new.images old.report new.report status

-- the run that the words ask for with the plan that is kept; of a generated program sums are reported
abbrev pub IsRunAsked : List (List ℕ) → DevicesView → DevicesView → ℕ → Kept → Type 0
IsRunAsked words old new status k =
    IsRun (is_generated words) (asks_images words) (budget_of words k.plan) old new status k

-- The run of the words, with nothing else failed.
pub record IsRunOf (c : Call) (status : ℕ) : Type 0 where
  pub made : IsSomeAnd c.kept (IsRunAsked (words_of c) c.old c.new status)
  pub without_fault : c.new.files ≡ c.old.files
  pub input_without_fault : c.new.input.faults ≡ c.old.input.faults

-- ---- a refusal

-- A refusal has its cause.
pub record IsRefused (c : Call) (r : Refusal) : Type 0 where
  pub cause : Because (given_of c) r
  -- nothing is kept, but with 6, and perhaps with 9
  pub refused : is_refused (status_of r) ≡ true → c.kept ≡ None
  pub made : status_of r ≡ 6 → IsSome c.kept
  -- no input was taken where the program was not admitted
  pub untaken : is_unadmitted (status_of r) ≡ true → c.new.input ≡ c.old.input
  -- one byte more than the limit was taken of an input that is too long
  pub one_more : status_of r ≡ 11 → TakesOneMore c.old.input.left c.new.input.left
  -- no more than the limit was taken before a take that failed
  pub taken : status_of r ≡ 5 → TakesAtMost most_input c.old.input.left c.new.input.left
  -- a fault's count rose, and the last failed name is that of the plan's or of the class's file;
  -- with any other status but 9 no fetch failed, so that the last failed name is as before, and no
  -- take; with 9 too the last failed name is as before, or that of such a file
  pub fetches :
      FailsOnce (plan_word (words_of c)) (file_words (words_of c)) c.old.files c.new.files
  pub not_taken : status_of r ≡ 5 → Rose c.old.input.faults c.new.input.faults
  pub stopped : status_of r ≡ 6 → Rose c.old.out.faults c.new.out.faults
  -- the put that failed is that of the start or of the last slice, and all that was written before was put
  pub cut :
      status_of r ≡ 6 →
      IfSome c.kept
      (λ k. IsCutOff k.session.value (budget_of (words_of c) k.plan) c.old.out.taken c.new.out.taken)
  -- no image is put behind an output that failed
  pub unshown : status_of r ≡ 6 → IsUntold c.old.images c.new.images
  pub not_fetched : status_of r ≡ 7 → Rose c.old.files.faults c.new.files.faults
  pub plan_name : r ≡ PlanNotFetched → plan_word (words_of c) ≡ Some c.new.files.last_failed
  pub name :
      (at : ℕ) → r ≡ NotFetched at →
      slice_get (file_words (words_of c)) at ≡ Some c.new.files.last_failed
  pub without_fault : status_of r ≢ 7 → status_of r ≢ 9 → c.new.files ≡ c.old.files
  pub input_without_fault : status_of r ≢ 5 → status_of r ≢ 9 → c.new.input.faults ≡ c.old.input.faults

-- its line was put, or a front of it where the report's count of faults rose
abbrev pub PutsLine : Call → Refusal → Type 0
PutsLine c r =
    let line = refusal_line r (plan_word (words_of c)) (file_words (words_of c)) in
    PutsOrRose c.old.report c.new.report line

-- ---- the answer

-- the count is as before, and can still rise: no fetch failed, no take
abbrev pub FilesWithoutFault : Call → Type 0
FilesWithoutFault c = IsWithoutFault c.old.files.faults c.new.files.faults

abbrev pub InputWithoutFault : Call → Type 0
InputWithoutFault c = IsWithoutFault c.old.input.faults c.new.input.faults

-- no count rose, and each still can
pub record AllWithoutFault (c : Call) : Type 0 where
  pub files : FilesWithoutFault c
  pub input : InputWithoutFault c
  pub out : IsWithoutFault c.old.out.faults c.new.out.faults
  pub report : IsWithoutFault c.old.report.faults c.new.report.faults
  pub images : IsWithoutFault c.old.images.faults c.new.images.faults

-- The status is that of the ending at the budget of the session that was made, unless memory ran out.
abbrev pub IsEndingOf : Call → ℕ → Kept → Type 0
IsEndingOf c status k =
    (status ≡ status_of_ending (ending_at k.session.value (budget_of (words_of c) k.plan)))
    ⊎ (status ≡ 9)

-- What a call answers.
pub record IsAnswered (c : Call) (status : ℕ) : Type 0 where
  -- with every status
  pub always : IsTrueOf c
  pub known : is_status status ≡ true
  -- 0, 1, 4, 8 and 10: a run, with its output, ending and report
  pub ran : is_run status ≡ true → IsRunOf c status
  -- any other: a refusal, with its cause and its line
  pub refused :
      is_run status ≡ false →
      (r : Refusal) × (status ≡ status_of r) × IsRefused c r × PutsLine c r
  -- 9 where there was no memory for the words
  pub unheard : IsErr c.words → status ≡ 9
  -- 2 wherever the words are not accepted, whatever the files do, unless memory ran out
  pub words_only : words_accepted (words_of c) ≡ None → (status ≡ 2) ⊎ (status ≡ 9)
  -- and wherever the word for a root names no method
  pub root_only : OfWords (given_of c) HasBadRoot → (status ≡ 2) ⊎ (status ≡ 9)
  -- and wherever the plan that the files tell is refused, or names no main class and no word does
  pub plan_only : HasBadPlan (given_of c) → FilesWithoutFault c → (status ≡ 2) ⊎ (status ≡ 9)
  -- 3 wherever words and plan are accepted, and all files are told or generated, but no program
  pub file_only : IsUnfit (given_of c) → FilesWithoutFault c → (status ≡ 3) ⊎ (status ≡ 9)
  -- of words that generate their program 3 only where an action names no method of it with Code
  pub rootless : is_generated (words_of c) ≡ true → status ≡ 3 → HasNoRoot (given_of c)
  -- and wherever one does
  pub rootless_only :
      HasNoRoot (given_of c) → IsSome c.old.told → FilesWithoutFault c → (status ≡ 3) ⊎ (status ≡ 9)
  -- 11 wherever a program is told, and more input than the limit
  pub input_only :
      HasLongInput (given_of c) → FilesWithoutFault c → InputWithoutFault c → (status ≡ 11) ⊎ (status ≡ 9)
  -- the status of its run at the budget wherever a session was made, and nothing failed
  pub made : AllWithoutFault c → IfSome c.kept (IsEndingOf c status)
  -- and the status of the run on the input at the budget wherever all is accepted
  pub complete :
      (p : Program) → (a : IsAccepted (given_of c) p) → AllWithoutFault c →
      (status ≡ status_of_ending (ending_of (world_on p a.input) a.admitted.command.budget))
      ⊎ (status ≡ 9)
