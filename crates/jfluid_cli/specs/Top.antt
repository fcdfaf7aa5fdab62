-- What the status of a call means, which contents are a program, and what is reported of a run.
use Rattle.std.specs.Prelude.{◌≡◌, ℕ, ◌<◌, Bool, List, [], ◌∷◌, length, Option, Some, None, Result, Ok, Err, ◌==◌}
use Rattle.std.specs.List.{list_any}
use Rattle.byte_streams.specs.Streams.{greatest}
use Rattle.const_pool.specs.declared.class.ClassFile.{ClassFile}
use Rattle.jvm_model.specs.declared.ending.Ending.{Ending}
use Rattle.jvm_model.specs.declared.ending.Ending.TheVariants.{Returned, Exited, Uncaught, Unverifiable}
use Rattle.jvm_model.specs.declared.program.Program.{Program}
use Rattle.code_admission.specs.declared.error.AdmitError.{AdmitError}
use Rattle.admit_check.specs.Admission.{admission_of}
use Rattle.jfluid_cli.specs.Asking.{ProgramWanted}
use Rattle.profile_session.specs.Sessions.{Profiling}
use Rattle.jfluid_cli.specs.Contents.{AreFiles, classes_for}
use Rattle.jfluid_cli.specs.Runs.{acts_until, world_on}
use Rattle.profile_report.specs.Reports.{report_text}
use Rattle.jvm_model.specs.Profiling.Projection.{projection}
use Rattle.jvm_model.specs.Codes.Originals.{original}
use Rattle.jvm_model.specs.Running.Run.{ending_of}
use Rattle.jvm_model.specs.Profiling.Swaps.{swaps_in}
use Rattle.jvm_model.specs.Profiling.Targets.{operations_of}

-- ---- statuses

-- returned or exited; uncaught; unverifiable; the budget was spent
abbrev pub status_of_ending : Option Ending → ℕ
status_of_ending None = 4
status_of_ending (Some Returned) = 0
status_of_ending (Some (Exited code)) = 0
status_of_ending (Some (Uncaught class)) = 1
status_of_ending (Some (Unverifiable method offset)) = 10

abbrev pub is_one_of : List ℕ → ℕ → Bool
is_one_of statuses status = list_any (λ s. s == status) statuses

-- the run was carried out up to its end or the budget
abbrev pub is_run : ℕ → Bool
is_run = is_one_of (0 ∷ 1 ∷ 4 ∷ 8 ∷ 10 ∷ [])

-- nothing was made
abbrev pub is_refused : ℕ → Bool
is_refused = is_one_of (2 ∷ 3 ∷ 5 ∷ 7 ∷ 11 ∷ [])

-- the program was not admitted, so no input was taken
abbrev pub is_unadmitted : ℕ → Bool
is_unadmitted = is_one_of (2 ∷ 3 ∷ 7 ∷ [])

-- the statuses that there are
abbrev pub is_status : ℕ → Bool
is_status = is_one_of (0 ∷ 1 ∷ 2 ∷ 3 ∷ 4 ∷ 5 ∷ 6 ∷ 7 ∷ 8 ∷ 9 ∷ 10 ∷ 11 ∷ [])

-- ---- the program

-- what admission answers for classes
abbrev pub answer_for : ProgramWanted → List ClassFile → Result Program AdmitError
answer_for a classes = admission_of classes a.main a.plan

-- The contents are files of classes that are admitted, as the first ones of this program.
pub record IsProgram (a : ProgramWanted) (contents : List (List ℕ)) (program : Program) : Type 0 where
  pub files : AreFiles contents (classes_for contents program)
  pub admitted : answer_for a (classes_for contents program) ≡ Ok program

-- some program is spelled
abbrev pub HasProgram : ProgramWanted → List (List ℕ) → Type 0
HasProgram a contents = (program : Program) × IsProgram a contents program

-- classes are spelled that are not admitted, for this fault
abbrev pub HasRefused : ProgramWanted → AdmitError → List (List ℕ) → Type 0
HasRefused a fault contents =
    (classes : List ClassFile) × AreFiles contents classes × (answer_for a classes ≡ Err fault)

-- no program is spelled
abbrev pub HasNoProgram : ProgramWanted → List (List ℕ) → Type 0
HasNoProgram a contents = (program : Program) → IsProgram a contents program → ⊥

-- ---- the report

-- how often a class was swapped in the start and so many steps
abbrev pub swaps_until : Program → List ℕ → ℕ → ℕ
swaps_until p input n =
    let w = world_on p input in
    length (swaps_in (acts_until n p.acts) w (original p) (operations_of p) n)

-- what is reported of a program's run on an input after so many steps: its ending, the steps, the
-- swaps, and the tree that is projected on the activations of the roots, under the actions so far, or
-- the sums over this tree
abbrev pub report_on : Bool → Program → List ℕ → ℕ → List ℕ
report_on summary p input n =
    let w = world_on p input in
    let contexts = projection (acts_until n p.acts) w n in
    report_text p (ending_of w n) n (swaps_until p input n) summary contexts

-- what is reported of a session's run
abbrev pub report_of : Bool → Profiling → List ℕ
report_of summary s = report_on summary s.program s.input s.clock

-- ---- counts of faults

-- the count is as before, and can still rise
pub record IsWithoutFault (old new : ℕ) : Type 0 where
  pub same : new ≡ old
  pub low : new < greatest
