-- The program of generated classes, and what is answered for one with the actions of a plan.
use Rattle.std.specs.Prelude.{◌≡◌, ◌≢◌, ℕ, List, map, Result, Err, codes}
use Rattle.std.specs.List.{AllZip}
use Rattle.const_pool.specs.ClassFile.{class_bytes}
use Rattle.class_reader.specs.Files.{IsFile}
use Rattle.base_classes.specs.BuiltInFiles.{built_in_files}
use Rattle.plan_text.specs.declared.plan.Plan.{Plan}
use Rattle.program_gen.specs.Generated.{classes_generated}
use Rattle.jvm_model.specs.declared.program.Program.{Program}
use Rattle.code_admission.specs.declared.error.AdmitError.{AdmitError}
use Rattle.code_admission.specs.declared.error.AdmitError.TheVariants.{NoSuchRoot, NoMemory}
use Rattle.admit_check.specs.Admission.{acts_from, program_with, with_acts}

-- the class with the entry
abbrev pub main_name : List ℕ
main_name = codes "GenMain"

-- the generated classes with the built-in ones behind them; the entry is the first of the methods
abbrev pub generated_program : ℕ → ℕ → Plan → Program
generated_program seed size plan = program_with (classes_generated seed size) built_in_files plan

-- the program with its acts, or the place of the first action that names no method
abbrev pub admission_of_generated : ℕ → ℕ → Plan → Result Program AdmitError
admission_of_generated seed size plan =
    let p = generated_program seed size plan in with_acts p 0 (acts_from p 1 plan.actions)

-- an action at some place names no method, or memory ran out
abbrev pub NamesNoMethod : AdmitError → Type 0
NamesNoMethod (NoSuchRoot at) = Unit {0}
NamesNoMethod NoMemory = Unit {0}
NamesNoMethod _ = ⊥

-- the bytes of the class files, in order
abbrev pub generated_contents : ℕ → ℕ → List (List ℕ)
generated_contents seed size = map class_bytes (classes_generated seed size)

-- each is a file of the class at its place
abbrev pub AreGeneratedFiles : ℕ → ℕ → List (List ℕ) → Type 0
AreGeneratedFiles seed size contents = AllZip IsFile contents (classes_generated seed size)

-- the answer was that there is no program for this reason, unless memory ran out
abbrev pub IsRefusedFor : Result Program AdmitError → AdmitError → Type 0
IsRefusedFor answer fault = fault ≢ NoMemory → answer ≡ Err fault
