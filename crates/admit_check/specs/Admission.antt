-- What is admitted: a program's classes, or its first fault.
use Rattle.std.specs.Prelude.{◌≡◌, ℕ, ◌+◌, List, [], ◌∷◌, ◌++◌, length, Option, Some, None, Result, Ok, Err, unwrap_or, nat_lt}
use Rattle.std.specs.Option.{option_and_then, option_map, option_or}
use Rattle.std.specs.List.{AllByRecursion}
use Rattle.const_pool.specs.declared.class.ClassFile.{ClassFile}
use Rattle.const_pool.specs.References.{name_type_of}
use Rattle.base_classes.specs.BuiltInFiles.{built_in_files}
use Rattle.plan_text.specs.declared.plan.Action.{Action}
use Rattle.plan_text.specs.declared.plan.Plan.{Plan}
use Rattle.plan_text.specs.declared.plan.RootName.{RootName}
use Rattle.jvm_model.specs.declared.event.Act.{Act}
use Rattle.jvm_model.specs.declared.program.Program.{Program}
use Rattle.jvm_model.specs.Basis.Programs.{class_named, declared_method, methods_numbered}
use Rattle.jvm_model.specs.Soundness.SoundPrograms.{IsSoundProgram, main_in}
use Rattle.code_admission.specs.declared.error.AdmitError.{AdmitError}
use Rattle.code_admission.specs.declared.error.AdmitError.TheVariants.{TooManyMethods, NoMain, NoSuchRoot}
use Rattle.code_admission.specs.Checks.{fault_if, first_of}
use Rattle.admit_check.specs.Shapes.{name_fault, shape_fault}
use Rattle.code_admission.specs.Codes.{codes_fault}
use Rattle.code_admission.specs.Floating.{floating_fault}
use Rattle.inject_events.specs.Answers.{IsProfilable, IsReadableClass}
use Rattle.admit_check.specs.Profiling.{HaveSoundTables, profiling_fault}
use Rattle.admit_check.specs.SoundBuiltIn.{IsSoundBuiltIn}

-- ---- the classes, in order

abbrev pub class_fault : List ClassFile → ℕ → ClassFile → Option AdmitError
class_fault earlier k c =
    first_of (name_fault earlier k c ∷ shape_fault k c ∷ codes_fault k c ∷ floating_fault k c ∷ profiling_fault k c ∷ [])

abbrev pub classes_fault : List ClassFile → List ClassFile → Option AdmitError
classes_fault earlier [] = None
classes_fault earlier (c ∷ rest) = option_or (class_fault earlier (length earlier) c) (classes_fault (earlier ++ c ∷ []) rest)

-- ---- the program of classes that have no fault

-- the classes, and the built-in ones behind them; main and the acts are found in it
abbrev pub program_with : List ClassFile → List ClassFile → Plan → Program
program_with classes built_in plan = record {
  classes = classes ++ built_in;
  methods = methods_numbered (classes ++ built_in);
  main = 0;
  acts = [];
  args = plan.args;
  heap = unwrap_or plan.heap 4194304;
}

-- at most 32,768 methods have Code
abbrev pub count_fault : Program → Option AdmitError
count_fault p = fault_if (nat_lt 32768 (length p.methods)) (TooManyMethods (length p.methods))

-- ---- what the plan asks for

-- the number of the method that a root names
abbrev pub root_in : Program → RootName → Option ℕ
root_in p r = option_and_then (declared_method p (name_type_of r.name r.descriptor)) (class_named p r.class)

abbrev pub act_of : Program → Action → Option Act
act_of p a = option_map (λ method. record { moment = a.moment; select = a.select; method = method }) (root_in p a.root)

-- an act before others, or the fault of an action at this place that names no method
abbrev pub act_with : Option Act → ℕ → Result (List Act) AdmitError → Result (List Act) AdmitError
act_with None at more = Err (NoSuchRoot at)
act_with (Some act) at (Ok acts) = Ok (act ∷ acts)
act_with (Some act) at (Err fault) = Err fault

-- the acts, or the place of the first whose root is no method, counted from this number
abbrev pub acts_from : Program → ℕ → List Action → Result (List Act) AdmitError
acts_from p at [] = Ok []
acts_from p at (a ∷ rest) = act_with (act_of p a) at (acts_from p (at + 1) rest)

-- ---- the answer

-- the program with its main method and its acts
abbrev pub with_acts : Program → ℕ → Result (List Act) AdmitError → Result Program AdmitError
with_acts p main (Ok acts) = Ok (record p { main = main; acts = acts })
with_acts p main (Err fault) = Err fault

abbrev pub with_main : Program → Plan → Option ℕ → Result Program AdmitError
with_main p plan None = Err NoMain
with_main p plan (Some main) = with_acts p main (acts_from p 1 plan.actions)

-- the fault, or else what is answered without one
abbrev pub unless_fault : {A : Type 0} → Option AdmitError → Result A AdmitError → Result A AdmitError
unless_fault (Some fault) answer = Err fault
unless_fault None answer = answer

-- what is answered behind the last class, where so many classes are given
abbrev pub program_completed : Program → ℕ → List ℕ → Plan → Result Program AdmitError
program_completed p given main plan = unless_fault (count_fault p) (with_main p plan (main_in p given main))

abbrev pub admission : List ClassFile → List ClassFile → List ℕ → Plan → Result Program AdmitError
admission classes built_in main plan =
    unless_fault (classes_fault [] classes) (program_completed (program_with classes built_in plan) (length classes) main plan)

-- ---- over the classes that a program finds beside its own

unfoldable pub admission_of : List ClassFile → List ℕ → Plan → Result Program AdmitError
admission_of classes main plan = admission classes built_in_files main plan

-- An admitted program of these classes with the main method of the class of this name: it is sound; its own classes
-- have no fault, and the built-in ones follow the rules too; each of its classes can be read and rewritten, whichever
-- of its methods with Code are marked, and its tables are moved there.
pub record IsAdmittedProgram (classes : List ClassFile) (name : List ℕ) (p : Program) : Type 0 where
  pub sound : IsSoundProgram classes name p
  pub fine : classes_fault [] classes ≡ None
  pub built_in : AllByRecursion IsSoundBuiltIn built_in_files
  pub readable : AllByRecursion IsReadableClass p.classes
  pub profilable : AllByRecursion IsProfilable p.classes
  pub tables : AllByRecursion HaveSoundTables p.classes
