-- What the functions of admission owe one another.
use Rattle.std.specs.Prelude.{◌≡◌, ◌≢◌, ℕ, ◌+◌, ◌<◌, ◌^◌, Bool, false, List, [], ◌∷◌, ◌++◌, length, map, filter_map, Option, None, Result, Ok, Err, if◌then◌else◌}
use Rattle.std.specs.List.{AllByRecursion, list_any}
use Rattle.std.specs.Option.{option_map_or, option_or}
use Rattle.const_pool.specs.declared.class.ClassFile.{ClassFile}
use Rattle.const_pool.specs.ClassFile.{IsClassFile}
use Rattle.base_classes.specs.BuiltInClasses.{built_in_classes}
use Rattle.base_classes.specs.Shown.{declaration_of}
use Rattle.jvm_model.specs.declared.program.Program.{Program}
use Rattle.jvm_model.specs.Basis.Descriptors.{same_text}
use Rattle.code_admission.specs.declared.error.AdmitError.{AdmitError}
use Rattle.code_admission.specs.declared.error.AdmitError.TheVariants.{ReservedName, Duplicate, NoMemory}
use Rattle.code_admission.specs.Checks.{fault_if, first_of}
use Rattle.admit_check.specs.Shapes.{is_reserved, own_name, shape_fault}
use Rattle.code_admission.specs.Codes.{IsRefusal, codes_fault}
use Rattle.code_admission.specs.Floating.{floating_fault}
use Rattle.admit_check.specs.Profiling.{profiling_fault}

-- ---- answers

-- a call passes where there is no fault, and else tells it, unless memory ran out
abbrev pub Passes : {A : Type 0} → Result A AdmitError → Option AdmitError → Type 0
Passes (Ok x) fault = fault ≡ None
Passes (Err error) fault = IsRefusal fault error

-- a call answers that, unless memory ran out
abbrev pub Answers : {A : Type 0} → Result A AdmitError → Result A AdmitError → Type 0
Answers (Ok x) answer = answer ≡ Ok x
Answers (Err fault) answer = fault ≢ NoMemory → answer ≡ Err fault

-- ---- the faults of a class by the names of those before

-- the names of classes, in order
abbrev pub names_of : List ClassFile → List (List ℕ)
names_of classes = filter_map own_name classes

abbrev pub has_name_among : List (List ℕ) → ClassFile → Bool
has_name_among names c = option_map_or (λ name. list_any (same_text name) names) (own_name c) false

abbrev pub name_fault_among : List (List ℕ) → ℕ → ClassFile → Option AdmitError
name_fault_among names k c =
    first_of (fault_if (is_reserved c) (ReservedName k) ∷ fault_if (has_name_among names c) (Duplicate k) ∷ [])

-- its codes, then floats and doubles, and then what can't be rewritten
abbrev pub code_fault_of : ℕ → ClassFile → Option AdmitError
code_fault_of k c = first_of (codes_fault k c ∷ floating_fault k c ∷ profiling_fault k c ∷ [])

abbrev pub class_fault_among : List (List ℕ) → ℕ → ClassFile → Option AdmitError
class_fault_among names k c =
    first_of (name_fault_among names k c ∷ shape_fault k c ∷ codes_fault k c ∷ floating_fault k c ∷ profiling_fault k c ∷ [])

-- a name more, if it is none of them
abbrev pub with_name : List (List ℕ) → List ℕ → List (List ℕ)
with_name names name = if list_any (same_text name) names then names else names ++ name ∷ []

abbrev pub with_name_of : List (List ℕ) → ClassFile → List (List ℕ)
with_name_of names c = option_map_or (with_name names) (own_name c) names

abbrev pub classes_fault_among : List (List ℕ) → ℕ → List ClassFile → Option AdmitError
classes_fault_among names k [] = None
classes_fault_among names k (c ∷ rest) =
    option_or (class_fault_among names k c) (classes_fault_among (with_name_of names c) (k + 1) rest)

-- ---- the built-in classes

-- what is known of the class files that base_classes gives
pub record AreBuiltIn (classes : List ClassFile) : Type 0 where
  pub declared : map declaration_of classes ≡ built_in_classes
  pub formed : AllByRecursion IsClassFile classes

-- ---- numbers

-- Its classes are class files, and they and its methods are few enough for their numbers.
pub record HasNumbers (p : Program) : Type 0 where
  pub formed : AllByRecursion IsClassFile p.classes
  pub classes : length p.classes < 2 ^ 32
  pub methods : length p.methods < 2 ^ 32
