-- What a clause sees of the linker, and its answers.
use Rattle.std.specs.Prelude.{◌≡◌, ℕ, List, [], ◌∷◌, ◌++◌, Option, Some, None, codes, drop, length, position, unwrap_or, ◌/◌, ◌%◌}
use Rattle.std.specs.Option.{option_to_list}
use Rattle.std.specs.Str.{bytes_eq}
use Rattle.const_pool.specs.BuiltIn.{built_in_names}
use Rattle.const_pool.specs.References.{NameAndType}
use Rattle.jvm_model.specs.declared.program.Program.{Program}
use Rattle.jvm_model.specs.Basis.KindNumbers.{KindParts, class_of_base}
use Rattle.jvm_model.specs.Classes.Kinds.{kind_named}
use Rattle.jvm_model.specs.Classes.Load as load
use Rattle.jvm_model.specs.Classes.Lookup as lookup
use Rattle.jvm_model.specs.Basis.Programs.{class_named}
use Rattle.jvm_model.specs.Soundness.Sound as sound
use Rattle.class_linker.specs.declared.answers.Loaded.{Loaded}
use Rattle.class_linker.specs.declared.answers.Loaded.TheVariants.{New, Already, Throws as Stopped, NoMemory}
use Rattle.class_linker.specs.declared.answers.Resolved.{Resolved}
use Rattle.class_linker.specs.declared.answers.Resolved.TheVariants.{Found, Throws}

-- a program, and which of its classes are loaded, in order
pub record LinkerView : Type 0 where
  pub program : Program
  pub loaded : List ℕ

abbrev pub IsLoaded : LinkerView → ℕ → Type 0
IsLoaded l class = sound.IsLoaded l.loaded class

-- ---- errors

-- the place of an error's class among the built-in classes
abbrev pub error_number : List ℕ → ℕ
error_number name = unwrap_or (position (bytes_eq name) built_in_names) 0

-- ---- resolution

abbrev pub resolved_of : lookup.Resolution → Resolved
resolved_of (lookup.Found m) = Found m.class m.position
resolved_of (lookup.Fails error) = Throws (error_number error)

-- ---- loading

abbrev pub absent_name : load.Fault → Option (List ℕ)
absent_name (load.NoClass name) = Some name
absent_name load.Circular = None
absent_name load.Incompatible = None

-- new where a class was loaded for it
abbrev pub loaded_as : ℕ → List ℕ → Loaded
loaded_as kind [] = Already kind
loaded_as kind (class ∷ more) = New kind (class ∷ more)

abbrev pub stopped_by : load.Fault → List ℕ → Loaded
stopped_by fault classes = Stopped (error_number (load.error_of fault)) classes (absent_name fault)

abbrev pub answer_by : Option load.Fault → ℕ → List ℕ → Loaded
answer_by None kind classes = loaded_as kind classes
answer_by (Some fault) kind classes = stopped_by fault classes

-- the kind that the name stands for, or the error, and the classes that were loaded behind those before
abbrev pub answer_of : Program → List ℕ → List ℕ → load.Loading → Loaded
answer_of p before name l = answer_by l.fault (unwrap_or (kind_named p name) 0) (drop (length before) l.loaded)

abbrev pub load_answer : LinkerView → List ℕ → Loaded
load_answer l name = answer_of l.program l.loaded name (load.load_of l.program l.loaded name)

abbrev pub loaded_in : load.Loading → List ℕ
loaded_in l = l.loaded

-- want of memory changes nothing
abbrev pub loaded_by : Loaded → List ℕ → LinkerView → LinkerView
loaded_by NoMemory name l = l
loaded_by _ name l = record { program = l.program; loaded = loaded_in (load.load_of l.program l.loaded name) }

-- an answer, unless memory ran out
abbrev pub IsAnswer : Loaded → Loaded → Type 0
IsAnswer NoMemory due = Unit {0}
IsAnswer given due = given ≡ due

-- ---- kinds

abbrev pub parts_of : ℕ → KindParts
parts_of kind = record { dimensions = kind / 16777216; base = kind % 16777216 }

-- the class of a kind, or of an array's element, is loaded
abbrev pub IsKnown : LinkerView → ℕ → Type 0
IsKnown l kind = (class : ℕ) → class_of_base l.program (kind % 16777216) ≡ Some class → IsLoaded l class

-- ---- where a method is sought

abbrev pub method_in : Program → NameAndType → List ℕ → Option lookup.MemberPlace
method_in p wanted classes = lookup.first_in (lookup.method_at p wanted) classes

abbrev pub inherited_order : Program → ℕ → List ℕ
inherited_order p class = lookup.superinterfaces p class ++ option_to_list (class_named p (codes "java/lang/Object"))

abbrev pub interface_order : Program → ℕ → List ℕ
interface_order p class = class ∷ inherited_order p class

abbrev pub class_order : Program → ℕ → List ℕ
class_order p class = lookup.superclasses p class ++ lookup.superinterfaces p class

-- no classes are loaded yet
abbrev pub linker_of : Program → LinkerView
linker_of p = record { program = p; loaded = [] }
