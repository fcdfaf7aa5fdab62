-- What is there is of classes that are loaded (JVM Specification 5.3, 5.4, 5.5): an instruction that names something is
-- attempted in such states alone.
use Rattle.std.specs.Prelude.{◌≡◌, ◌≤◌, ◌<◌, ◌%◌, ℕ, true, false, List, length, Some}
use Rattle.std.specs.List.{AllByRecursion, list_any}
use Rattle.const_pool.specs.BuiltIn.{built_in_names}
use Rattle.heap_objects.specs.declared.object.Object.{Object}
use Rattle.heap_objects.specs.Objects.{kind_of}
use Rattle.jvm_model.specs.Basis.Data.{MethodPlace, SymbolicReference, Invokespecial, Local, Operation, Named, Newarray, Outcome, Invokes, Raises, Initializes, Done, Program, Shared}
use Rattle.jvm_model.specs.Basis.Descriptors.{same_text}
use Rattle.jvm_model.specs.Basis.KindNumbers.{class_of_base, user_count}
use Rattle.jvm_model.specs.Classes.Kinds.{is_array_name}
use Rattle.jvm_model.specs.Codes.Lines.{has_dimensions}
use Rattle.jvm_model.specs.Classes.Load.{is_among}
use Rattle.jvm_model.specs.Classes.Lookup.{interfaces_of, superclass_of}
use Rattle.jvm_model.specs.Basis.Programs.{class_named, name_at, place_of_method}
use Rattle.jvm_model.specs.Running.Run.{main_class}
use Rattle.jvm_model.specs.Basis.SharedState.{class_of_kind, shared_before}

-- ---- classes

abbrev pub IsLoaded : List ℕ → ℕ → Type 0
IsLoaded loaded class = is_among class loaded ≡ true

-- the built-in classes stand behind the others, and are loaded from the beginning (5.3)
pub record HasBuiltIn (p : Program) (loaded : List ℕ) : Type 0 where
  pub whole : length built_in_names ≤ length p.classes
  pub each : (class : ℕ) → user_count p ≤ class → class < length p.classes → IsLoaded loaded class

-- the direct supertypes of what is loaded are loaded
pub record HasSupertypes (p : Program) (loaded : List ℕ) : Type 0 where
  pub superclass : (class : ℕ) → IsLoaded loaded class → AllByRecursion (IsLoaded loaded) (superclass_of p class)
  pub interfaces : (class : ℕ) → IsLoaded loaded class → AllByRecursion (IsLoaded loaded) (interfaces_of p class)

-- ---- objects

-- the class of this kind is loaded, and of an array's the elements' class
pub record IsUsable (p : Program) (loaded : List ℕ) (kind : ℕ) : Type 0 where
  pub known : (class : ℕ) → class_of_base p (kind % 16777216) ≡ Some class → IsLoaded loaded class
  pub of_class : IsLoaded loaded (class_of_kind p kind)

abbrev pub IsOfLoaded : Program → List ℕ → Object → Type 0
IsOfLoaded p loaded o = IsUsable p loaded (kind_of o)

-- ---- what activations share

pub record IsSoundShared (p : Program) (s : Shared) : Type 0 where
  pub built_in : HasBuiltIn p s.loaded
  pub above : HasSupertypes p s.loaded
  pub objects : AllByRecursion (IsOfLoaded p s.loaded) s.heap.objects

-- ---- activations and initializations

-- the class of the method with this number
abbrev pub HasClass : Program → List ℕ → ℕ → Type 0
HasClass p loaded method = (place : MethodPlace) → place_of_method p method ≡ Some place → IsLoaded loaded place.class

-- ---- instructions

-- the class in which an invokespecial stands is loaded
abbrev pub HasLoadedCaller : Program → List ℕ → SymbolicReference → Type 0
HasLoadedCaller p loaded (Invokespecial caller r interface) = (class : ℕ) → class_named p caller ≡ Some class → IsLoaded loaded class
HasLoadedCaller p loaded n = Unit {0}

-- an array of one dimension whose elements are of a primitive type
pub record IsPrimitiveArray (kind : ℕ) : Type 0 where
  pub array : 16777216 ≤ kind
  pub primitive : kind < 16777232

-- What an attempt asks: of an instruction that names an array's type that it has the dimensions that it needs, and of
-- newarray that its array's elements are of a primitive type (4.9.1).
abbrev pub CanAttempt : Program → List ℕ → Operation Local → Type 0
CanAttempt p loaded (Named n) = HasLoadedCaller p loaded n × (has_dimensions n ≡ true)
CanAttempt p loaded (Newarray kind) = IsPrimitiveArray kind
CanAttempt p loaded o = Unit {0}

-- ---- what an instruction asks for

-- the machine makes exceptions of built-in classes alone
abbrev pub IsBuiltInName : List ℕ → Type 0
IsBuiltInName name = list_any (same_text name) built_in_names ≡ true

abbrev pub IsSoundOutcome : Program → List ℕ → Outcome → Type 0
IsSoundOutcome p loaded (Invokes method args below) = HasClass p loaded method
IsSoundOutcome p loaded (Initializes class) = IsLoaded loaded class
IsSoundOutcome p loaded (Raises name message) = IsBuiltInName name
IsSoundOutcome p loaded o = Unit {0}

-- what the rule of an instruction gives: no class is loaded
pub record IsSoundDone (p : Program) (loaded : List ℕ) (d : Done) : Type 0 where
  pub loaded_same : d.shared.loaded ≡ loaded
  pub shared : IsSoundShared p d.shared
  pub outcome : IsSoundOutcome p loaded d.outcome

-- ---- programs

-- a class with this name stands among the built-in ones
pub record IsBuiltIn (p : Program) (name : List ℕ) : Type 0 where
  pub class : ℕ
  pub found : class_named p name ≡ Some class
  pub behind : user_count p ≤ class

-- the class has a name, which is no array's
pub record HasPlainName (p : Program) (class : ℕ) : Type 0 where
  pub name : List ℕ
  pub named : name_at p class ≡ Some name
  pub plain : is_array_name name ≡ false

-- What is asked of a program: at most 4,096 classes stand before the built-in ones, no two have one name, and the
-- built-in ones name classes above themselves that are built in.
pub record IsFit (p : Program) : Type 0 where
  pub few : length p.classes ≤ 4149
  pub names : (class : ℕ) (name : List ℕ) → name_at p class ≡ Some name → class_named p name ≡ Some class
  pub main : HasPlainName p (main_class p)
  pub built_in : AllByRecursion (IsBuiltIn p) built_in_names
  pub before : HasBuiltIn p (shared_before p).loaded
  pub above : HasSupertypes p (shared_before p).loaded
