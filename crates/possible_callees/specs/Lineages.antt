-- The loaded classes, and how one comes from a class to those at or below it.
use Rattle.std.specs.Prelude.{◌≡◌, ◌⊎◌, ℕ, ◌<◌, Bool, true, List, [], ◌∷◌, ◌++◌, length, Option, None, if◌then◌else◌}
use Rattle.std.specs.Option.{option_and_then}
use Rattle.jvm_model.specs.declared.program.Program.{Program}
use Rattle.jvm_model.specs.Instructions.InvocationRules.{Selecting, Virtual, OfInterface}
use Rattle.jvm_model.specs.Basis.KindNumbers.{user_count}
use Rattle.jvm_model.specs.Classes.Load.{is_among}
use Rattle.jvm_model.specs.Classes.Lookup.{MemberPlace, interfaces_of, is_subtype, superclass_of}
use Rattle.jvm_model.specs.declared.instruction.SymbolicReference.{SymbolicReference}
use Rattle.jvm_model.specs.Instructions.SymbolicReference.{resolved_name}
use Rattle.jvm_model.specs.declared.instruction.SymbolicReference.TheVariants as model
use Rattle.jvm_model.specs.Basis.Programs.{initializer_of, number_of_method}
use Rattle.jvm_model.specs.Classes.Selection.{method_selected}
use Rattle.jvm_model.specs.Profiling.Targets.{begun_field, begun_on, begun_static, initializers, where_loaded}
use Rattle.class_linker.specs.Linkers.{IsLoaded, LinkerView}
use Rattle.member_selection.specs.Numbers.{AreNumbers, Row}
use Rattle.possible_callees.specs.declared.lineage.Lineage.{Lineage}
use Rattle.possible_callees.specs.Tables.{list_at, with_item}

-- what stands in the lists of the first ones is among the others
abbrev pub AreFollowed : List (List ℕ) → List ℕ → List ℕ → Type 0
AreFollowed below first others = (class lower : ℕ) → is_among class first ≡ true → is_among lower (list_at below class) ≡ true → is_among lower others ≡ true

-- with a class they have all that stands in its list
abbrev pub IsClosed : List (List ℕ) → List ℕ → Type 0
IsClosed below classes = AreFollowed below classes classes

-- Each class has a list, and from list to list one comes from a class to all that are loaded at or below it.
pub record IsLineage (p : Program) (v : Lineage) : Type 0 where
  pub places : length v.below.items ≡ length p.classes
  pub whole : (class lower : ℕ) (classes : List ℕ) → class < length p.classes → is_among lower v.loaded ≡ true → is_subtype p lower class ≡ true
      → is_among class classes ≡ true → IsClosed v.below.items classes → is_among lower classes ≡ true

-- the classes that a class names above itself
abbrev pub direct : Program → ℕ → List ℕ
direct p class = interfaces_of p class ++ superclass_of p class

-- one of these is the class, or is loaded and below it
pub record IsLed (p : Program) (loaded uppers : List ℕ) (class : ℕ) : Type 0 where
  pub by : ℕ
  pub there : is_among by uppers ≡ true
  pub within : by < length p.classes
  pub leads : (by ≡ class) ⊎ ((is_among by loaded ≡ true) × (is_subtype p by class ≡ true))

-- by these one comes to whatever is above a class
abbrev pub LeadTo : Program → List ℕ → ℕ → List ℕ → Type 0
LeadTo p loaded class uppers = (upper : ℕ) → upper < length p.classes → is_subtype p class upper ≡ true → (class ≡ upper) ⊎ IsLed p loaded uppers upper

-- a class more in the lists of these
abbrev pub class_noted : ℕ → List (List ℕ) → List ℕ → List (List ℕ)
class_noted lower below [] = below
class_noted lower below (class ∷ rest) = class_noted lower (with_item class lower below) rest

-- it was noted in lists of these alone, and nothing went
pub record IsNoted (lower : ℕ) (classes : List ℕ) (before after : List (List ℕ)) : Type 0 where
  pub places : length after ≡ length before
  pub only : (class x : ℕ) → is_among x (list_at after class) ≡ true
      → (is_among x (list_at before class) ≡ true) ⊎ ((x ≡ lower) × (is_among class classes ≡ true))
  pub more : (class x : ℕ) → is_among x (list_at before class) ≡ true → is_among x (list_at after class) ≡ true

-- What is kept is of the linker's program, and the linker has loaded these classes and java/lang/Object.
pub record AreKnown (l : LinkerView) (rows : List Row) (v : Lineage) : Type 0 where
  pub numbers : AreNumbers l.program rows
  pub lineage : IsLineage l.program v
  pub loaded : (class : ℕ) → is_among class v.loaded ≡ true → IsLoaded l class
  pub root : IsLoaded l (user_count l.program)

-- ---- what begins

abbrev pub selecting : Bool → Selecting
selecting true = OfInterface
selecting _ = Virtual

-- the number of a method, where it is one that has Code
abbrev pub number_of : Program → Option MemberPlace → Option ℕ
number_of p found = option_and_then (λ (m : MemberPlace). number_of_method p m.class m.position) found

-- what is selected from a class at or below this one
abbrev pub selected_below : Program → Bool → ℕ → MemberPlace → ℕ → Option ℕ
selected_below p interface class m lower = if is_subtype p lower class then number_of p (method_selected p lower interface m) else None

-- the same where it is loaded
abbrev pub selection_of : Program → List ℕ → Bool → ℕ → MemberPlace → ℕ → Option ℕ
selection_of p loaded interface class m lower = if is_among lower loaded then selected_below p interface class m lower else None

-- the static initializer of a class that is loaded
abbrev pub initializer_in : Program → List ℕ → ℕ → Option ℕ
initializer_in p loaded class = if is_among class loaded then initializer_of p class else None

-- what an instruction begins that names this class; invokespecial asks for the class whose methods the named type has
abbrev pub begun_at : Program → List ℕ → SymbolicReference → ℕ → List ℕ
begun_at p loaded (model.New name) class = initializers p loaded class
begun_at p loaded (model.Getstatic r) class = begun_field p loaded class r
begun_at p loaded (model.Putstatic r) class = begun_field p loaded class r
begun_at p loaded (model.Invokestatic r) class = begun_static p loaded class r
begun_at p loaded (model.Invokevirtual r) class = begun_on p loaded class Virtual r
begun_at p loaded (model.Invokeinterface r) class = begun_on p loaded class OfInterface r
begun_at p loaded _ class = []

abbrev pub begun_named : Program → List ℕ → SymbolicReference → List ℕ
begun_named p loaded n = where_loaded p loaded (resolved_name n) (begun_at p loaded n)
