-- What the linker keeps of a class that was loaded: the walks over its supertypes, made of those of its direct
-- supertypes.
use Rattle.std.specs.Prelude.{◌≡◌, ℕ, ◌≤◌, Bool, true, List, [], ◌∷◌, ◌++◌, length, Option, Some, count_by, flat_map, is_some, slice_get, if◌then◌else◌}
use Rattle.std.specs.List.{list_all}
use Rattle.std.specs.Option.{option_and_then, option_map_or}
use Rattle.const_pool.specs.declared.descriptor.Kind.{Kind}
use Rattle.jvm_model.specs.declared.program.Program.{Program}
use Rattle.jvm_model.specs.Classes.Layouts.{layout_within, own_kinds}
use Rattle.jvm_model.specs.Classes.Lookup.{interfaces_of, is_interface, superclass_of, superclasses_within, superinterfaces_within, supertypes_within}
use Rattle.jvm_model.specs.Basis.Programs.{class_at}
use Rattle.class_index.specs.Orders.{IsSearchedAs, with_classes}
use Rattle.class_linker.specs.declared.loaded_classes.LoadedClass.{LoadedClass}

abbrev pub LoadedClassRows : Type 0
LoadedClassRows = List (Option LoadedClass)

-- the row of a class, where it was loaded
abbrev pub loaded_class_at : LoadedClassRows → ℕ → Option LoadedClass
loaded_class_at rows class = option_and_then (λ (r : Option LoadedClass). r) (slice_get rows class)

abbrev pub holds_class : LoadedClassRows → ℕ → Bool
holds_class rows class = is_some (loaded_class_at rows class)

abbrev pub holds_all : LoadedClassRows → List ℕ → Bool
holds_all rows classes = list_all (holds_class rows) classes

abbrev pub held_count : LoadedClassRows → ℕ
held_count rows = count_by is_some rows

-- ---- parts of a row, which are empty where there is none

abbrev pub superclasses_in : LoadedClassRows → ℕ → List ℕ
superclasses_in rows class = option_map_or (λ (r : LoadedClass). r.superclasses) (loaded_class_at rows class) []

abbrev pub superinterfaces_in : LoadedClassRows → ℕ → List ℕ
superinterfaces_in rows class = option_map_or (λ (r : LoadedClass). r.superinterfaces) (loaded_class_at rows class) []

abbrev pub supertypes_in : LoadedClassRows → ℕ → List ℕ
supertypes_in rows class = option_map_or (λ (r : LoadedClass). r.supertypes) (loaded_class_at rows class) []

abbrev pub layout_in : LoadedClassRows → ℕ → List Kind
layout_in rows class = option_map_or (λ (r : LoadedClass). r.layout) (loaded_class_at rows class) []

-- ---- the row of a class, from the rows of what it names

abbrev pub superclasses_made : Program → LoadedClassRows → ℕ → List ℕ
superclasses_made p rows class = class ∷ flat_map (superclasses_in rows) (superclass_of p class)

-- an interface with its superinterfaces
abbrev pub with_interface : LoadedClassRows → List ℕ → ℕ → List ℕ
with_interface rows classes i = with_classes classes (i ∷ superinterfaces_in rows i)

abbrev pub with_interfaces : LoadedClassRows → List ℕ → List ℕ → List ℕ
with_interfaces rows classes [] = classes
with_interfaces rows classes (i ∷ rest) = with_interfaces rows (with_interface rows classes i) rest

abbrev pub superinterfaces_made : Program → LoadedClassRows → ℕ → List ℕ
superinterfaces_made p rows class =
    with_classes (with_interfaces rows [] (interfaces_of p class))
    (if is_interface p class then [] else flat_map (superinterfaces_in rows) (superclass_of p class))

-- classes, each with its supertypes
abbrev pub with_supertypes : LoadedClassRows → List ℕ → List ℕ → List ℕ
with_supertypes rows classes [] = classes
with_supertypes rows classes (class ∷ rest) = with_supertypes rows (with_classes classes (supertypes_in rows class)) rest

abbrev pub supertypes_made : Program → LoadedClassRows → ℕ → List ℕ
supertypes_made p rows class =
    with_supertypes rows (with_supertypes rows (class ∷ []) (interfaces_of p class)) (superclass_of p class)

abbrev pub layout_made : Program → LoadedClassRows → ℕ → List Kind
layout_made p rows class = flat_map (layout_in rows) (superclass_of p class) ++ option_map_or own_kinds (class_at p class) []

abbrev pub loaded_class_made : Program → LoadedClassRows → ℕ → LoadedClass
loaded_class_made p rows class = record {
  superclasses = superclasses_made p rows class;
  superinterfaces = superinterfaces_made p rows class;
  supertypes = supertypes_made p rows class;
  layout = layout_made p rows class;
}

-- ---- what holds of rows

-- a row gives what the walks of such a bound give
pub record IsLoadedClass (p : Program) (bound class : ℕ) (r : LoadedClass) : Type 0 where
  pub superclasses : r.superclasses ≡ superclasses_within p bound class
  pub superinterfaces : IsSearchedAs r.superinterfaces (superinterfaces_within p bound class)
  pub supertypes : IsSearchedAs r.supertypes (supertypes_within p bound class)
  pub layout : r.layout ≡ layout_within p bound class

-- the classes of its walks have rows
pub record IsClosed (rows : LoadedClassRows) (r : LoadedClass) : Type 0 where
  pub superclasses : holds_all rows r.superclasses ≡ true
  pub supertypes : holds_all rows r.supertypes ≡ true

-- There is a place for the row of each class. A walk from a class that has a row is no longer than there are rows.
pub record AreLoadedClasses (p : Program) (rows : LoadedClassRows) : Type 0 where
  pub places : length rows ≡ length p.classes
  pub each : (class bound : ℕ) (r : LoadedClass) → loaded_class_at rows class ≡ Some r → held_count rows ≤ bound → IsLoadedClass p bound class r
  pub ends : (class bound : ℕ) → holds_class rows class ≡ true → held_count rows ≤ bound
      → supertypes_within p bound class ≡ supertypes_within p (held_count rows) class
  pub closed : (class : ℕ) (r : LoadedClass) → loaded_class_at rows class ≡ Some r → IsClosed rows r

-- what has a row keeps one
abbrev pub AreKept : LoadedClassRows → LoadedClassRows → Type 0
AreKept before after = (class : ℕ) → holds_class before class ≡ true → holds_class after class ≡ true
