-- What was loaded so far, and how loading changes it.
use Rattle.std.specs.Prelude.{◌≡◌, ℕ, ◌<◌, Bool, true, false, List, length, Option, flat_map, map, [], ◌∷◌, ◌++◌, take}
use Rattle.std.specs.Option.{option_map, option_to_list}
use Rattle.const_pool.specs.declared.class.ClassFile.{ClassFile}
use Rattle.const_pool.specs.References.{named_class}
use Rattle.jvm_model.specs.declared.program.Program.{Program}
use Rattle.jvm_model.specs.Classes.Kinds.{meaning_of}
use Rattle.jvm_model.specs.Classes.Load as load
use Rattle.jvm_model.specs.Basis.Programs.{class_named}
use Rattle.class_linker.specs.declared.loading.Fault.{Fault}
use Rattle.class_linker.specs.declared.loading.Fault.TheVariants as code
use Rattle.class_linker.specs.declared.loading.Standing.{Standing}
use Rattle.class_linker.specs.declared.loading.Standing.TheVariants.{Ended, Fresh}
use Rattle.class_linker.specs.declared.loading.Need.{Need}
use Rattle.class_linker.specs.declared.loading.Begun.{Begun}
use Rattle.class_linker.specs.declared.loading.Begun.TheVariants as begun
use Rattle.class_linker.specs.declared.loading.LinkerState.{LinkerState}
use Rattle.class_linker.specs.LoadedClasses.{AreKept, AreLoadedClasses, LoadedClassRows, holds_class}

-- ---- what the code has, as the definitions have it

abbrev pub fault_view : Fault → load.Fault
fault_view (code.NoClass name) = load.NoClass name
fault_view code.Circular = load.Circular
fault_view code.Incompatible = load.Incompatible

abbrev pub loading_view : List ℕ → Option Fault → load.Loading
loading_view loaded fault = record { loaded = loaded; fault = option_map fault_view fault }

abbrev pub need_view : Need → load.Need
need_view n = record { name = n.name.now; interface = n.interface }

-- what an entry of a class file's pool names, and what the class file needs
abbrev pub needs_at : ClassFile → Bool → ℕ → List load.Need
needs_at c interface entry = map (load.need interface) (option_to_list (named_class c.pool entry))

abbrev pub needs_in : ClassFile → List load.Need
needs_in c = needs_at c false c.super_class ++ flat_map (needs_at c true) c.interfaces

-- ---- the state

abbrev pub HaveLoadedClasses : LoadedClassRows → List ℕ → Type 0
HaveLoadedClasses rows loaded = (class : ℕ) → load.is_among class loaded ≡ true → holds_class rows class ≡ true

-- each loaded class has a row
pub record IsState (p : Program) (s : LinkerState) : Type 0 where
  pub rows : AreLoadedClasses p s.rows
  pub loaded : HaveLoadedClasses s.rows s.loaded

-- rows are kept, and what is loaded more stands behind
pub record IsLater (before after : LinkerState) : Type 0 where
  pub rows : AreKept before.rows after.rows
  pub loaded : take (length before.loaded) after.loaded ≡ before.loaded

-- ---- how a name stands

-- what is loaded for a class's name, and for any name, where this loads a class that is not loaded yet
abbrev pub class_loading : Program → List ℕ → List ℕ → List ℕ → (ℕ → load.Loading) → load.Loading
class_loading p path name loaded fresh = load.by_load_state (load.load_state_of path loaded (class_named p name)) name loaded fresh

abbrev pub named_loading : Program → List ℕ → List ℕ → List ℕ → (ℕ → load.Loading) → load.Loading
named_loading p path name loaded fresh =
    load.load_element (meaning_of name).element loaded (λ class_name. class_loading p path class_name loaded fresh)

abbrev pub standing_loading : Standing → List ℕ → (ℕ → load.Loading) → load.Loading
standing_loading (Ended fault) loaded fresh = loading_view loaded fault
standing_loading (Fresh class) loaded fresh = fresh class

-- a class of the program that is neither loaded nor being loaded
pub record IsFresh (p : Program) (path loaded : List ℕ) (class : ℕ) : Type 0 where
  pub within : class < length p.classes
  pub not_loaded : load.is_among class loaded ≡ false
  pub not_begun : load.is_among class path ≡ false

abbrev pub IfFresh : Program → List ℕ → List ℕ → Standing → Type 0
IfFresh p path loaded (Ended fault) = Unit {0}
IfFresh p path loaded (Fresh class) = IsFresh p path loaded class

-- ---- the same, with the class on the path

abbrev pub as_standing : Begun → Standing
as_standing (begun.Ended fault) = Ended fault
as_standing (begun.Class opened) = Fresh opened.class

abbrev pub path_behind : List ℕ → Begun → List ℕ
path_behind path (begun.Ended fault) = path
path_behind path (begun.Class opened) = path ++ opened.class ∷ []

abbrev pub HasNeeds : Program → Begun → Type 0
HasNeeds p (begun.Ended fault) = Unit {0}
HasNeeds p (begun.Class opened) = map need_view opened.needs ≡ load.needs_of p opened.class
