-- What holds of the objects of a heap and the classes that are loaded: the class of an object is loaded, or that of an
-- array's elements (JVM Specification 5.3, 5.4).
use Rattle.std.specs.Prelude.{◌≡◌, ◌<◌, ◌≤◌, ◌/◌, ℕ, List, Option, Some, ◌&&◌, Bool}
use Rattle.std.specs.Option.{option_map_or}
use Rattle.std.specs.List.{AllByRecursion}
use Rattle.heap_objects.specs.declared.object.Object.{Object}
use Rattle.heap_objects.specs.Heaps.{HeapView}
use Rattle.jvm_model.specs.declared.program.Program.{Program}
use Rattle.jvm_model.specs.Basis.KindNumbers.{user_count}
use Rattle.jvm_model.specs.Classes.Kinds.{kind_named, meaning_of}
use Rattle.jvm_model.specs.declared.instruction.SymbolicReference.{SymbolicReference}
use Rattle.jvm_model.specs.declared.instruction.SymbolicReference.TheVariants as reference
use Rattle.jvm_model.specs.Basis.SharedState.{class_of_kind}
use Rattle.jvm_model.specs.Soundness.Sound as sound
use Rattle.class_linker.specs.Linkers.{IsLoaded, LinkerView}
use Rattle.jvm_model.specs.Instructions.SymbolicReference.{extends, is_below_kind}

-- the class of this kind is loaded, and of an array's the elements' class
abbrev pub IsUsable : LinkerView → ℕ → Type 0
IsUsable l kind = sound.IsUsable l.program l.loaded kind

abbrev pub IsOfLoaded : LinkerView → Object → Type 0
IsOfLoaded l o = sound.IsOfLoaded l.program l.loaded o

-- and java/lang/Object is, which is the class of arrays
pub record AreLoaded (l : LinkerView) (h : HeapView) : Type 0 where
  pub objects : AllByRecursion (IsOfLoaded l) h.objects
  pub root : IsLoaded l (user_count l.program)

-- the kind that a name stands for, once it was resolved
pub record IsResolved (l : LinkerView) (name : List ℕ) (kind : ℕ) : Type 0 where
  pub named : kind_named l.program name ≡ Some kind
  pub dimensions : kind / 16777216 ≡ (meaning_of name).dimensions
  pub usable : IsUsable l kind

-- the class in which an invokespecial stands is loaded
abbrev pub HasLoadedCaller : LinkerView → SymbolicReference → Type 0
HasLoadedCaller l n = sound.HasLoadedCaller l.program l.loaded n

-- anewarray and multianewarray name types of so many dimensions as the format of class files asks (4.9.1)
abbrev pub HasDimensions : SymbolicReference → Type 0
HasDimensions (reference.Anewarray name) = (meaning_of name).dimensions < 255
HasDimensions (reference.Multianewarray name dimensions) = (1 ≤ dimensions) × (dimensions ≤ (meaning_of name).dimensions)
HasDimensions _ = Unit {0}

-- the class of an object of this kind, and java/lang/Object where there is no object
abbrev pub class_at_kind : Program → Option ℕ → ℕ
class_at_kind p kind = option_map_or (class_of_kind p) kind (user_count p)

-- an object of the first kind is of the second, and its class is the other one or inherits from it
abbrev pub has_field_at : Program → Option ℕ → ℕ → ℕ → Bool
has_field_at p lower upper class = is_below_kind p lower (Some upper) && extends p (class_at_kind p lower) class
