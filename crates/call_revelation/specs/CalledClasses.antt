-- The classes that calls of entered methods name, and which of them are at or above a loaded class.
use Rattle.std.specs.Prelude.{◌≡◌, ◌<◌, ℕ, true, List, [], ◌∷◌, ◌++◌, length, flat_map, if◌then◌else◌}
use Rattle.std.specs.Option.{option_to_list}
use Rattle.jvm_model.specs.declared.program.Program.{Program}
use Rattle.jvm_model.specs.Classes.Load.{is_among}
use Rattle.jvm_model.specs.Classes.Lookup.{is_subtype}
use Rattle.jvm_model.specs.declared.instruction.SymbolicReference.{SymbolicReference}
use Rattle.jvm_model.specs.Instructions.SymbolicReference.{resolved_name}
use Rattle.jvm_model.specs.Basis.Programs.{class_named}
use Rattle.jvm_model.specs.Profiling.Revelation.{symbolic_references_of}
use Rattle.jvm_model.specs.Profiling.Targets.{operations_of}
use Rattle.possible_callees.specs.Tables.{list_at}
use Rattle.call_revelation.specs.declared.named.Named.{Named}
use Rattle.call_revelation.specs.Books.{is_call}

-- the class that a call names
abbrev pub called_class : Program → SymbolicReference → List ℕ
called_class p n = if is_call n then option_to_list (class_named p (resolved_name n)) else []

-- the classes that the calls of a method's original code name
abbrev pub classes_called : Program → ℕ → List ℕ
classes_called p method = flat_map (called_class p) (symbolic_references_of (operations_of p method))

-- each class that a call of the method names is kept
abbrev pub HasCalled : Program → Named → ℕ → Type 0
HasCalled p v method = (class : ℕ) → is_among class (classes_called p method) ≡ true → is_among class v.classes ≡ true

-- A loaded class has in its list each class at or above it that calls name.
pub record AreHanded (p : Program) (loaded : List ℕ) (v : Named) : Type 0 where
  pub places : length v.above.items ≡ length p.classes
  pub whole : (lower upper : ℕ) → upper < length p.classes → is_among lower loaded ≡ true → is_subtype p lower upper ≡ true
      → is_among upper v.classes ≡ true → is_among upper (list_at v.above.items lower) ≡ true

-- the class, where calls name it
abbrev pub own_of : Named → ℕ → List ℕ
own_of v class = if is_among class v.classes then class ∷ [] else []

-- those that calls name at or above a class that is below these
abbrev pub uppers_of : Named → List ℕ → ℕ → List ℕ
uppers_of v direct class = own_of v class ++ flat_map (list_at v.above.items) direct

-- whatever calls of entered methods name at or above the new class is one of these
abbrev pub HasUppers : Program → List ℕ → ℕ → List ℕ → Type 0
HasUppers p entered new uppers =
    (caller class : ℕ) → is_among caller entered ≡ true → is_among class (classes_called p caller) ≡ true → is_subtype p new class ≡ true
    → is_among class uppers ≡ true
