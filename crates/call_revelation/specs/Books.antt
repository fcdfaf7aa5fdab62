-- What is kept of the code of methods that were entered: the instructions that can begin methods, and by the class that
-- an instruction names where it stands.
use Rattle.std.specs.Prelude.{◌≡◌, ◌+◌, ℕ, Bool, true, false, List, [], ◌∷◌, ◌++◌, length, flat_map, Option, Some, slice_get, ◌==◌, ◌&&◌, if◌then◌else◌}
use Rattle.std.specs.List.{list_any}
use Rattle.std.specs.Option.{option_and_then, option_flatten, option_map_or}
use Rattle.jvm_model.specs.declared.program.Program.{Program}
use Rattle.jvm_model.specs.Instructions.InvocationRules.{Virtual, OfInterface}
use Rattle.jvm_model.specs.Classes.Load.{is_among}
use Rattle.jvm_model.specs.Instructions.SymbolicReference.{resolved_name}
use Rattle.jvm_model.specs.declared.instruction.SymbolicReference.TheVariants as model
use Rattle.jvm_model.specs.Basis.Programs.{class_named}
use Rattle.jvm_model.specs.Profiling.Revelation.{gained_on, is_named, symbolic_references_of}
use Rattle.jvm_model.specs.Profiling.Targets.{begun_by, operations_of}
use Rattle.jvm_model.specs.declared.instruction.SymbolicReference.{SymbolicReference}
use Rattle.possible_callees.specs.Tables.{list_at, with_item}
use Rattle.call_revelation.specs.declared.book.Book.{Book}
use Rattle.call_revelation.specs.declared.uses.Use.{Use}

-- ---- instructions by their methods, and by the classes that they name

abbrev pub Codes : Type 0
Codes = List (Option (List SymbolicReference))

-- what was read of a method
abbrev pub code_at : Codes → ℕ → Option (List SymbolicReference)
code_at codes method = option_flatten (slice_get codes method)

-- what an instruction names
abbrev pub symbolic_reference_at : Codes → Use → Option SymbolicReference
symbolic_reference_at codes u = option_and_then (λ ns. slice_get ns u.at) (code_at codes u.caller)

abbrev pub is_use : ℕ → ℕ → Use → Bool
is_use caller at u = u.caller == caller && u.at == at

abbrev pub has_use : ℕ → ℕ → List Use → Bool
has_use caller at uses = list_any (is_use caller at) uses

-- invokevirtual and invokeinterface select by the class of the receiver
abbrev pub is_call : SymbolicReference → Bool
is_call (model.Invokevirtual r) = true
is_call (model.Invokeinterface r) = true
is_call _ = false

-- an instruction of a method stands in the list of the class that it names
abbrev pub IsListed : Program → List (List Use) → ℕ → ℕ → SymbolicReference → Type 0
IsListed p lists caller at n =
    (class : ℕ) → class_named p (resolved_name n) ≡ Some class → has_use caller at (list_at lists class) ≡ true

-- What was read of a method are its instructions. Each of them is listed, and each call is among the calls.
pub record IsBook (p : Program) (codes : Codes) (waiting calls : List (List Use)) : Type 0 where
  pub methods : length codes ≡ length p.methods
  pub places : length waiting ≡ length p.classes
  pub call_places : length calls ≡ length p.classes
  pub read : (method : ℕ) (ns : List SymbolicReference) → code_at codes method ≡ Some ns → ns ≡ symbolic_references_of (operations_of p method)
  pub waits : (method at : ℕ) (ns : List SymbolicReference) (n : SymbolicReference) → code_at codes method ≡ Some ns → slice_get ns at ≡ Some n
      → IsListed p waiting method at n
  pub called : (method at : ℕ) (ns : List SymbolicReference) (n : SymbolicReference) → code_at codes method ≡ Some ns → slice_get ns at ≡ Some n
      → is_call n ≡ true → IsListed p calls method at n

abbrev pub IsBookOf : Program → Book → Type 0
IsBookOf p b = IsBook p b.codes b.waiting.items b.calls.items

-- ---- noting instructions

abbrev pub use_of : ℕ → ℕ → Use
use_of caller at = record { caller = caller; at = at }

abbrev pub with_use : Program → Use → SymbolicReference → List (List Use) → List (List Use)
with_use p u n lists = option_map_or (λ class. with_item class u lists) (class_named p (resolved_name n)) lists

-- all of them are noted, or calls alone
abbrev pub is_noted : Bool → SymbolicReference → Bool
is_noted true n = is_call n
is_noted _ n = true

abbrev pub with_noted : Program → Bool → Use → SymbolicReference → List (List Use) → List (List Use)
with_noted p calls u n lists = if is_noted calls n then with_use p u n lists else lists

-- the instructions of a method, from this place on
abbrev pub with_uses : Program → Bool → ℕ → ℕ → List SymbolicReference → List (List Use) → List (List Use)
with_uses p calls caller at [] lists = lists
with_uses p calls caller at (n ∷ rest) lists = with_uses p calls caller (at + 1) rest (with_noted p calls (use_of caller at) n lists)

-- whatever stood in a list does
pub record HasMore (before after : List (List Use)) : Type 0 where
  pub places : length after ≡ length before
  pub kept : (caller at class : ℕ) → has_use caller at (list_at before class) ≡ true → has_use caller at (list_at after class) ≡ true

-- ---- what a class adds that was loaded

-- what an instruction begins, by what it names
abbrev pub Begins : Type 0
Begins = SymbolicReference → List ℕ

-- what a call of an entered method begins on the new class, where it names this class above it
abbrev pub called_on : Program → ℕ → ℕ → SymbolicReference → List ℕ
called_on p new class (model.Invokevirtual r) = gained_on p new class Virtual r
called_on p new class (model.Invokeinterface r) = gained_on p new class OfInterface r
called_on p new class _ = []

abbrev pub called_by : Program → ℕ → ℕ → SymbolicReference → List ℕ
called_by p new class n = if is_named p class (resolved_name n) then called_on p new class n else []

-- of the instruction of an entered method
abbrev pub of_entered : List ℕ → Codes → (SymbolicReference → List ℕ) → Use → List ℕ
of_entered entered codes f u =
    if is_among u.caller entered then option_map_or (λ n. f n) (symbolic_reference_at codes u) [] else []

-- of all calls that name a class, which was loaded before
abbrev pub called_from : Program → List ℕ → ℕ → List ℕ → Codes → List (List Use) → ℕ → List ℕ
called_from p loaded new entered codes calls class =
    if is_among class loaded then flat_map (of_entered entered codes (called_by p new class)) (list_at calls class) else []

-- of all calls that name a class above the new one, and of all instructions that name it itself
abbrev pub methods_gathered : Program → List ℕ → ℕ → List ℕ → Codes → List (List Use) → List (List Use) → List ℕ → List ℕ
methods_gathered p loaded new entered codes waiting calls supertypes =
    flat_map (called_from p loaded new entered codes calls) supertypes
    ++ flat_map (of_entered entered codes (begun_by p (loaded ++ new ∷ []))) (list_at waiting new)
