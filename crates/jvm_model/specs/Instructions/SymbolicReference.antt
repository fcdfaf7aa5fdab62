-- Instructions that name a class, a field or a method, and what such a name comes to (JVM Specification 5.4.3, 6.5).
-- The class that is named is loaded before the instruction is attempted, so a rule sees the classes that are loaded
-- then.
use Rattle.std.specs.Prelude.{ℕ, Bool, true, false, not, List, [], length, drop, Option, Some, None, Result, Ok, Err, ◌==◌, if◌then◌else◌}
use Rattle.std.specs.Option.{ok_or, option_map_or}
use Rattle.heap_objects.specs.Heaps.{HeapView, kind_at}
use Rattle.jvm_model.specs.Basis.Data.{Operands, Program, Shared, Outcome, Raises, Breaks, Done}
pub use Rattle.jvm_model.specs.Basis.Data.{SymbolicReference, New, Getfield, Putfield, Getstatic, Putstatic, Invokevirtual, Invokespecial, Invokestatic, Invokeinterface, Checkcast, Instanceof, Anewarray, Multianewarray, LdcClass}
use Rattle.jvm_model.specs.Basis.KindNumbers.{kind_parts}
use Rattle.jvm_model.specs.Classes.Kinds.{is_subkind, kind_named}
use Rattle.jvm_model.specs.Classes.Load.{Fault, NoClass, Circular, Incompatible, error_of, is_among, load_of}
use Rattle.jvm_model.specs.Classes.Lookup.{MemberPlace, Resolution, Found, Fails, incompatible_change, superclasses}
use Rattle.jvm_model.specs.Instructions.ObjectRules.{done}
use Rattle.jvm_model.specs.Basis.SharedState.{null_pointer}
use Rattle.jvm_model.specs.Basis.Values.{ref_of}

-- ---- what is resolved

-- the name of the class, or of the array type, that is resolved: of a member its class's
abbrev pub resolved_name : SymbolicReference → List ℕ
resolved_name (New name) = name
resolved_name (Getfield r) = r.class
resolved_name (Putfield r) = r.class
resolved_name (Getstatic r) = r.class
resolved_name (Putstatic r) = r.class
resolved_name (Invokevirtual r) = r.class
resolved_name (Invokespecial caller r interface) = r.class
resolved_name (Invokestatic r) = r.class
resolved_name (Invokeinterface r) = r.class
resolved_name (Checkcast name) = name
resolved_name (Instanceof name) = name
resolved_name (Anewarray name) = name
resolved_name (Multianewarray name dimensions) = name
resolved_name (LdcClass name) = name

-- ---- what is loaded before the attempt (5.3, 5.4.3.1)

-- the topmost operand is the null reference
abbrev pub is_null : Operands → Bool
is_null o = option_map_or (λ r. r == 0) (ref_of o) false

-- checkcast and instanceof of null resolve nothing. An operand that is missing or of another kind is looked at behind
-- the resolution.
abbrev pub resolves : SymbolicReference → Operands → Bool
resolves (Checkcast name) o = not (is_null o)
resolves (Instanceof name) o = not (is_null o)
resolves n o = true

-- the classes that the instruction loads, where these are loaded: those before a fault too
abbrev pub newly_loaded : Program → List ℕ → SymbolicReference → Operands → List ℕ
newly_loaded p loaded n o = if resolves n o then drop (length loaded) (load_of p loaded (resolved_name n)).loaded else []

-- ---- what a rule finds step by step, or what it asks for where a step is refused

infixl 10 ◌>>=◌
abbrev pub ◌>>=◌ : {A B : Type 0} → Result A Outcome → (A → Result B Outcome) → Result B Outcome
(Ok x) >>= f = f x
(Err outcome) >>= f = Err outcome

abbrev pub unless_refused : {A : Type 0} → Shared → Result A Outcome → (A → Done) → Done
unless_refused s (Ok x) rule = rule x
unless_refused s (Err outcome) rule = done s outcome

-- ---- a class (5.4.3.1)

-- NoClassDefFoundError tells the name that is no class of the program.
abbrev pub message_of : Fault → Option (List ℕ)
message_of (NoClass name) = Some name
message_of Circular = None
message_of Incompatible = None

-- What is loaded is loaded by now: loading again loads no class more, and ends with the same fault.
abbrev pub kind_unless : Option Fault → Option ℕ → Result ℕ Outcome
kind_unless (Some fault) kind = Err (Raises (error_of fault) (message_of fault))
kind_unless None kind = ok_or kind (Breaks false)

-- the kind that the name stands for; where loading has no fault there is one
abbrev pub resolved_kind : Program → List ℕ → List ℕ → Result ℕ Outcome
resolved_kind p loaded name = kind_unless (load_of p loaded name).fault (kind_named p name)

-- ---- a member (5.4.3.2 to 5.4.3.4)

abbrev pub member_found : Resolution → Result MemberPlace Outcome
member_found (Found m) = Ok m
member_found (Fails error) = Err (Raises error None)

-- a static member where one is asked for, and else none (6.5)
abbrev pub where_fitting : Bool → MemberPlace → Result MemberPlace Outcome
where_fitting true m = Ok m
where_fitting false m = Err (Raises incompatible_change None)

-- ---- operands and receivers

-- where operands are missing or of another kind, the code is unverifiable
abbrev pub present : {A : Type 0} → Option A → Result A Outcome
present operands = ok_or operands (Breaks false)

-- a receiver, unless it is null, or not of the class that the instruction needs
abbrev pub receiver : ℕ → Bool → Outcome → Result ℕ Outcome
receiver object of_class otherwise =
    if object == 0 then Err (Raises null_pointer None)
    else if of_class then Ok object
    else Err otherwise

abbrev pub is_below_kind : Program → Option ℕ → Option ℕ → Bool
is_below_kind p (Some lower) (Some upper) = is_subkind p (kind_parts lower) (kind_parts upper)
is_below_kind p _ _ = false

-- the object is of the class, or of the array type, with this name, or of a subtype (6.5, instanceof)
abbrev pub is_instance : Program → HeapView → ℕ → List ℕ → Bool
is_instance p h object name = is_below_kind p (kind_at object h) (kind_named p name)

-- The class is the other one, or inherits from it. An interface may have a superclass that is not java/lang/Object:
-- what implements it is a subtype of that class, and inherits no field and no method from it.
abbrev pub extends : Program → ℕ → ℕ → Bool
extends p class above = is_among above (superclasses p class)
