-- What the loading of one class adds to the targets of a method: so a revelation looks at the instructions that name
-- this class, and at the calls that name a class above it, and at nothing else.
use Rattle.std.specs.Prelude.{◌≡◌, ℕ, Bool, false, List, [], ◌∷◌, ◌++◌, flat_map, filter_map, Option, Some, None, ◌==◌, if◌then◌else◌}
use Rattle.std.specs.Option.{option_and_then, option_map, option_map_or}
use Rattle.const_pool.specs.References.{Reference}
use Rattle.jvm_model.specs.Basis.Data.{Program, Local, Operation, Named, SymbolicReference, New, Getstatic, Putstatic, Invokevirtual, Invokespecial, Invokestatic, Invokeinterface}
use Rattle.jvm_model.specs.Instructions.InvocationRules.{Selecting, Virtual, OfInterface, names_interface, selected_by}
use Rattle.jvm_model.specs.Classes.Load.{is_among}
use Rattle.jvm_model.specs.Classes.Lookup.{MemberPlace, is_subtype, resolved_method}
use Rattle.jvm_model.specs.Instructions.SymbolicReference.{resolved_name}
use Rattle.jvm_model.specs.Basis.Programs.{class_named}
use Rattle.jvm_model.specs.Classes.Selection.{is_static}
use Rattle.jvm_model.specs.Soundness.Sound.{HasSupertypes}
use Rattle.jvm_model.specs.Profiling.Targets.{begun_by, method_coded, found_where, loaded_class_named}

-- ---- the order in which classes are loaded

-- behind these, each once and behind what stands above it (JVM Specification 5.3.5)
abbrev pub IsLoadOrder : Program → List ℕ → List ℕ → Type 0
IsLoadOrder p done [] = HasSupertypes p done
IsLoadOrder p done (class ∷ rest) = HasSupertypes p done × (is_among class done ≡ false) × IsLoadOrder p (done ++ class ∷ []) rest

-- ---- of an instruction that names the class itself: all that it begins then

-- this class, where the name is its
abbrev pub is_named : Program → ℕ → List ℕ → Bool
is_named p class name = option_map_or (λ found. found == class) (class_named p name) false

-- ---- of a call that names a loaded class above it: what is selected from the new class

abbrev pub gained_on : Program → ℕ → ℕ → Selecting → Reference → List ℕ
gained_on p new class by r =
    if is_subtype p new class then
    option_map_or (λ m. method_coded p (selected_by p by m new)) (found_where (is_static p) false (resolved_method p class (names_interface by) r.member)) []
    else []

abbrev pub gained_call : Program → List ℕ → ℕ → Selecting → Reference → List ℕ
gained_call p loaded new by r = option_map_or (λ class. gained_on p new class by r) (loaded_class_named p loaded r.class) []

-- ---- by instruction

-- with the class among the loaded ones
abbrev pub gained_named : Program → List ℕ → ℕ → SymbolicReference → List ℕ → List ℕ
gained_named p loaded new n name = if is_named p new name then begun_by p (loaded ++ new ∷ []) n else []

abbrev pub gained_by : Program → List ℕ → ℕ → SymbolicReference → List ℕ
gained_by p loaded new (New name) = gained_named p loaded new (New name) name
gained_by p loaded new (Getstatic r) = gained_named p loaded new (Getstatic r) r.class
gained_by p loaded new (Putstatic r) = gained_named p loaded new (Putstatic r) r.class
gained_by p loaded new (Invokestatic r) = gained_named p loaded new (Invokestatic r) r.class
gained_by p loaded new (Invokespecial caller r interface) = gained_named p loaded new (Invokespecial caller r interface) r.class
gained_by p loaded new (Invokevirtual r) = gained_named p loaded new (Invokevirtual r) r.class ++ gained_call p loaded new Virtual r
gained_by p loaded new (Invokeinterface r) = gained_named p loaded new (Invokeinterface r) r.class ++ gained_call p loaded new OfInterface r
gained_by p loaded new _ = []

abbrev pub gained_by_operation : Program → List ℕ → ℕ → Operation Local → List ℕ
gained_by_operation p loaded new (Named n) = gained_by p loaded new n
gained_by_operation p loaded new _ = []

abbrev pub gained_in : Program → List ℕ → ℕ → List (Operation Local) → List ℕ
gained_in p loaded new operations = flat_map (gained_by_operation p loaded new) operations

-- ---- what a revelation keeps of the operations of entered methods

-- the instruction with a name that begins something
abbrev pub symbolic_reference_in : Operation Local → Option SymbolicReference
symbolic_reference_in (Named (New name)) = Some (New name)
symbolic_reference_in (Named (Getstatic r)) = Some (Getstatic r)
symbolic_reference_in (Named (Putstatic r)) = Some (Putstatic r)
symbolic_reference_in (Named (Invokestatic r)) = Some (Invokestatic r)
symbolic_reference_in (Named (Invokespecial caller r interface)) = Some (Invokespecial caller r interface)
symbolic_reference_in (Named (Invokevirtual r)) = Some (Invokevirtual r)
symbolic_reference_in (Named (Invokeinterface r)) = Some (Invokeinterface r)
symbolic_reference_in _ = None

-- a call whose named class is loaded, with the method that it comes to
pub record Call : Type 0 where
  pub class : ℕ
  pub by : Selecting
  pub method : MemberPlace

abbrev pub call_on : Program → List ℕ → Selecting → Reference → Option Call
call_on p loaded by r =
    option_and_then (λ class.
    option_map (λ m. record { class = class; by = by; method = m }) (found_where (is_static p) false (resolved_method p class (names_interface by) r.member)))
    (loaded_class_named p loaded r.class)

abbrev pub call_in : Program → List ℕ → Operation Local → Option Call
call_in p loaded (Named (Invokevirtual r)) = call_on p loaded Virtual r
call_in p loaded (Named (Invokeinterface r)) = call_on p loaded OfInterface r
call_in p loaded _ = None

abbrev pub symbolic_references_of : List (Operation Local) → List SymbolicReference
symbolic_references_of operations = filter_map symbolic_reference_in operations

abbrev pub calls_of : Program → List ℕ → List (Operation Local) → List Call
calls_of p loaded operations = filter_map (call_in p loaded) operations

-- what the new class makes of them: those that name it, and the calls on a class above it
abbrev pub named_gain : Program → List ℕ → ℕ → SymbolicReference → List ℕ
named_gain p loaded new n = gained_named p loaded new n (resolved_name n)

abbrev pub call_gain : Program → ℕ → Call → List ℕ
call_gain p new c = if is_subtype p new c.class then method_coded p (selected_by p c.by c.method new) else []

abbrev pub gained_from : Program → List ℕ → ℕ → List SymbolicReference → List Call → List ℕ
gained_from p loaded new references calls = flat_map (named_gain p loaded new) references ++ flat_map (call_gain p new) calls
