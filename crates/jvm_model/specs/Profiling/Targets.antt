-- Targets: the methods with Code that an instruction of a method can begin, over the loaded classes and before it is
-- executed (JVM Specification 2.11.8, 5.4.3, 5.4.5, 5.5, 6.5). Nothing is loaded for them.
use Rattle.std.specs.Prelude.{ℕ, Bool, true, false, List, [], ◌++◌, filter, flat_map, filter_map, Option, Some, None, unwrap_or, nat_lt, if◌then◌else◌}
use Rattle.std.specs.Bool.{beq}
use Rattle.std.specs.Option.{option_and_then, option_map_or, option_to_list}
use Rattle.const_pool.specs.declared.class.ClassFile.{ClassFile}
use Rattle.const_pool.specs.References.{Reference}
use Rattle.jvm_model.specs.Basis.Data.{Local, Operation, Named, SymbolicReference, New, Getstatic, Putstatic, Invokevirtual, Invokespecial, Invokestatic, Invokeinterface, Program}
use Rattle.jvm_model.specs.Instructions.FieldRules.{is_static_field}
use Rattle.jvm_model.specs.Instructions.InvocationRules.{Selecting, Virtual, OfInterface, Special, names_interface, selected_by}
use Rattle.jvm_model.specs.Basis.KindNumbers.{user_count}
use Rattle.jvm_model.specs.Classes.Kinds.{meaning_of}
use Rattle.jvm_model.specs.Codes.Lines.{operation_of}
use Rattle.jvm_model.specs.Classes.Load.{is_among}
use Rattle.jvm_model.specs.Classes.Lookup.{MemberPlace, Resolution, Found, Fails, is_subtype, resolved_field, resolved_method}
use Rattle.jvm_model.specs.Codes.Places.{method_reading}
use Rattle.jvm_model.specs.Basis.Programs.{by_number, class_named, initializer_of, number_of_method}
use Rattle.jvm_model.specs.Classes.Selection.{is_static}

-- ---- what is named

-- the class with this name, where it is loaded; no array is a class
abbrev pub loaded_class_named : Program → List ℕ → List ℕ → Option ℕ
loaded_class_named p loaded name = option_and_then (λ class. if is_among class loaded then Some class else None) (class_named p name)

-- The class whose methods a type of this name has: of an array java/lang/Object, which is loaded from the beginning.
abbrev pub is_array_type : List ℕ → Bool
is_array_type name = nat_lt 0 (meaning_of name).dimensions

abbrev pub class_with_methods : Program → List ℕ → List ℕ → Option ℕ
class_with_methods p loaded name = if is_array_type name then Some (user_count p) else loaded_class_named p loaded name

-- a member that was found, static or not as it is asked for
abbrev pub found_where : (MemberPlace → Bool) → Bool → Resolution → Option MemberPlace
found_where test static (Fails error) = None
found_where test static (Found m) = if beq (test m) static then Some m else None

-- ---- what begins

-- the method at a place, if it has Code
abbrev pub coded_at : Program → MemberPlace → List ℕ
coded_at p m = option_to_list (number_of_method p m.class m.position)

abbrev pub method_coded : Program → Option MemberPlace → List ℕ
method_coded p found = option_map_or (coded_at p) found []

-- the static initializers of a class and of all its loaded supertypes
abbrev pub initializers : Program → List ℕ → ℕ → List ℕ
initializers p loaded class = filter_map (initializer_of p) (filter (is_subtype p class) loaded)

-- what is selected for a method from each loaded subtype of a class
abbrev pub selections : Program → List ℕ → ℕ → Selecting → MemberPlace → List ℕ
selections p loaded class by m = flat_map (λ receiver. method_coded p (selected_by p by m receiver)) (filter (λ lower. is_subtype p lower class) loaded)

-- what invokespecial takes, whatever the receiver's class is
abbrev pub invoked_by : Program → List ℕ → ℕ → Selecting → MemberPlace → List ℕ
invoked_by p loaded class (Special caller interface) m = method_coded p (selected_by p (Special caller interface) m class)
invoked_by p loaded class Virtual m = selections p loaded class Virtual m
invoked_by p loaded class OfInterface m = selections p loaded class OfInterface m

-- ---- by instruction

abbrev pub begun_on : Program → List ℕ → ℕ → Selecting → Reference → List ℕ
begun_on p loaded class by r =
    option_map_or (invoked_by p loaded class by) (found_where (is_static p) false (resolved_method p class (names_interface by) r.member)) []

abbrev pub begun_static : Program → List ℕ → ℕ → Reference → List ℕ
begun_static p loaded class r =
    option_map_or (λ m. coded_at p m ++ initializers p loaded class) (found_where (is_static p) true (resolved_method p class false r.member)) []

abbrev pub begun_field : Program → List ℕ → ℕ → Reference → List ℕ
begun_field p loaded class r =
    option_map_or (λ m. initializers p loaded class) (found_where (is_static_field p) true (resolved_field p class r.member)) []

-- of a class with this name that is loaded
abbrev pub where_loaded : Program → List ℕ → List ℕ → (ℕ → List ℕ) → List ℕ
where_loaded p loaded name begun = option_map_or begun (loaded_class_named p loaded name) []

-- what an instruction begins, a row each; others begin nothing
abbrev pub begun_by : Program → List ℕ → SymbolicReference → List ℕ
begun_by p loaded (New name) = where_loaded p loaded name (initializers p loaded)
begun_by p loaded (Getstatic r) = where_loaded p loaded r.class (λ class. begun_field p loaded class r)
begun_by p loaded (Putstatic r) = where_loaded p loaded r.class (λ class. begun_field p loaded class r)
begun_by p loaded (Invokestatic r) = where_loaded p loaded r.class (λ class. begun_static p loaded class r)
begun_by p loaded (Invokespecial caller r interface) =
    option_map_or (λ class. begun_on p loaded class (Special caller interface) r) (class_with_methods p loaded r.class) []
begun_by p loaded (Invokevirtual r) = where_loaded p loaded r.class (λ class. begun_on p loaded class Virtual r)
begun_by p loaded (Invokeinterface r) = where_loaded p loaded r.class (λ class. begun_on p loaded class OfInterface r)
begun_by p loaded _ = []

abbrev pub begun_by_operation : Program → List ℕ → Operation Local → List ℕ
begun_by_operation p loaded (Named n) = begun_by p loaded n
begun_by_operation p loaded _ = []

-- ---- by method

-- the operations of a method's original code, in order
abbrev pub operations_in : ClassFile → ℕ → Option (List (Operation Local))
operations_in c method = Some (filter_map (operation_of c) (method_reading c method))

abbrev pub operations_of : Program → ℕ → List (Operation Local)
operations_of p method = unwrap_or (by_number p operations_in method) []

abbrev pub targets_in : Program → List ℕ → List (Operation Local) → List ℕ
targets_in p loaded operations = flat_map (begun_by_operation p loaded) operations

abbrev pub targets : Program → List ℕ → ℕ → List ℕ
targets p loaded method = targets_in p loaded (operations_of p method)
