-- invokestatic, invokespecial, invokevirtual and invokeinterface (JVM Specification 2.11.8, 5.4.3.3, 5.4.3.4, 6.5). In
-- order: the method is resolved, its class is initialized where it is static, the operands are looked at, then null,
-- then the class of the receiver, and then what is selected.
use Rattle.std.specs.Prelude.{ℕ, Bool, true, false, List, ◌∷◌, length, drop, Option, Some, None, Result, nat_lt, codes, if◌then◌else◌}
use Rattle.std.specs.Bool.{beq}
use Rattle.std.specs.Option.{option_and_then, option_map}
use Rattle.heap_objects.specs.declared.datum.Datum.TheVariants as datum
use Rattle.const_pool.specs.declared.descriptor.Kind.{Kind}
use Rattle.const_pool.specs.declared.descriptor.Kind.TheVariants as kind
use Rattle.const_pool.specs.declared.descriptor.Shape.{Shape}
use Rattle.const_pool.specs.References.{NameAndType, Reference}
use Rattle.jvm_model.specs.Basis.Data.{Datum, Locals, Operands, Program, Shared, World, Outcome, Invokes, Raises, Breaks, Done}
use Rattle.jvm_model.specs.Basis.Descriptors.{shape_of}
use Rattle.jvm_model.specs.Basis.KindNumbers.{user_count}
use Rattle.jvm_model.specs.Classes.Lookup.{MemberPlace, incompatible_change, resolved_method}
use Rattle.jvm_model.specs.Instructions.SymbolicReference.{◌>>=◌, member_found, is_instance, receiver, resolved_kind, unless_refused, where_fitting}
use Rattle.jvm_model.specs.Instructions.NativeRules.{runs_native}
use Rattle.jvm_model.specs.Instructions.ObjectRules.{done}
use Rattle.jvm_model.specs.Basis.Programs.{class_named, name_at, number_of_method}
use Rattle.jvm_model.specs.Instructions.Rules.{class_initialized}
use Rattle.jvm_model.specs.Classes.Selection.{is_abstract, is_static, method_selected, signature_of}
use Rattle.jvm_model.specs.Basis.SharedState.{class_of, class_of_kind}
use Rattle.jvm_model.specs.Classes.SuperCalls.{invoked_special}
use Rattle.jvm_model.specs.Basis.Values.{arguments}

-- ---- resolution

-- the method, static or not, that a Methodref or an InterfaceMethodref names; of an array type java/lang/Object's
abbrev pub named_method : Program → List ℕ → Bool → Bool → Reference → Result MemberPlace Outcome
named_method p loaded interface static r =
    resolved_kind p loaded r.class >>= λ kind. member_found (resolved_method p (class_of_kind p kind) interface r.member)
    >>= λ m. where_fitting (beq (is_static p m) static) m

-- ---- arguments (4.3.3)

abbrev pub with_receiver : Bool → List Kind → List Kind
with_receiver true params = kind.Ref ∷ params
with_receiver false params = params

-- those that a descriptor tells, behind the receiver of an instance method
abbrev pub arguments_by : Bool → NameAndType → Operands → Option (List Datum)
arguments_by instance member o =
    option_and_then (λ (shape : Shape). arguments (with_receiver instance shape.params) o) (shape_of member.descriptor)

abbrev pub receiver_in : List Datum → ℕ
receiver_in (datum.Ref object ∷ more) = object
receiver_in _ = 0

-- ---- what is invoked

abbrev pub abstract_method : List ℕ
abstract_method = codes "java/lang/AbstractMethodError"

abbrev pub unsatisfied_link : List ℕ
unsatisfied_link = codes "java/lang/UnsatisfiedLinkError"

-- the class that declares a method, and the method's name and descriptor
abbrev pub method_reference : Program → MemberPlace → Option Reference
method_reference p m =
    option_and_then (λ class. option_map (λ member. record { class = class; member = member }) (signature_of p m)) (name_at p m.class)

-- a native method: a user's class has none that could be linked (2.11.8)
abbrev pub invokes_native : World → MemberPlace → List Datum → Shared → Locals → Operands → Done
invokes_native w m args s l below =
    if nat_lt m.class (user_count w.program) then done s (Raises unsatisfied_link None)
    else runs_native w (method_reference w.program m) args s l below

-- a method that has Code, by its number
abbrev pub invokes_number : World → MemberPlace → Option ℕ → List Datum → Shared → Locals → Operands → Done
invokes_number w m (Some n) args s l below = done s (Invokes n args below)
invokes_number w m None args s l below = invokes_native w m args s l below

abbrev pub invokes_selected : World → Option MemberPlace → List Datum → Shared → Locals → Operands → Done
invokes_selected w None args s l below = done s (Raises abstract_method None)
invokes_selected w (Some m) args s l below =
    if is_abstract w.program m then done s (Raises abstract_method None)
    else invokes_number w m (number_of_method w.program m.class m.position) args s l below

-- ---- invokestatic

abbrev pub invokes_with_static : World → MemberPlace → Option (List Datum) → Shared → Locals → Operands → Done
invokes_with_static w m None s l o = done s (Breaks false)
invokes_with_static w m (Some args) s l o = invokes_selected w (Some m) args s l (drop (length args) o)

abbrev pub invokes_static_method : World → Reference → Shared → Locals → Operands → Done
invokes_static_method w r s l o =
    unless_refused s (named_method w.program s.loaded false true r) (λ m.
    class_initialized w.program m.class s (invokes_with_static w m (arguments_by false r.member o) s l o))

-- ---- invokevirtual, invokeinterface, invokespecial

-- which of them: invokespecial with its class, and whether it names an interface's method
pub data Selecting : Type 0 where
  Virtual : Selecting
  OfInterface : Selecting
  Special : List ℕ → Bool → Selecting

abbrev pub names_interface : Selecting → Bool
names_interface Virtual = false
names_interface OfInterface = true
names_interface (Special caller interface) = interface

-- A receiver that does not implement the interface raises; every other one that is not of the named class is
-- unverifiable.
abbrev pub not_of_class : Selecting → Outcome
not_of_class Virtual = Breaks false
not_of_class OfInterface = Raises incompatible_change None
not_of_class (Special caller interface) = Breaks false

-- what the receiver's class has for the resolved method, or what the caller's class takes
abbrev pub selected_by : Program → Selecting → MemberPlace → ℕ → Option MemberPlace
selected_by p Virtual m class = method_selected p class false m
selected_by p OfInterface m class = method_selected p class true m
selected_by p (Special caller interface) m class =
    option_and_then (λ current. invoked_special p current m) (class_named p caller)

abbrev pub invokes_on : World → Selecting → Reference → MemberPlace → Option (List Datum) → Shared → Locals → Operands → Done
invokes_on w by r m None s l o = done s (Breaks false)
invokes_on w by r m (Some args) s l o =
    unless_refused s (receiver (receiver_in args) (is_instance w.program s.heap (receiver_in args) r.class) (not_of_class by)) (λ object.
    invokes_selected w (selected_by w.program by m (class_of w.program s object)) args s l (drop (length args) o))

abbrev pub invokes_instance : World → Selecting → Reference → Shared → Locals → Operands → Done
invokes_instance w by r s l o =
    unless_refused s (named_method w.program s.loaded (names_interface by) false r) (λ m.
    invokes_on w by r m (arguments_by true r.member o) s l o)
