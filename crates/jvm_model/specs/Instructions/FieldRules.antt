-- getstatic, putstatic, getfield and putfield (JVM Specification 2.7, 5.4.3.2, 6.5). In order: the field is resolved,
-- its class is initialized where it is static, the operands are looked at, then null, then the class of the object.
use Rattle.std.specs.Prelude.{ℕ, ◌+◌, Bool, true, false, not, List, [], ◌∷◌, length, drop, take, flat_map, count_by, Option, Some, None, Result, slice_get, ◌&&◌}
use Rattle.std.specs.Bool.{beq}
use Rattle.std.specs.Option.{option_and_then, option_map, option_map_or}
use Rattle.heap_objects.specs.declared.element.ElementType.{ElementType}
use Rattle.heap_objects.specs.declared.element.ElementType.TheVariants as element
use Rattle.heap_objects.specs.declared.Value.TheVariants.{Ref}
use Rattle.heap_objects.specs.Heaps.{slot_at, with_slot_at}
use Rattle.heap_objects.specs.Kept.{element_kept}
use Rattle.const_pool.specs.declared.class.ClassFile.{ClassFile}
use Rattle.const_pool.specs.declared.class.Member.{Member}
use Rattle.const_pool.specs.declared.descriptor.Kind.{Kind}
use Rattle.const_pool.specs.declared.descriptor.Kind.TheVariants as kind
use Rattle.const_pool.specs.References.{Reference}
use Rattle.jvm_model.specs.Basis.Data.{Datum, Locals, Operands, Program, Shared, Next, Outcome, GoesOn, Breaks, Done}
use Rattle.jvm_model.specs.Classes.Layouts.{held_by, layout}
use Rattle.jvm_model.specs.Instructions.LocalRules.{pushes, replaces}
use Rattle.jvm_model.specs.Classes.Lookup.{MemberPlace, resolved_field, superclass_of}
use Rattle.jvm_model.specs.Basis.Methods.{has_flag}
use Rattle.jvm_model.specs.Instructions.SymbolicReference.{◌>>=◌, extends, member_found, is_instance, receiver, resolved_kind, unless_refused, where_fitting}
use Rattle.jvm_model.specs.Instructions.ObjectRules.{done}
use Rattle.jvm_model.specs.Basis.Programs.{class_at}
use Rattle.jvm_model.specs.Instructions.Rules.{class_initialized}
use Rattle.jvm_model.specs.Basis.SharedState.{Field, class_of, class_of_kind, static_at, with_static}
use Rattle.jvm_model.specs.Basis.Values.{as_value, datum_of, ref_of}

-- ---- resolution

-- ACC_STATIC (4.5)
abbrev pub is_static_field : Program → MemberPlace → Bool
is_static_field p m =
    option_map_or (λ (f : Member). has_flag 8 f.access) (option_and_then (λ (c : ClassFile). slice_get c.fields m.position) (class_at p m.class)) false

-- the field, static or not, that a reference names
abbrev pub named_field : Program → List ℕ → Bool → Reference → Result MemberPlace Outcome
named_field p loaded static r =
    resolved_kind p loaded r.class >>= λ kind. member_found (resolved_field p (class_of_kind p kind) r.member)
    >>= λ m. where_fitting (beq (is_static_field p m) static) m

-- ---- what a field holds (4.3.2)

-- the kind that the descriptor tells
abbrev pub kind_by : Reference → Kind
kind_by r = held_by r.member.descriptor

abbrev pub element_for : Kind → ElementType
element_for kind.Bool = element.Boolean
element_for kind.Byte = element.Byte
element_for kind.Char = element.Char
element_for kind.Short = element.Short
element_for _ = element.Any

-- of a boolean the lowest bit is stored, of a byte, a char and a short the low bits, of others all
abbrev pub field_narrowed : Kind → Datum → Datum
field_narrowed k d = element_kept (element_for k) d

-- the topmost operand as a field of this kind holds it
abbrev pub field_held : Kind → Operands → Option Datum
field_held k [] = None
field_held k (v ∷ below) = option_map (field_narrowed k) (datum_of k v)

-- ---- static fields

abbrev pub static_field : MemberPlace → Field
static_field m = record { class = m.class; position = m.position }

abbrev pub pushes_static : Program → MemberPlace → Shared → Locals → Operands → Done
pushes_static p m s l o =
    class_initialized p m.class s (done s (pushes (option_map as_value (static_at s (static_field m))) l o))

abbrev pub gets_static : Program → Reference → Shared → Locals → Operands → Done
gets_static p r s l o = unless_refused s (named_field p s.loaded true r) (λ m. pushes_static p m s l o)

abbrev pub sets_static : MemberPlace → Option Datum → Shared → Locals → Operands → Done
sets_static m None s l o = done s (Breaks false)
sets_static m (Some d) s l o = done (with_static s (static_field m) d) (GoesOn l (drop 1 o) Next)

abbrev pub puts_static : Program → Reference → Shared → Locals → Operands → Done
puts_static p r s l o =
    unless_refused s (named_field p s.loaded true r) (λ m.
    class_initialized p m.class s (sets_static m (field_held (kind_by r) o) s l o))

-- ---- where an instance field stands

-- how many instance fields a class has before this position
abbrev pub fields_before : ClassFile → ℕ → ℕ
fields_before c position = count_by (λ (f : Member). not (has_flag 8 f.access)) (take position c.fields)

-- its slot, which is the same in the objects of all classes that extend its class: fields of superclasses stand first
abbrev pub slot_of : Program → MemberPlace → ℕ
slot_of p m =
    length (flat_map (layout p) (superclass_of p m.class)) + option_map_or (λ c. fields_before c m.position) (class_at p m.class) 0

-- an object of the class that the reference names, which has the field
abbrev pub has_field : Program → Shared → Reference → MemberPlace → ℕ → Bool
has_field p s r m object = is_instance p s.heap object r.class && extends p (class_of p s object) m.class

abbrev pub field_owner : Program → Shared → Reference → MemberPlace → ℕ → Result ℕ Outcome
field_owner p s r m object = receiver object (has_field p s r m object) (Breaks false)

-- ---- instance fields

abbrev pub gets_of : Program → Reference → MemberPlace → Option ℕ → Shared → Locals → Operands → Done
gets_of p r m None s l o = done s (Breaks false)
gets_of p r m (Some object) s l o =
    unless_refused s (field_owner p s r m object) (λ owner.
    done s (replaces 1 (option_map as_value (slot_at owner (slot_of p m) s.heap)) l o))

abbrev pub gets_instance : Program → Reference → Shared → Locals → Operands → Done
gets_instance p r s l o = unless_refused s (named_field p s.loaded false r) (λ m. gets_of p r m (ref_of o) s l o)

-- an object, and what its field is to hold
pub record Putting : Type 0 where
  pub object : ℕ
  pub datum : Datum

-- the value is above the object
abbrev pub putting_of : Kind → Operands → Option Putting
putting_of k (v ∷ Ref r ∷ below) = option_map (λ d. record { object = r; datum = field_narrowed k d }) (datum_of k v)
putting_of k _ = None

abbrev pub puts_into : Program → Reference → MemberPlace → Option Putting → Shared → Locals → Operands → Done
puts_into p r m None s l o = done s (Breaks false)
puts_into p r m (Some x) s l o =
    unless_refused s (field_owner p s r m x.object) (λ owner.
    done (record s { heap = with_slot_at owner (slot_of p m) x.datum s.heap }) (GoesOn l (drop 2 o) Next))

abbrev pub puts_instance : Program → Reference → Shared → Locals → Operands → Done
puts_instance p r s l o =
    unless_refused s (named_field p s.loaded false r) (λ m. puts_into p r m (putting_of (kind_by r) o) s l o)
