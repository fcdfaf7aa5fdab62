-- new, anewarray, multianewarray, checkcast and instanceof (JVM Specification 5.4.3.1, 6.5). In order: the name is
-- resolved, the class of a new object is initialized, the operands are looked at, then what the instruction asks
-- besides, and at last the heap's room.
use Rattle.std.specs.Prelude.{ℕ, zero, suc, ◌+◌, ◌-◌, ◌*◌, Bool, false, List, [], ◌∷◌, length, map, drop, Option, Some, None, nat_le, ℤ, pos, negsuc, codes, ◌||◌, if◌then◌else◌}
use Rattle.std.specs.List.{list_any}
use Rattle.std.specs.Option.{option_map, option_map_or}
use Rattle.heap_objects.specs.declared.datum.Datum.TheVariants as datum
use Rattle.heap_objects.specs.declared.Value.TheVariants.{Int, Ref}
use Rattle.heap_objects.specs.Heaps.{HeapView, next_number, with_array, with_instance, with_slot_at, with_text}
use Rattle.const_pool.specs.declared.class.ClassFile.{ClassFile}
use Rattle.const_pool.specs.declared.descriptor.Kind.{Kind}
use Rattle.const_pool.specs.declared.descriptor.Kind.TheVariants as kind
use Rattle.jvm_model.specs.Basis.Data.{Datum, Locals, Operands, Program, Shared, Next, Outcome, GoesOn, Throws, Raises, Breaks, Done}
use Rattle.jvm_model.specs.Basis.Descriptors.{same_text}
use Rattle.jvm_model.specs.Basis.KindNumbers.{first_array}
use Rattle.jvm_model.specs.Classes.Layouts.{layout}
use Rattle.jvm_model.specs.Instructions.LocalRules.{replaces}
use Rattle.jvm_model.specs.Classes.Lookup.{is_interface}
use Rattle.jvm_model.specs.Basis.Methods.{has_flag}
use Rattle.jvm_model.specs.Instructions.SymbolicReference.{is_instance, is_null, resolved_kind, unless_refused}
use Rattle.jvm_model.specs.Instructions.ObjectRules.{done, makes}
use Rattle.jvm_model.specs.Basis.Programs.{class_at, name_at}
use Rattle.jvm_model.specs.Instructions.Rules.{class_initialized}
use Rattle.jvm_model.specs.Basis.SharedState.{class_of_kind, negative_array_size, null, string}
use Rattle.jvm_model.specs.Basis.Values.{int_of, ref_of}

-- The object that is made next takes the place of so many operands. Where there is no room for its slots, object 1 is
-- thrown.
abbrev pub allocates : ℕ → (HeapView → HeapView) → ℕ → Shared → Locals → Operands → Done
allocates slots make taken s l o =
    if nat_le (s.heap.used + slots) s.heap.limit
    then done (record s { heap = make s.heap }) (GoesOn l (Ref (next_number s.heap) ∷ drop taken o) Next)
    else done s (Throws 1)

-- ---- new

abbrev pub instantiation_error : List ℕ
instantiation_error = codes "java/lang/InstantiationError"

abbrev pub class_name : List ℕ
class_name = codes "java/lang/Class"

-- the classes whose objects are texts
abbrev pub text_names : List (List ℕ)
text_names = string ∷ codes "java/lang/StringBuilder" ∷ codes "java/lang/StringBuffer" ∷ []

abbrev pub is_named_among : Program → List (List ℕ) → ℕ → Bool
is_named_among p names class = option_map_or (λ name. list_any (same_text name) names) (name_at p class) false

abbrev pub is_text_class : Program → ℕ → Bool
is_text_class p class = is_named_among p text_names class

-- ACC_ABSTRACT (4.1)
abbrev pub is_abstract_class : Program → ℕ → Bool
is_abstract_class p class = option_map_or (λ (c : ClassFile). has_flag 1024 c.access) (class_at p class) false

-- an abstract class, an interface, and java/lang/Class, whose objects the machine makes
abbrev pub has_no_instances : Program → ℕ → Bool
has_no_instances p class = is_abstract_class p class || is_interface p class || is_named_among p (class_name ∷ []) class

-- what a field of this kind has at first (2.3, 2.4)
abbrev pub zero_of : Kind → Datum
zero_of kind.Long = datum.Long (pos 0)
zero_of kind.Ref = null
zero_of _ = datum.Int (pos 0)

-- a text without units, or an instance whose fields are all zero
abbrev pub makes_object : Program → ℕ → ℕ → Shared → Locals → Operands → Done
makes_object p kind class s l o =
    if is_text_class p class then allocates 1 (with_text kind []) 0 s l o
    else allocates (1 + length (layout p class)) (with_instance kind (map zero_of (layout p class))) 0 s l o

abbrev pub makes_instance : Program → ℕ → ℕ → Shared → Locals → Operands → Done
makes_instance p kind class s l o =
    if has_no_instances p class then done s (Raises instantiation_error None) else makes_object p kind class s l o

-- The class is initialized before it is asked whether it has instances. No array is named here.
abbrev pub makes_new : Program → List ℕ → Shared → Locals → Operands → Done
makes_new p name s l o =
    unless_refused s (resolved_kind p s.loaded name) (λ kind.
    class_initialized p (class_of_kind p kind) s (makes_instance p kind (class_of_kind p kind) s l o))

-- ---- anewarray

-- the kind of an array whose elements are of this kind
abbrev pub array_over : ℕ → ℕ
array_over kind = first_array + kind

abbrev pub makes_array_of : Program → List ℕ → Shared → Locals → Operands → Done
makes_array_of p name s l o =
    unless_refused s (resolved_kind p s.loaded name) (λ kind. makes (array_over kind) (int_of o) s l o)

-- ---- multianewarray

-- of so many topmost operands, which are ints, the lowest first: those above them were found before
abbrev pub counts_from : ℕ → List ℤ → Operands → Option (List ℤ)
counts_from zero above o = Some above
counts_from (suc n) above (Int count ∷ below) = counts_from n (count ∷ above) below
counts_from (suc n) above _ = None

-- how many elements each dimension has, that of the outer array first
abbrev pub counts_of : ℕ → Operands → Option (List ℤ)
counts_of dimensions o = counts_from dimensions [] o

-- the same, where none is negative
abbrev pub lengths_of : List ℤ → Option (List ℕ)
lengths_of [] = Some []
lengths_of (pos n ∷ more) = option_map (λ lengths. n ∷ lengths) (lengths_of more)
lengths_of (negsuc n ∷ more) = None

-- The slots of all arrays: those of one, and for each of its elements those of a part. Below a dimension of 0 there are
-- none.
abbrev pub slots_of_arrays : List ℕ → ℕ
slots_of_arrays [] = 0
slots_of_arrays (n ∷ more) = 1 + n + n * slots_of_arrays more

-- parts, as many as are left, each with all below it, are elements of the array from a place on
abbrev pub with_parts : (HeapView → HeapView) → ℕ → ℕ → ℕ → HeapView → HeapView
with_parts make array at zero h = h
with_parts make array at (suc left) h =
    with_parts make array (at + 1) left (make (with_slot_at array at (datum.Ref (next_number h)) h))

-- an array of this kind, and then its parts
abbrev pub with_arrays : ℕ → List ℕ → HeapView → HeapView
with_arrays kind [] h = h
with_arrays kind (n ∷ []) h = with_array kind (datum.Int (pos 0)) n h
with_arrays kind (n ∷ next ∷ more) h =
    with_parts (with_arrays (kind - first_array) (next ∷ more)) (next_number h) 0 n (with_array kind (datum.Int (pos 0)) n h)

abbrev pub makes_arrays : ℕ → ℕ → Option (List ℕ) → Shared → Locals → Operands → Done
makes_arrays kind dimensions None s l o = done s (Raises negative_array_size None)
makes_arrays kind dimensions (Some lengths) s l o =
    allocates (slots_of_arrays lengths) (with_arrays kind lengths) dimensions s l o

abbrev pub makes_by_counts : ℕ → ℕ → Option (List ℤ) → Shared → Locals → Operands → Done
makes_by_counts kind dimensions None s l o = done s (Breaks false)
makes_by_counts kind dimensions (Some counts) s l o = makes_arrays kind dimensions (lengths_of counts) s l o

-- the name is an array's, of at least so many dimensions
abbrev pub makes_multi : Program → List ℕ → ℕ → Shared → Locals → Operands → Done
makes_multi p name dimensions s l o =
    unless_refused s (resolved_kind p s.loaded name) (λ kind.
    makes_by_counts kind dimensions (counts_of dimensions o) s l o)

-- ---- checkcast

abbrev pub class_cast : List ℕ
class_cast = codes "java/lang/ClassCastException"

abbrev pub casts_to : Program → List ℕ → Option ℕ → Shared → Locals → Operands → Outcome
casts_to p name None s l o = Breaks false
casts_to p name (Some object) s l o =
    if is_instance p s.heap object name then GoesOn l o Next else Raises class_cast None

-- null is of every class, and stays
abbrev pub casts : Program → List ℕ → Shared → Locals → Operands → Done
casts p name s l o =
    if is_null o then done s (GoesOn l o Next)
    else unless_refused s (resolved_kind p s.loaded name) (λ kind. done s (casts_to p name (ref_of o) s l o))

-- ---- instanceof

abbrev pub int_for : Bool → ℕ
int_for answer = if answer then 1 else 0

abbrev pub answers : Program → List ℕ → Option ℕ → Shared → Locals → Operands → Outcome
answers p name None s l o = Breaks false
answers p name (Some object) s l o =
    replaces 1 (Some (Int (pos (int_for (is_instance p s.heap object name))))) l o

-- null is an instance of none
abbrev pub tells_instance : Program → List ℕ → Shared → Locals → Operands → Done
tells_instance p name s l o =
    if is_null o then done s (replaces 1 (Some (Int (pos 0))) l o)
    else unless_refused s (resolved_kind p s.loaded name) (λ kind. done s (answers p name (ref_of o) s l o))
