-- What all activations share: phases and static fields of classes, objects (JVM Specification 2.5.3, 5.5), and the
-- exceptions that the machine makes (2.10).
use Rattle.std.specs.Prelude.{ℕ, ◌+◌, Bool, List, [], ◌∷◌, length, map, Option, Some, None, unwrap_or, position, pos, slice_get, slice_set, nat_le, nat_lt, codes, ◌==◌, ◌||◌, if◌then◌else◌}
use Rattle.std.specs.Option.{option_and_then, option_map, option_map_or}
use Rattle.heap_objects.specs.declared.datum.Datum.TheVariants as datum
use Rattle.const_pool.specs.declared.class.ClassFile.{ClassFile}
use Rattle.const_pool.specs.declared.class.Member.{Member}
use Rattle.const_pool.specs.References.{NameAndType, named_text}
use Rattle.heap_objects.specs.Heaps.{HeapView, empty_heap, kind_at, with_instance, with_array, with_text, with_slot_at, next_number}
use Rattle.native_effects.specs.Inputs.MadeViews.{nothing_made}
use Rattle.jvm_model.specs.Basis.Data.{Datum, Phase, Fresh, Ready, Program, Shared, World}
use Rattle.jvm_model.specs.Basis.KindNumbers.{user_count, base_of_class, class_of_base, first_array, kind_number}
use Rattle.jvm_model.specs.Basis.Descriptors.{same_text}
use Rattle.jvm_model.specs.Basis.Methods.{is_member}
use Rattle.jvm_model.specs.Basis.Programs.{class_at, class_named, has_built_in_name, has_name}

-- ---- classes

abbrev pub phase_of : Shared → ℕ → Option Phase
phase_of s class = slice_get s.phases class

abbrev pub with_phase : Shared → ℕ → Phase → Shared
with_phase s class p = record s { phases = slice_set s.phases class p }

-- the position of a field among those of its class
abbrev pub field_named : NameAndType → ClassFile → Option ℕ
field_named wanted c = position (is_member c.pool wanted) c.fields

-- a static field: the position of its class, and its position there
pub record Field : Type 0 where
  pub class : ℕ
  pub position : ℕ

abbrev pub field_in : Program → NameAndType → ℕ → Option Field
field_in p wanted class = option_and_then (λ c. option_map (λ at. record { class = class; position = at }) (field_named wanted c)) (class_at p class)

abbrev pub static_at : Shared → Field → Option Datum
static_at s f = option_and_then (λ (fields : List Datum). slice_get fields f.position) (slice_get s.statics f.class)

abbrev pub with_static : Shared → Field → Datum → Shared
with_static s f d = record s { statics = option_map_or (λ fields. slice_set s.statics f.class (slice_set fields f.position d)) (slice_get s.statics f.class) s.statics }

-- ---- objects

abbrev pub null : Datum
null = datum.Ref 0

-- the kind of the instances of the class with this name
abbrev pub kind_for : Program → List ℕ → ℕ
kind_for p name = base_of_class p (unwrap_or (class_named p name) 0)

-- the position of the class of objects of this kind; arrays are objects of java/lang/Object
abbrev pub class_of_kind : Program → ℕ → ℕ
class_of_kind p kind = if nat_lt kind first_array then unwrap_or (class_of_base p kind) 0 else user_count p

-- where there is no object it is java/lang/Object too
abbrev pub class_of : Program → Shared → ℕ → ℕ
class_of p s r = option_map_or (class_of_kind p) (kind_at r s.heap) (user_count p)

-- what is shared, and a reference to an object
pub record Allocated : Type 0 where
  pub shared : Shared
  pub reference : ℕ

-- ---- exceptions that the machine makes

abbrev pub string : List ℕ
string = codes "java/lang/String"

-- the slots of a message, where there is one
abbrev pub message_cost : Option (List ℕ) → ℕ
message_cost None = 0
message_cost (Some units) = 1 + length units

-- the message is made first
abbrev pub with_message : Program → Option (List ℕ) → HeapView → HeapView
with_message p None h = h
with_message p (Some units) h = with_text (kind_for p string) units h

abbrev pub message_in : Option (List ℕ) → HeapView → Datum
message_in None h = null
message_in (Some units) h = datum.Ref (next_number h)

-- an exception behind its message, with Throwable's two fields
abbrev pub with_exception : Program → List ℕ → Option (List ℕ) → Datum → HeapView → HeapView
with_exception p name message cause h =
    with_instance (kind_for p name) (message_in message h ∷ cause ∷ []) (with_message p message h)

-- An exception of the class with this name, made with its message in one test of the limit; object 1 where both do not
-- fit.
abbrev pub made_with : World → Shared → List ℕ → Option (List ℕ) → Datum → Allocated
made_with w s name message cause =
    if nat_le (s.heap.used + (message_cost message + 3)) s.heap.limit
    then record {
      shared = record s { heap = with_exception w.program name message cause s.heap };
      reference = next_number (with_message w.program message s.heap);
    }
    else record { shared = s; reference = 1 }

abbrev pub exception_raised : World → Shared → List ℕ → Option (List ℕ) → Allocated
exception_raised w s name message = made_with w s name message null

-- ---- names of classes that the rules speak of

abbrev pub throwable : List ℕ
throwable = codes "java/lang/Throwable"

abbrev pub error : List ℕ
error = codes "java/lang/Error"

abbrev pub null_pointer : List ℕ
null_pointer = codes "java/lang/NullPointerException"

abbrev pub no_class_definition : List ℕ
no_class_definition = codes "java/lang/NoClassDefFoundError"

abbrev pub no_such_field : List ℕ
no_such_field = codes "java/lang/NoSuchFieldError"

abbrev pub no_such_method : List ℕ
no_such_method = codes "java/lang/NoSuchMethodError"

abbrev pub in_initializer : List ℕ
in_initializer = codes "java/lang/ExceptionInInitializerError"

abbrev pub stack_overflow : List ℕ
stack_overflow = codes "java/lang/StackOverflowError"

abbrev pub index_outside : List ℕ
index_outside = codes "java/lang/ArrayIndexOutOfBoundsException"

abbrev pub negative_array_size : List ℕ
negative_array_size = codes "java/lang/NegativeArraySizeException"

abbrev pub array_store : List ℕ
array_store = codes "java/lang/ArrayStoreException"

abbrev pub system : List ℕ
system = codes "java/lang/System"

-- ---- before the start

-- the value that a static field of this descriptor has at first (2.3, 2.4)
abbrev pub zero_for : List ℕ → Datum
zero_for [] = datum.Int (pos 0)
zero_for (unit ∷ rest) = if unit == 74 then datum.Long (pos 0) else if unit == 76 || unit == 91 then datum.Ref 0 else datum.Int (pos 0)

abbrev pub zeros : ClassFile → List Datum
zeros c = map (λ (m : Member). zero_for (unwrap_or (named_text c.pool m.descriptor) [])) c.fields

-- System's fields in, out and err hold objects 2, 3 and 4 (heap_before); all others are zero
abbrev pub system_stream : List ℕ → Option ℕ
system_stream name =
    if same_text name (codes "in") then Some 2
    else if same_text name (codes "out") then Some 3
    else if same_text name (codes "err") then Some 4
    else None

abbrev pub system_static : ClassFile → Member → Datum
system_static c m =
    option_map_or datum.Ref (option_and_then system_stream (named_text c.pool m.name))
    (zero_for (unwrap_or (named_text c.pool m.descriptor) []))

abbrev pub static_zeros : ClassFile → List Datum
static_zeros c = if has_name system c then map (system_static c) c.fields else zeros c

-- the built-in classes are ready from the beginning, without any code (5.3, 5.5)
abbrev pub phase_before : ClassFile → Phase
phase_before c = if has_built_in_name c then Ready else Fresh

-- their positions, counted from this one
abbrev pub built_in_from : ℕ → List ClassFile → List ℕ
built_in_from at [] = []
built_in_from at (c ∷ rest) = if has_built_in_name c then at ∷ built_in_from (at + 1) rest else built_in_from (at + 1) rest

abbrev pub out_of_memory : List ℕ
out_of_memory = codes "java/lang/OutOfMemoryError"

abbrev pub input_stream : List ℕ
input_stream = codes "java/io/InputStream"

abbrev pub print_stream : List ℕ
print_stream = codes "java/io/PrintStream"

-- objects 1 to 4: the OutOfMemoryError that the machine throws, System.in, System.out and System.err
abbrev pub heap_before : Program → HeapView
heap_before p =
    with_instance (kind_for p print_stream) []
    (with_instance (kind_for p print_stream) []
    (with_instance (kind_for p input_stream) []
    (with_instance (kind_for p out_of_memory) (null ∷ null ∷ []) (empty_heap p.heap))))

abbrev pub shared_before : Program → Shared
shared_before p = record {
  loaded = built_in_from 0 p.classes;
  phases = map phase_before p.classes;
  statics = map static_zeros p.classes;
  heap = heap_before p;
  made = nothing_made;
  read = 0;
}

-- ---- the arguments of `main`

-- the kind of String[]
abbrev pub strings_kind : Program → ℕ
strings_kind p = kind_number (record { dimensions = 1; base = kind_for p string })

-- a text of this kind is an element of an array
abbrev pub with_text_in : ℕ → ℕ → ℕ → List ℕ → HeapView → HeapView
with_text_in kind array at units h = with_slot_at array at (datum.Ref (next_number h)) (with_text kind units h)

-- the texts of these arguments are elements of an array, from a place on
abbrev pub with_texts : Program → ℕ → ℕ → List (List ℕ) → HeapView → HeapView
with_texts p array at [] h = h
with_texts p array at (arg ∷ args) h = with_texts p array (at + 1) args (with_text_in (kind_for p string) array at arg h)

-- the array of the arguments, and then their texts
abbrev pub with_arguments : Program → HeapView → HeapView
with_arguments p h = with_texts p (next_number h) 0 p.args (with_array (strings_kind p) null (length p.args) h)

-- the slots of so many texts
abbrev pub texts_cost : List (List ℕ) → ℕ
texts_cost [] = 0
texts_cost (arg ∷ args) = 1 + length arg + texts_cost args

-- the slots of the array and of the texts
abbrev pub arguments_cost : List (List ℕ) → ℕ
arguments_cost args = 1 + length args + texts_cost args

-- whether there is room for all of them behind the objects that are there before the start
abbrev pub arguments_fit : Program → Bool
arguments_fit p = nat_le ((heap_before p).used + arguments_cost p.args) p.heap
