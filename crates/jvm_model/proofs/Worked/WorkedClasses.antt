-- Worked attempts of the instructions that name classes, fields and methods, over small programs: each rule at each of
-- its cases, in the order of what it asks.
use Rattle.std.specs.Prelude.{◌≡◌, refl, ℕ, ◌++◌, false, List, [], ◌∷◌, length, map, replicate, Option, Some, None, pos, negsuc, codes, unwrap_or}
use Rattle.std.specs.Int.{int_wrap}
use Rattle.heap_objects.specs.declared.datum.Datum.TheVariants as datum
use Rattle.heap_objects.specs.declared.object.Object.TheVariants.{Instance, Array, Text}
use Rattle.heap_objects.specs.Objects.{object_at}
use Rattle.heap_objects.specs.declared.Value.TheVariants.{Int, Long, Ref}
use Rattle.heap_objects.specs.Heaps.{HeapView, kind_at, length_at, next_number, slot_at, with_array, with_instance}
use Rattle.const_pool.specs.References.{Reference}
use Rattle.jvm_model.specs.Instructions.CreationRules.{class_cast, instantiation_error}
use Rattle.jvm_model.specs.Basis.Data.{Datum, Operands, Running, Ready, Erroneous, Program, Shared, Next, Outcome, GoesOn, Throws, Raises, Initializes, Breaks, World}
use Rattle.jvm_model.specs.Classes.Kinds.{kind_named}
use Rattle.jvm_model.specs.Classes.Load.{circular_class}
use Rattle.jvm_model.specs.Instructions.ObjectRules.{array_kind}
use Rattle.jvm_model.specs.Classes.Lookup.{incompatible_change}
use Rattle.jvm_model.specs.Instructions.SymbolicReference.{SymbolicReference, New, Getfield, Putfield, Getstatic, Putstatic, Checkcast, Instanceof, Anewarray, Multianewarray, newly_loaded}
use Rattle.jvm_model.specs.Instructions.ReferenceRules.{does_named}
use Rattle.jvm_model.specs.Basis.Programs.{methods_numbered}
use Rattle.jvm_model.specs.Basis.SharedState.{Field, kind_for, negative_array_size, no_class_definition, no_such_field, null_pointer, shared_before, static_at, string, with_phase}
use Rattle.jvm_model.proofs.Worked.WorkedLibrary.{Shape, class, file_of, interface, item, library_files, object_name, with_fields}
use Rattle.jvm_model.proofs.Worked.WorkedPrograms.{reference}

-- ---- the program, and what is shared

abbrev pub program_of : List Shape → Program
program_of shapes = let classes = map file_of shapes ++ library_files in
    record { classes = classes; methods = methods_numbered classes; main = 0; acts = []; args = []; heap = 40 }

-- nothing of these classes was initialized, and those at these positions are loaded
abbrev pub fresh : Program → List ℕ → Shared
fresh p loaded = let s = shared_before p in record s { loaded = s.loaded ++ loaded }

-- all are ready
abbrev pub ready : Program → List ℕ → Shared
ready p loaded = record (fresh p loaded) { phases = replicate (length p.classes) Ready }

-- objects more, whose numbers begin with 5
abbrev pub with_objects : (HeapView → HeapView) → Shared → Shared
with_objects make s = record s { heap = make s.heap }

-- the program without any input
abbrev pub world_with : Program → World
world_with p = record { program = p; input = [] }

abbrev pub asked : Program → SymbolicReference → Shared → Operands → Outcome
asked p n s o = (does_named (world_with p) n s [] o).outcome

abbrev pub shared_by : Program → SymbolicReference → Shared → Operands → Shared
shared_by p n s o = (does_named (world_with p) n s [] o).shared

-- without locals
abbrev pub with_operands : Operands → Outcome
with_operands o = GoesOn [] o Next

abbrev pub raises : List ℕ → Outcome
raises name = Raises name None

-- ======== classes

abbrev pub a : List ℕ
a = codes "A"

abbrev pub b : List ℕ
b = codes "B"

abbrev pub absent : List ℕ
absent = codes "Absent"

-- A implements I; E extends A, and names an interface that is not there; F and G extend one another; H extends the
-- interface I
abbrev pub loading : Program
loading = program_of (
    class a object_name (codes "I" ∷ [])
    ∷ interface (codes "I") []
    ∷ class (codes "E") a (absent ∷ [])
    ∷ class (codes "F") (codes "G") []
    ∷ class (codes "G") (codes "F") []
    ∷ class (codes "H") (codes "I") []
    ∷ [])

abbrev pub built_in : List ℕ
built_in = (shared_before loading).loaded

-- what is loaded where only the built-in classes are
abbrev pub first_loaded : SymbolicReference → Operands → List ℕ
first_loaded n o = newly_loaded loading built_in n o

pub load-in_order : first_loaded (New a) [] ≡ 1 ∷ 0 ∷ []
load-in_order = refl

-- what stands before a fault is loaded, and loading again adds nothing and ends with the same fault
pub load-half_way : first_loaded (New (codes "E")) [] ≡ 1 ∷ 0 ∷ []
load-half_way = refl

pub load-again : newly_loaded loading (built_in ++ 1 ∷ 0 ∷ []) (New (codes "E")) [] ≡ []
load-again = refl

pub load-half_way-raises : asked loading (New (codes "E")) (fresh loading (1 ∷ 0 ∷ [])) [] ≡ Raises no_class_definition (Some absent)
load-half_way-raises = refl

-- the first class of a circle, and the second one after that
pub circle-raises : asked loading (New (codes "F")) (fresh loading []) [] ≡ raises circular_class
circle-raises = refl

pub circle-loads : first_loaded (New (codes "G")) [] ≡ []
circle-loads = refl

pub circle-second : asked loading (New (codes "G")) (fresh loading []) [] ≡ raises circular_class
circle-second = refl

pub interface_as_superclass-loads : first_loaded (New (codes "H")) [] ≡ 1 ∷ []
interface_as_superclass-loads = refl

pub interface_as_superclass-raises : asked loading (New (codes "H")) (fresh loading (1 ∷ [])) [] ≡ raises incompatible_change
interface_as_superclass-raises = refl

-- an array's name loads its element's class
pub array-loads : first_loaded (Checkcast (codes "[LA;")) (Ref 2 ∷ []) ≡ 1 ∷ 0 ∷ []
array-loads = refl

pub array-raises : asked loading (Multianewarray (codes "[[LAbsent;") 2) (fresh loading []) [] ≡ Raises no_class_definition (Some absent)
array-raises = refl

-- checkcast and instanceof of null resolve nothing; of what is no reference, and of nothing, they do
pub cast_of_null-loads : first_loaded (Checkcast a) (Ref 0 ∷ []) ≡ []
cast_of_null-loads = refl

pub cast_of_null-goes_on : asked loading (Checkcast absent) (fresh loading []) (Ref 0 ∷ []) ≡ with_operands (Ref 0 ∷ [])
cast_of_null-goes_on = refl

pub instanceof_null-loads : first_loaded (Instanceof a) (Ref 0 ∷ []) ≡ []
instanceof_null-loads = refl

pub cast_of_int-loads : first_loaded (Checkcast a) (Int (pos 0) ∷ []) ≡ 1 ∷ 0 ∷ []
cast_of_int-loads = refl

pub cast_of_nothing-raises : asked loading (Checkcast absent) (fresh loading []) [] ≡ Raises no_class_definition (Some absent)
cast_of_nothing-raises = refl

pub instanceof_nothing-breaks : asked loading (Instanceof a) (fresh loading (1 ∷ 0 ∷ [])) [] ≡ Breaks false
instanceof_nothing-breaks = refl

-- ======== fields

abbrev pub ref : ℕ → Datum
ref r = datum.Ref r

abbrev pub number : ℕ → Datum
number n = datum.Int (pos n)

abbrev pub long : ℕ → Datum
long n = datum.Long (pos n)

-- B extends A, and A implements K. C implements L, an interface with an instance field whose superclass is A.
abbrev pub fields : Program
fields = program_of (
    with_fields (item 8 (codes "n") (codes "I") ∷ item 0 (codes "a") (codes "I") ∷ item 0 (codes "z") (codes "Z")
    ∷ item 8 (codes "s") (codes "Z") ∷ item 0 (codes "j") (codes "J") ∷ [])
    (class a object_name (codes "K" ∷ []))
    ∷ with_fields (item 8 (codes "t") (codes "B") ∷ item 0 (codes "b") (codes "B") ∷ item 0 (codes "c") (codes "C")
    ∷ item 0 (codes "h") (codes "S") ∷ item 0 (codes "r") (codes "Ljava/lang/Object;") ∷ [])
    (class b a [])
    ∷ with_fields (item 25 (codes "k") (codes "I") ∷ []) (interface (codes "K") [])
    ∷ class (codes "C") object_name (codes "L" ∷ [])
    ∷ with_fields (item 0 (codes "l") (codes "I") ∷ []) (record (interface (codes "L") []) { above = Some a })
    ∷ [])

abbrev pub field_classes : List ℕ
field_classes = 0 ∷ 1 ∷ 2 ∷ 3 ∷ 4 ∷ []

-- object 5 is of A, 6 of B and 7 of C
abbrev pub field_objects : HeapView → HeapView
field_objects h =
    with_instance (kind_for fields (codes "C")) []
    (with_instance (kind_for fields b) (number 11 ∷ number 0 ∷ long 13 ∷ number 14 ∷ number 15 ∷ number 16 ∷ ref 5 ∷ [])
    (with_instance (kind_for fields a) (number 1 ∷ number 0 ∷ long 3 ∷ []) h))

abbrev pub held : Shared
held = with_objects field_objects (ready fields field_classes)

abbrev pub field : List ℕ → List ℕ → List ℕ → Reference
field = reference

abbrev pub of_field : SymbolicReference → Operands → Outcome
of_field n o = asked fields n held o

-- ---- getstatic

-- the class that declares the field is initialized, and no subclass that is named
pub getstatic-initializes : asked fields (Getstatic (field b (codes "n") (codes "I"))) (fresh fields field_classes) [] ≡ Initializes 0
getstatic-initializes = refl

pub getstatic-of_superinterface : asked fields (Getstatic (field b (codes "k") (codes "I"))) (fresh fields field_classes) [] ≡ Initializes 2
getstatic-of_superinterface = refl

pub getstatic-in_progress : asked fields (Getstatic (field a (codes "n") (codes "I"))) (with_phase (fresh fields field_classes) 0 Running) [] ≡ with_operands (Int (pos 0) ∷ [])
getstatic-in_progress = refl

pub getstatic-erroneous : asked fields (Getstatic (field b (codes "n") (codes "I"))) (with_phase held 0 Erroneous) [] ≡ Raises no_class_definition (Some a)
getstatic-erroneous = refl

pub getstatic-of_instance_field : asked fields (Getstatic (field a (codes "a") (codes "I"))) (fresh fields field_classes) [] ≡ raises incompatible_change
getstatic-of_instance_field = refl

pub getstatic-of_no_field : of_field (Getstatic (field b (codes "n") (codes "J"))) [] ≡ raises no_such_field
getstatic-of_no_field = refl

pub getstatic-of_array : of_field (Getstatic (field (codes "[LA;") (codes "n") (codes "I"))) [] ≡ raises no_such_field
getstatic-of_array = refl

-- ---- putstatic: initialization comes before the operand

abbrev pub put_s : SymbolicReference
put_s = Putstatic (field b (codes "s") (codes "Z"))

pub putstatic-initializes : asked fields put_s (fresh fields field_classes) [] ≡ Initializes 0
putstatic-initializes = refl

pub putstatic-of_nothing : of_field put_s [] ≡ Breaks false
putstatic-of_nothing = refl

pub putstatic-of_long : of_field put_s (Long (pos 1) ∷ []) ≡ Breaks false
putstatic-of_long = refl

pub putstatic-goes_on : of_field put_s (Int (pos 3) ∷ Ref 5 ∷ []) ≡ with_operands (Ref 5 ∷ [])
putstatic-goes_on = refl

-- the field of A, and of a boolean the lowest bit
abbrev pub field_s : Field
field_s = record { class = 0; position = 3 }

pub putstatic-odd : static_at (shared_by fields put_s held (Int (pos 3) ∷ [])) field_s ≡ Some (number 1)
putstatic-odd = refl

pub putstatic-even : static_at (shared_by fields put_s held (Int (pos 2) ∷ [])) field_s ≡ Some (number 0)
putstatic-even = refl

-- ---- getfield

-- fields of a superclass stand first
pub getfield-of_superclass : of_field (Getfield (field b (codes "j") (codes "J"))) (Ref 6 ∷ []) ≡ with_operands (Long (pos 13) ∷ [])
getfield-of_superclass = refl

pub getfield-of_own : of_field (Getfield (field b (codes "h") (codes "S"))) (Ref 6 ∷ Ref 2 ∷ []) ≡ with_operands (Int (pos 16) ∷ Ref 2 ∷ [])
getfield-of_own = refl

pub getfield-of_static_field : of_field (Getfield (field a (codes "n") (codes "I"))) [] ≡ raises incompatible_change
getfield-of_static_field = refl

pub getfield-of_nothing : of_field (Getfield (field a (codes "a") (codes "I"))) [] ≡ Breaks false
getfield-of_nothing = refl

pub getfield-of_int : of_field (Getfield (field a (codes "a") (codes "I"))) (Int (pos 5) ∷ []) ≡ Breaks false
getfield-of_int = refl

pub getfield-of_null : of_field (Getfield (field b (codes "b") (codes "B"))) (Ref 0 ∷ []) ≡ raises null_pointer
getfield-of_null = refl

-- the class that is named is asked for, and not the one that declares the field
pub getfield-of_another_class : of_field (Getfield (field b (codes "a") (codes "I"))) (Ref 5 ∷ []) ≡ Breaks false
getfield-of_another_class = refl

-- C is a subtype of A and has none of its fields, nor that of the interface
pub getfield-not_inherited : of_field (Getfield (field a (codes "a") (codes "I"))) (Ref 7 ∷ []) ≡ Breaks false
getfield-not_inherited = refl

pub getfield-of_interface : of_field (Getfield (field (codes "L") (codes "l") (codes "I"))) (Ref 7 ∷ []) ≡ Breaks false
getfield-of_interface = refl

-- ---- putfield

abbrev pub put_b : SymbolicReference
put_b = Putfield (field b (codes "b") (codes "B"))

-- what a slot of the object of B holds afterwards
abbrev pub put_in : ℕ → List ℕ → List ℕ → ℕ → Option Datum
put_in slot name descriptor n = slot_at 6 slot (shared_by fields (Putfield (field b name descriptor)) held (Int (pos n) ∷ Ref 6 ∷ [])).heap

pub putfield-goes_on : of_field put_b (Int (pos 7) ∷ Ref 6 ∷ Ref 2 ∷ []) ≡ with_operands (Ref 2 ∷ [])
putfield-goes_on = refl

pub putfield-int : put_in 0 (codes "a") (codes "I") 70000 ≡ Some (number 70000)
putfield-int = refl

pub putfield-boolean : put_in 1 (codes "z") (codes "Z") 3 ≡ Some (number 1)
putfield-boolean = refl

pub putfield-byte : put_in 3 (codes "b") (codes "B") 200 ≡ Some (datum.Int (negsuc 55))
unfolding int_wrap
putfield-byte = refl

pub putfield-char : put_in 4 (codes "c") (codes "C") 65537 ≡ Some (number 1)
putfield-char = refl

pub putfield-short : put_in 5 (codes "h") (codes "S") 65535 ≡ Some (datum.Int (negsuc 0))
unfolding int_wrap
putfield-short = refl

pub putfield-reference : slot_at 6 6 (shared_by fields (Putfield (field b (codes "r") (codes "Ljava/lang/Object;"))) held (Ref 2 ∷ Ref 6 ∷ [])).heap ≡ Some (ref 2)
putfield-reference = refl

pub putfield-of_static_field : of_field (Putfield (field a (codes "n") (codes "I"))) [] ≡ raises incompatible_change
putfield-of_static_field = refl

-- the value's kind is looked at before null
pub putfield-of_long : of_field put_b (Long (pos 7) ∷ Ref 0 ∷ []) ≡ Breaks false
putfield-of_long = refl

pub putfield-without_object : of_field put_b (Int (pos 7) ∷ []) ≡ Breaks false
putfield-without_object = refl

pub putfield-of_null : of_field put_b (Int (pos 7) ∷ Ref 0 ∷ []) ≡ raises null_pointer
putfield-of_null = refl

pub putfield-of_another_class : of_field put_b (Int (pos 7) ∷ Ref 5 ∷ []) ≡ Breaks false
putfield-of_another_class = refl

-- ======== objects

-- B extends A; D is abstract, and I an interface
abbrev pub creating : Program
creating = program_of (
    with_fields (item 0 (codes "a") (codes "Z") ∷ item 0 (codes "j") (codes "J") ∷ []) (class a object_name [])
    ∷ with_fields (item 8 (codes "s") (codes "J") ∷ item 0 (codes "r") (codes "[I") ∷ []) (class b a [])
    ∷ record (class (codes "D") object_name []) { access = 1057 }
    ∷ interface (codes "I") []
    ∷ [])

abbrev pub creatable : Shared
creatable = ready creating (0 ∷ 1 ∷ 2 ∷ 3 ∷ [])

abbrev pub uninitialized : Shared
uninitialized = fresh creating (0 ∷ 1 ∷ 2 ∷ 3 ∷ [])

-- so many of the 40 slots were used
abbrev pub used : ℕ → Shared
used n = with_objects (λ h. record h { used = n }) creatable

abbrev pub made_by : SymbolicReference → Operands → HeapView
made_by n o = (shared_by creating n creatable o).heap

-- ---- new

pub new-initializes : asked creating (New b) uninitialized [] ≡ Initializes 1
new-initializes = refl

pub new-goes_on : asked creating (New b) creatable (Ref 2 ∷ []) ≡ with_operands (Ref 5 ∷ Ref 2 ∷ [])
new-goes_on = refl

pub new-fields : object_at 5 (made_by (New b) []).objects ≡ Some (Instance (kind_for creating b) (number 0 ∷ long 0 ∷ ref 0 ∷ []))
new-fields = refl

pub new-slots : (made_by (New b) []).used ≡ 10
new-slots = refl

pub new-fits : asked creating (New b) (used 36) [] ≡ with_operands (Ref 5 ∷ [])
new-fits = refl

pub new-without_room : does_named (world_with creating) (New b) (used 37) [] [] ≡ record { shared = used 37; wrote = []; outcome = Throws 1 }
new-without_room = refl

-- its static initializer runs before it is asked whether it has instances
pub new-of_abstract-initializes : asked creating (New (codes "D")) uninitialized [] ≡ Initializes 2
new-of_abstract-initializes = refl

pub new-of_abstract : asked creating (New (codes "D")) creatable [] ≡ raises instantiation_error
new-of_abstract = refl

pub new-of_interface : asked creating (New (codes "I")) creatable [] ≡ raises instantiation_error
new-of_interface = refl

pub new-of_class : asked creating (New (codes "java/lang/Class")) creatable [] ≡ raises instantiation_error
new-of_class = refl

pub new-of_string : object_at 5 (made_by (New string) []).objects ≡ Some (Text (kind_for creating string) [])
new-of_string = refl

pub new-of_builder : object_at 5 (made_by (New (codes "java/lang/StringBuilder")) []).objects ≡ Some (Text (kind_for creating (codes "java/lang/StringBuilder")) [])
new-of_builder = refl

pub new-of_string-slots : (made_by (New string) []).used ≡ 7
new-of_string-slots = refl

-- ---- anewarray

abbrev pub array_of_a : SymbolicReference
array_of_a = Anewarray a

-- no class is initialized
pub anewarray-goes_on : asked creating array_of_a uninitialized (Int (pos 2) ∷ Ref 2 ∷ []) ≡ with_operands (Ref 5 ∷ Ref 2 ∷ [])
anewarray-goes_on = refl

pub anewarray-kind : kind_at 5 (made_by array_of_a (Int (pos 2) ∷ [])) ≡ kind_named creating (codes "[LA;")
anewarray-kind = refl

pub anewarray-of_arrays : kind_at 5 (made_by (Anewarray (codes "[I")) (Int (pos 2) ∷ [])) ≡ kind_named creating (codes "[[I")
anewarray-of_arrays = refl

pub anewarray-elements : slot_at 5 1 (made_by array_of_a (Int (pos 2) ∷ [])) ≡ Some (ref 0)
anewarray-elements = refl

pub anewarray-of_nothing : asked creating array_of_a creatable [] ≡ Breaks false
anewarray-of_nothing = refl

pub anewarray-negative : asked creating array_of_a creatable (Int (negsuc 0) ∷ []) ≡ raises negative_array_size
anewarray-negative = refl

pub anewarray-without_room : asked creating array_of_a creatable (Int (pos 34) ∷ []) ≡ Throws 1
anewarray-without_room = refl

-- ---- multianewarray: the topmost operand counts the innermost elements

abbrev pub cube : SymbolicReference
cube = Multianewarray (codes "[[[I") 3

abbrev pub counts : ℕ → ℕ → ℕ → Operands
counts x y z = Int (pos z) ∷ Int (pos y) ∷ Int (pos x) ∷ []

-- the references in an array of two
abbrev pub both : ℕ → HeapView → Option Datum × Option Datum
both array h = (slot_at array 0 h, slot_at array 1 h)

-- the outer array, its first part with all its parts, and then its second part
pub multianewarray-first : both 5 (made_by cube (counts 2 2 1)) ≡ (Some (ref 6), Some (ref 9))
multianewarray-first = refl

pub multianewarray-second : both 6 (made_by cube (counts 2 2 1)) ≡ (Some (ref 7), Some (ref 8))
multianewarray-second = refl

pub multianewarray-third : both 9 (made_by cube (counts 2 2 1)) ≡ (Some (ref 10), Some (ref 11))
multianewarray-third = refl

pub multianewarray-kinds : kind_at 9 (made_by cube (counts 2 2 1)) ≡ kind_named creating (codes "[[I")
multianewarray-kinds = refl

pub multianewarray-last : object_at 11 (made_by cube (counts 2 2 1)).objects ≡ Some (Array (record { kind = array_kind 10; items = number 0 ∷ [] }))
multianewarray-last = refl

pub multianewarray-slots : (made_by cube (counts 2 2 1)).used ≡ 23
multianewarray-slots = refl

pub multianewarray-goes_on : asked creating cube creatable (counts 2 2 1 ++ Ref 2 ∷ []) ≡ with_operands (Ref 5 ∷ Ref 2 ∷ [])
multianewarray-goes_on = refl

abbrev pub square : SymbolicReference
square = Multianewarray (codes "[[I") 2

pub multianewarray-square : both 5 (made_by square (Int (pos 2) ∷ Int (pos 2) ∷ [])) ≡ (Some (ref 6), Some (ref 7))
multianewarray-square = refl

pub multianewarray-square-slots : (made_by square (Int (pos 2) ∷ Int (pos 2) ∷ [])).used ≡ 15
multianewarray-square-slots = refl

-- below a dimension of 0 there is nothing
pub multianewarray-zero : both 5 (made_by cube (counts 2 0 3)) ≡ (Some (ref 6), Some (ref 7))
multianewarray-zero = refl

pub multianewarray-zero-part : length_at 7 (made_by cube (counts 2 0 3)) ≡ Some 0
multianewarray-zero-part = refl

pub multianewarray-zero-next : next_number (made_by cube (counts 2 0 3)) ≡ 8
multianewarray-zero-next = refl

pub multianewarray-zero-slots : (made_by cube (counts 2 0 3)).used ≡ 11
multianewarray-zero-slots = refl

-- where fewer dimensions are given the innermost elements are null
pub multianewarray-fewer : both 6 (made_by (Multianewarray (codes "[[[I") 2) (Int (pos 2) ∷ Int (pos 2) ∷ [])) ≡ (Some (ref 0), Some (ref 0))
multianewarray-fewer = refl

pub multianewarray-of_two : asked creating cube creatable (Int (pos 2) ∷ Int (pos 2) ∷ []) ≡ Breaks false
multianewarray-of_two = refl

pub multianewarray-kind_before_sign : asked creating cube creatable (Int (negsuc 0) ∷ Ref 0 ∷ Int (pos 2) ∷ []) ≡ Breaks false
multianewarray-kind_before_sign = refl

pub multianewarray-negative : asked creating cube creatable (Int (negsuc 0) ∷ Int (pos 0) ∷ Int (pos 2) ∷ []) ≡ raises negative_array_size
multianewarray-negative = refl

-- the sum of all is asked first: 3 and 2 * 3 and 6 * 6 slots
pub multianewarray-without_room : does_named (world_with creating) cube creatable [] (counts 2 3 5) ≡ record { shared = creatable; wrote = []; outcome = Throws 1 }
multianewarray-without_room = refl

-- ---- checkcast and instanceof: object 5 is of B, and 6 an array of Bs

abbrev pub cast_objects : HeapView → HeapView
cast_objects h =
    with_array (unwrap_or (kind_named creating (codes "[LB;")) 0) (ref 0) 0
    (with_instance (kind_for creating b) (number 0 ∷ long 0 ∷ ref 0 ∷ []) h)

abbrev pub of_cast : SymbolicReference → Operands → Outcome
of_cast n o = asked creating n (with_objects cast_objects creatable) o

pub checkcast-of_subclass : of_cast (Checkcast a) (Ref 5 ∷ Ref 2 ∷ []) ≡ with_operands (Ref 5 ∷ Ref 2 ∷ [])
checkcast-of_subclass = refl

pub checkcast-of_another : of_cast (Checkcast (codes "I")) (Ref 5 ∷ []) ≡ raises class_cast
checkcast-of_another = refl

pub checkcast-of_array : of_cast (Checkcast (codes "[LA;")) (Ref 6 ∷ []) ≡ with_operands (Ref 6 ∷ [])
checkcast-of_array = refl

pub checkcast-of_array_to_cloneable : of_cast (Checkcast (codes "java/lang/Cloneable")) (Ref 6 ∷ []) ≡ with_operands (Ref 6 ∷ [])
checkcast-of_array_to_cloneable = refl

pub checkcast-of_element : of_cast (Checkcast (codes "[LB;")) (Ref 5 ∷ []) ≡ raises class_cast
checkcast-of_element = refl

pub checkcast-of_int : of_cast (Checkcast a) (Int (pos 5) ∷ []) ≡ Breaks false
checkcast-of_int = refl

pub instanceof-of_subclass : of_cast (Instanceof a) (Ref 5 ∷ Ref 2 ∷ []) ≡ with_operands (Int (pos 1) ∷ Ref 2 ∷ [])
instanceof-of_subclass = refl

pub instanceof-of_another : of_cast (Instanceof (codes "[[LB;")) (Ref 6 ∷ []) ≡ with_operands (Int (pos 0) ∷ [])
instanceof-of_another = refl

pub instanceof-of_null : of_cast (Instanceof a) (Ref 0 ∷ Ref 2 ∷ []) ≡ with_operands (Int (pos 0) ∷ Ref 2 ∷ [])
instanceof-of_null = refl
