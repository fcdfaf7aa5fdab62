-- Worked look-ups over small class lists (JVM Specification 5.4.3, 5.4.5): subtypes, fields, methods, selection,
-- layouts.
use Rattle.std.specs.Prelude.{◌≡◌, ℕ, true, false, List, [], ◌∷◌, Some, None, codes, refl}
use Rattle.const_pool.specs.declared.descriptor.Kind.TheVariants.{Int, Long, Ref}
use Rattle.const_pool.specs.References.{NameAndType}
use Rattle.jvm_model.specs.declared.program.Program.{Program}
use Rattle.jvm_model.specs.Classes.Kinds.{is_subkind, kind_named}
use Rattle.jvm_model.specs.Classes.Layouts.{layout}
use Rattle.jvm_model.specs.Classes.Lookup.{Found, Fails, incompatible_change, is_subtype, place_in, resolved_field, resolved_method}
use Rattle.jvm_model.specs.Classes.Selection.{package_of, method_selected}
use Rattle.jvm_model.specs.Basis.SharedState.{no_such_field, no_such_method}
use Rattle.class_index.proofs.WorkedClasses.{class_shape, interface_shape, item, object, program_of, root_class, texts, with_fields, with_methods}

abbrev a : List ℕ
a = codes "A"

abbrev b : List ℕ
b = codes "B"

abbrev c : List ℕ
c = codes "C"

abbrev i : List ℕ
i = codes "I"

abbrev j : List ℕ
j = codes "J"

-- ---- packages

pub of_two : package_of (codes "p/q/A") ≡ codes "p/q/"
of_two = refl

pub of_none : package_of a ≡ []
of_none = refl

-- ---- fields: B extends A and implements I; I extends J

abbrev f : NameAndType
f = texts (codes "f") (codes "I")

abbrev g : NameAndType
g = texts (codes "g") (codes "I")

abbrev with_superinterfaces : Program
with_superinterfaces = program_of (
    root_class
    ∷ with_fields (item 0 (codes "g") (codes "J") ∷ item 0 (codes "f") (codes "I") ∷ []) (class_shape a object [])
    ∷ with_fields (item 8 (codes "s") (codes "I") ∷ item 0 (codes "o") (codes "[I") ∷ item 2 (codes "n") (codes "I") ∷ []) (class_shape b a (i ∷ []))
    ∷ interface_shape i (j ∷ [])
    ∷ with_fields (item 25 (codes "f") (codes "I") ∷ []) (interface_shape j [])
    ∷ [])

pub in_the_superinterface : resolved_field with_superinterfaces 2 f ≡ Found (place_in 4 0)
in_the_superinterface = refl

pub in_the_superclass : resolved_field with_superinterfaces 1 f ≡ Found (place_in 1 1)
in_the_superclass = refl

pub of_another_descriptor : resolved_field with_superinterfaces 2 g ≡ Fails no_such_field
of_another_descriptor = refl

pub of_the_superclass_first : layout with_superinterfaces 2 ≡ Long ∷ Int ∷ Ref ∷ Int ∷ []
of_the_superclass_first = refl

pub implements_above : is_subtype with_superinterfaces 2 4 ≡ true
implements_above = refl

pub not_below : is_subtype with_superinterfaces 1 2 ≡ false
not_below = refl

-- ---- methods: B extends A and implements I, and both have m; only J has k

abbrev m : NameAndType
m = texts (codes "m") (codes "()V")

abbrev k : NameAndType
k = texts (codes "k") (codes "()V")

abbrev of_both : Program
of_both = program_of (
    with_methods (item 1 (codes "h") (codes "()V") ∷ []) root_class
    ∷ with_methods (item 1 (codes "m") (codes "()V") ∷ []) (class_shape a object (j ∷ []))
    ∷ class_shape b a (i ∷ [])
    ∷ with_methods (item 1025 (codes "m") (codes "()V") ∷ []) (interface_shape i [])
    ∷ with_methods (item 1025 (codes "k") (codes "()V") ∷ []) (interface_shape j [])
    ∷ [])

pub superclass_before_interface : resolved_method of_both 2 false m ≡ Found (place_in 1 0)
superclass_before_interface = refl

pub in_an_interface_of_the_superclass : resolved_method of_both 2 false k ≡ Found (place_in 4 0)
in_an_interface_of_the_superclass = refl

pub in_no_class : resolved_method of_both 2 false (texts (codes "x") (codes "()V")) ≡ Fails no_such_method
in_no_class = refl

pub interface_as_class : resolved_method of_both 3 false m ≡ Fails incompatible_change
interface_as_class = refl

pub class_as_interface : resolved_method of_both 2 true m ≡ Fails incompatible_change
class_as_interface = refl

-- the superclass of an interface is java/lang/Object
pub of_object : resolved_method of_both 3 true (texts (codes "h") (codes "()V")) ≡ Found (place_in 0 0)
of_object = refl

-- ---- selection

pub by_the_superclass : method_selected of_both 2 true (place_in 3 0) ≡ Some (place_in 1 0)
by_the_superclass = refl

pub of_none_declared : method_selected of_both 2 true (place_in 4 0) ≡ None
of_none_declared = refl

-- three classes, each with v of these flags, each below the one before
abbrev three : List ℕ → ℕ → List ℕ → ℕ → List ℕ → ℕ → Program
three x first y second z third = program_of (
    root_class
    ∷ with_methods (item first (codes "v") (codes "()V") ∷ []) (class_shape x object [])
    ∷ with_methods (item second (codes "v") (codes "()V") ∷ []) (class_shape y x [])
    ∷ with_methods (item third (codes "v") (codes "()V") ∷ []) (class_shape z y [])
    ∷ [])

pub across_packages : method_selected (three (codes "p/A") 0 (codes "p/B") 0 (codes "q/C") 1) 3 false (place_in 1 0) ≡ Some (place_in 2 0)
across_packages = refl

pub through_a_public_one : method_selected (three (codes "p/A") 0 (codes "p/B") 1 (codes "q/C") 1) 3 false (place_in 1 0) ≡ Some (place_in 3 0)
through_a_public_one = refl

pub through_a_static_one : method_selected (three (codes "p/A") 0 (codes "p/B") 9 (codes "q/C") 1) 3 false (place_in 1 0) ≡ Some (place_in 3 0)
through_a_static_one = refl

pub not_through_a_private_one : method_selected (three (codes "p/A") 0 (codes "p/B") 2 (codes "q/C") 1) 3 false (place_in 1 0) ≡ Some (place_in 2 0)
not_through_a_private_one = refl

pub private_overrides : method_selected (three a 1 b 2 c 8) 3 false (place_in 1 0) ≡ Some (place_in 2 0)
private_overrides = refl

pub private_is_not_overridden : method_selected (three a 2 b 1 c 1) 3 false (place_in 1 0) ≡ Some (place_in 1 0)
private_is_not_overridden = refl

pub static_is_passed_over : method_selected (three a 1 b 1 c 9) 3 false (place_in 1 0) ≡ Some (place_in 2 0)
static_is_passed_over = refl

pub abstract_is_none : method_selected (three a 1 b 1 c 1025) 3 false (place_in 1 0) ≡ None
abstract_is_none = refl

-- ---- arrays: a class list of which the first three stand for what every array is

abbrev with_arrays : Program
with_arrays = program_of (root_class ∷ interface_shape i [] ∷ interface_shape j [] ∷ class_shape a object [] ∷ class_shape b a [] ∷ [])

pub of_subclasses : kind_named with_arrays (codes "[[LB;") ≡ Some 33554452
of_subclasses = refl

pub elements_decide : is_subkind with_arrays (record { dimensions = 2; base = 20 }) (record { dimensions = 2; base = 19 }) ≡ true
elements_decide = refl

pub ints_are_no_longs : is_subkind with_arrays (record { dimensions = 1; base = 10 }) (record { dimensions = 1; base = 11 }) ≡ false
ints_are_no_longs = refl

pub arrays_of_objects : is_subkind with_arrays (record { dimensions = 2; base = 10 }) (record { dimensions = 1; base = 16 }) ≡ true
arrays_of_objects = refl

pub dimensions_count : is_subkind with_arrays (record { dimensions = 2; base = 20 }) (record { dimensions = 1; base = 19 }) ≡ false
dimensions_count = refl

pub no_array_is_below : is_subkind with_arrays (record { dimensions = 0; base = 16 }) (record { dimensions = 1; base = 16 }) ≡ false
no_array_is_below = refl

-- ---- an interface whose superclass is A, with a field, and B that implements it, a subtype of A that extends it not

abbrev through_an_interface : Program
through_an_interface = program_of (
    root_class
    ∷ with_fields (item 0 (codes "f") (codes "I") ∷ []) (class_shape a object [])
    ∷ class_shape b object (i ∷ [])
    ∷ record (class_shape i a []) { access = 1537 }
    ∷ [])

pub is_below : is_subtype through_an_interface 2 1 ≡ true
is_below = refl

pub has_its_field : resolved_field through_an_interface 2 f ≡ Found (place_in 1 0)
has_its_field = refl

pub has_no_slot_for_it : layout through_an_interface 2 ≡ []
has_no_slot_for_it = refl

-- ---- a list that can't be loaded: each walk ends

abbrev in_a_circle : Program
in_a_circle = program_of (class_shape a b [] ∷ class_shape b a [] ∷ [])

pub walk_is_cut : resolved_field in_a_circle 0 f ≡ Fails no_such_field
walk_is_cut = refl
