-- Worked loads over small class lists (JVM Specification 5.3): each way to end, and what stays loaded.
use Rattle.std.specs.Prelude.{◌≡◌, ℕ, List, [], ◌∷◌, codes, refl}
use Rattle.jvm_model.specs.declared.program.Program.{Program}
use Rattle.jvm_model.specs.Classes.Load.{loading_done, loading_failed, NoClass, Circular, Incompatible, load_of}
use Rattle.class_index.proofs.WorkedClasses.{object, root_class, class_shape, interface_shape, program_of}

abbrev a : List ℕ
a = codes "A"

abbrev b : List ℕ
b = codes "B"

abbrev i : List ℕ
i = codes "I"

abbrev j : List ℕ
j = codes "J"

-- A extends B; A implements I and J; I extends J
abbrev plain : Program
plain = program_of (root_class ∷ class_shape a b (i ∷ j ∷ []) ∷ class_shape b object [] ∷ interface_shape i (j ∷ []) ∷ interface_shape j [] ∷ [])

-- the superclass first, then the interfaces in order, then the class itself
pub in_order : load_of plain [] a ≡ loading_done (0 ∷ 2 ∷ 4 ∷ 3 ∷ 1 ∷ [])
in_order = refl

pub what_is_left : load_of plain (0 ∷ 4 ∷ []) a ≡ loading_done (0 ∷ 4 ∷ 2 ∷ 3 ∷ 1 ∷ [])
what_is_left = refl

pub already : load_of plain (0 ∷ 2 ∷ []) b ≡ loading_done (0 ∷ 2 ∷ [])
already = refl

pub absent : load_of plain (0 ∷ []) (codes "C") ≡ loading_failed (0 ∷ []) (NoClass (codes "C"))
absent = refl

-- ---- arrays

pub of_a_class : load_of plain [] (codes "[[LB;") ≡ loading_done (0 ∷ 2 ∷ [])
of_a_class = refl

pub of_ints : load_of plain [] (codes "[[I") ≡ loading_done []
of_ints = refl

pub of_an_absent_class : load_of plain [] (codes "[LC;") ≡ loading_failed [] (NoClass (codes "C"))
of_an_absent_class = refl

-- no descriptors
pub without_an_end : load_of plain [] (codes "[LB") ≡ loading_failed [] (NoClass (codes "[LB"))
without_an_end = refl

pub of_void : load_of plain [] (codes "[V") ≡ loading_failed [] (NoClass (codes "[V"))
of_void = refl

pub without_a_name : load_of plain [] (codes "[L;") ≡ loading_failed [] (NoClass (codes "[L;"))
without_a_name = refl

-- ---- circles

pub of_one : load_of (program_of (root_class ∷ class_shape a a [] ∷ [])) [] a ≡ loading_failed [] Circular
of_one = refl

-- A extends B, B implements I, and I is an interface whose superinterface is A: what stands before it is loaded
abbrev of_three_classes : Program
of_three_classes = program_of (root_class ∷ class_shape a b [] ∷ class_shape b object (j ∷ i ∷ []) ∷ interface_shape i (a ∷ []) ∷ interface_shape j [] ∷ [])

pub of_three : load_of of_three_classes [] a ≡ loading_failed (0 ∷ 4 ∷ []) Circular
of_three = refl

pub of_three_again : load_of of_three_classes (0 ∷ 4 ∷ []) i ≡ loading_failed (0 ∷ 4 ∷ []) Circular
of_three_again = refl

-- ---- what a superclass and a superinterface have to be

-- the superclass is looked at before the interfaces are loaded
pub above_is_an_interface : load_of (program_of (root_class ∷ class_shape a i (j ∷ []) ∷ interface_shape i [] ∷ interface_shape j [] ∷ [])) [] a
    ≡ loading_failed (0 ∷ 2 ∷ []) Incompatible
above_is_an_interface = refl

-- an interface is looked at before the next one is loaded
pub interface_is_none : load_of (program_of (root_class ∷ class_shape a object (b ∷ j ∷ []) ∷ class_shape b object [] ∷ interface_shape j [] ∷ [])) [] a
    ≡ loading_failed (0 ∷ 2 ∷ []) Incompatible
interface_is_none = refl

pub absent_interface : load_of (program_of (root_class ∷ class_shape a b (i ∷ j ∷ []) ∷ class_shape b object [] ∷ interface_shape i [] ∷ [])) [] a
    ≡ loading_failed (0 ∷ 2 ∷ 3 ∷ []) (NoClass j)
absent_interface = refl

-- an array as superinterface: its element is loaded, and it is no interface
pub array_as_interface : load_of (program_of (root_class ∷ class_shape a object (codes "[LI;" ∷ []) ∷ interface_shape i [] ∷ [])) [] a
    ≡ loading_failed (0 ∷ 2 ∷ []) Incompatible
array_as_interface = refl
