-- Worked answers of invokespecial's search over one small class list.
use Rattle.std.specs.Prelude.{◌≡◌, ℕ, List, [], ◌∷◌, Some, None, codes, refl}
use Rattle.jvm_model.specs.declared.program.Program.{Program}
use Rattle.jvm_model.specs.Classes.Lookup.{place_in}
use Rattle.class_index.proofs.WorkedClasses.{Item, class_shape, interface_shape, item, object, program_of, root_class, with_methods}
use Rattle.jvm_model.specs.Classes.SuperCalls.{invoked_special}

-- a method without parameters that gives an int
abbrev method : ℕ → List ℕ → Item
method access name = item access name (codes "()I")

abbrev initializer : Item
initializer = item 1 (codes "<init>") (codes "()V")

-- C extends B, B extends A; D extends A and implements I. A's w is abstract, its x private and its s hidden by a static
-- one of B, and B has an x of its own.
abbrev p : Program
p = program_of (
    with_methods (initializer ∷ []) root_class
    ∷ with_methods (initializer ∷ method 1 (codes "v") ∷ method 1025 (codes "w") ∷ method 2 (codes "x") ∷ method 1 (codes "s") ∷ [])
    (class_shape (codes "A") object [])
    ∷ with_methods (initializer ∷ method 1 (codes "v") ∷ method 1 (codes "x") ∷ method 9 (codes "s") ∷ []) (class_shape (codes "B") (codes "A") [])
    ∷ with_methods (method 1 (codes "v") ∷ method 2 (codes "y") ∷ []) (class_shape (codes "C") (codes "B") [])
    ∷ class_shape (codes "D") (codes "A") (codes "I" ∷ [])
    ∷ with_methods (method 1 (codes "v") ∷ []) (interface_shape (codes "I") [])
    ∷ [])

-- A.v from C is B.v, and B.v from B is itself
pub from_the_direct_superclass : invoked_special p 3 (place_in 1 1) ≡ Some (place_in 2 1)
from_the_direct_superclass = refl

pub of_the_class_itself : invoked_special p 2 (place_in 2 1) ≡ Some (place_in 2 1)
of_the_class_itself = refl

pub of_the_next_superclass : invoked_special p 2 (place_in 1 1) ≡ Some (place_in 1 1)
of_the_next_superclass = refl

-- a private method of the class, and one of a superclass, which is sought like any other
pub own_private : invoked_special p 3 (place_in 3 1) ≡ Some (place_in 3 1)
own_private = refl

pub private_above : invoked_special p 3 (place_in 1 3) ≡ Some (place_in 2 2)
private_above = refl

-- initialization methods are taken as they are
pub initializer_above : invoked_special p 3 (place_in 1 0) ≡ Some (place_in 1 0)
initializer_above = refl

-- a static method between hides nothing
pub over_a_static : invoked_special p 3 (place_in 1 4) ≡ Some (place_in 1 4)
over_a_static = refl

pub of_abstract : invoked_special p 3 (place_in 1 2) ≡ None
of_abstract = refl

-- what no superclass declares: a subclass's, and an interface's
pub below : invoked_special p 1 (place_in 2 1) ≡ Some (place_in 2 1)
below = refl

pub of_an_interface : invoked_special p 4 (place_in 5 0) ≡ Some (place_in 5 0)
of_an_interface = refl
