-- Supertypes, and looking up fields and methods (JVM Specification 4.9, 5.4.3). A walk goes from a class to the classes
-- that it names; what names no class of the program is passed over. Among classes that can be loaded no chain of
-- supertypes is longer than the list of classes, which bounds each walk; in a list with circles the bound cuts it.
use Rattle.std.specs.Prelude.{ℕ, zero, suc, Bool, false, List, [], ◌∷◌, ◌++◌, length, Option, Some, None, filter_map, flat_map, codes, ◌==◌, if◌then◌else◌}
use Rattle.std.specs.Bool.{beq}
use Rattle.std.specs.List.{list_any}
use Rattle.std.specs.Option.{option_and_then, option_map_or, option_to_list}
use Rattle.const_pool.specs.declared.class.ClassFile.{ClassFile}
use Rattle.const_pool.specs.References.{NameAndType, named_class}
use Rattle.jvm_model.specs.declared.program.Program.{Program}
use Rattle.jvm_model.specs.Basis.Methods.{has_flag, method_named}
use Rattle.jvm_model.specs.Basis.Programs.{class_at, class_named, super_of}
use Rattle.jvm_model.specs.Basis.SharedState.{field_named, no_such_field, no_such_method}

-- ---- what a class names above itself

-- ACC_INTERFACE (4.1)
abbrev pub is_interface : Program → ℕ → Bool
is_interface p class = option_map_or (λ (c : ClassFile). has_flag 512 c.access) (class_at p class) false

abbrev pub interface_names : ClassFile → List (List ℕ)
interface_names c = filter_map (named_class c.pool) c.interfaces

-- its direct superinterfaces, in order
abbrev pub interfaces_of : Program → ℕ → List ℕ
interfaces_of p class = filter_map (class_named p) (option_map_or interface_names (class_at p class) [])

-- its superclass; java/lang/Object has none
abbrev pub superclass_of : Program → ℕ → List ℕ
superclass_of p class = option_to_list (super_of p class)

-- ---- walks

-- a class and its superclasses, upwards
abbrev pub superclasses_within : Program → ℕ → ℕ → List ℕ
superclasses_within p zero class = []
superclasses_within p (suc n) class = class ∷ flat_map (superclasses_within p n) (superclass_of p class)

-- The superinterfaces of an interface: each direct one, followed by its own. Those of a class: the same, and then those
-- of its superclass.
abbrev pub superinterfaces_within : Program → ℕ → ℕ → List ℕ
superinterfaces_within p zero class = []
superinterfaces_within p (suc n) class =
    flat_map (λ i. i ∷ superinterfaces_within p n i) (interfaces_of p class)
    ++ (if is_interface p class then [] else flat_map (superinterfaces_within p n) (superclass_of p class))

-- a class, each direct superinterface with all above it, and then its superclass with all above it
abbrev pub supertypes_within : Program → ℕ → ℕ → List ℕ
supertypes_within p zero class = []
supertypes_within p (suc n) class =
    class ∷ (flat_map (supertypes_within p n) (interfaces_of p class) ++ flat_map (supertypes_within p n) (superclass_of p class))

abbrev pub superclasses : Program → ℕ → List ℕ
superclasses p class = superclasses_within p (length p.classes) class

abbrev pub superinterfaces : Program → ℕ → List ℕ
superinterfaces p class = superinterfaces_within p (length p.classes) class

abbrev pub supertypes : Program → ℕ → List ℕ
supertypes p class = supertypes_within p (length p.classes) class

-- a class is the other one, or inherits from it, or implements it
abbrev pub is_subtype : Program → ℕ → ℕ → Bool
is_subtype p lower upper = list_any (λ class. upper == class) (supertypes p lower)

-- it is the class with this name, or stands below it; a name that is no class of the program has none below it
abbrev pub is_below : Program → ℕ → List ℕ → Bool
is_below p class name = option_map_or (is_subtype p class) (class_named p name) false

-- ---- members

-- where a field or a method stands: the position of its class, and its own there
pub record MemberPlace : Type 0 where
  pub class : ℕ
  pub position : ℕ

abbrev pub place_in : ℕ → ℕ → MemberPlace
place_in class position = record { class = class; position = position }

abbrev pub field_at : Program → NameAndType → ℕ → Option ℕ
field_at p wanted class = option_and_then (field_named wanted) (class_at p class)

abbrev pub method_at : Program → NameAndType → ℕ → Option ℕ
method_at p wanted class = option_and_then (λ c. method_named c wanted) (class_at p class)

-- the first of these classes in which there is one
abbrev pub first_in : (ℕ → Option ℕ) → List ℕ → Option MemberPlace
first_in at [] = None
first_in at (class ∷ rest) = option_map_or (λ position. Some (place_in class position)) (at class) (first_in at rest)

-- ---- resolution

-- a member, or the name of the class of the error (5.4.3)
pub data Resolution : Type 0 where
  Found : MemberPlace → Resolution
  Fails : List ℕ → Resolution

abbrev pub found_or : Option MemberPlace → List ℕ → Resolution
found_or None error = Fails error
found_or (Some place) error = Found place

abbrev pub incompatible_change : List ℕ
incompatible_change = codes "java/lang/IncompatibleClassChangeError"

-- A field is sought in the class, then in its superinterfaces with all above them, then in its superclass (5.4.3.2).
abbrev pub resolved_field : Program → ℕ → NameAndType → Resolution
resolved_field p class wanted = found_or (first_in (field_at p wanted) (supertypes p class)) no_such_field

-- A method of a class is sought in the class, its superclasses, then its superinterfaces (5.4.3.3); one of an interface
-- in the interface, its superinterfaces, then java/lang/Object (5.4.3.4).
abbrev pub method_order : Program → ℕ → List ℕ
method_order p class =
    if is_interface p class
    then class ∷ (superinterfaces p class ++ option_to_list (class_named p (codes "java/lang/Object")))
    else superclasses p class ++ superinterfaces p class

-- A Methodref names a class, and an InterfaceMethodref an interface. That the method is abstract is no fault here.
abbrev pub resolved_method : Program → ℕ → Bool → NameAndType → Resolution
resolved_method p class interface wanted =
    if beq (is_interface p class) interface
    then found_or (first_in (method_at p wanted) (method_order p class)) no_such_method
    else Fails incompatible_change
