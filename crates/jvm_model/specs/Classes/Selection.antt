-- Overriding (JVM Specification 5.4.5), and which method an object's class has for a resolved one (chapter 6,
-- invokevirtual and invokeinterface).
use Rattle.std.specs.Prelude.{ℕ, ◌+◌, Bool, false, not, List, [], ◌∷◌, Option, Some, None, IsTrue, slice_get, take, unwrap_or, ◌==◌, ◌&&◌, ◌||◌, if◌then◌else◌}
use Rattle.std.specs.List.{list_any}
use Rattle.std.specs.Option.{option_and_then, option_map, option_map_or}
use Rattle.const_pool.specs.declared.class.ClassFile.{ClassFile}
use Rattle.const_pool.specs.declared.class.Member.{Member}
use Rattle.const_pool.specs.References.{NameAndType, named_text}
use Rattle.jvm_model.specs.declared.program.Program.{Program}
use Rattle.jvm_model.specs.Basis.Descriptors.{same_text}
use Rattle.jvm_model.specs.Basis.Programs.{class_at, name_at}
use Rattle.jvm_model.specs.Basis.Methods.{has_flag}
use Rattle.jvm_model.specs.Classes.Lookup.{MemberPlace, place_in, first_in, is_subtype, method_at, superclasses, supertypes}

-- ---- packages

-- how many units of a name come up to its last slash; so many did before
abbrev pub package_end : ℕ → ℕ → List ℕ → ℕ
package_end «end» at [] = «end»
package_end «end» at (unit ∷ rest) = package_end (if unit == 47 then at + 1 else «end») (at + 1) rest

-- the package of a class (5.3): its name up to the last slash
abbrev pub package_of : List ℕ → List ℕ
package_of name = take (package_end 0 0 name) name

abbrev pub package_at : Program → ℕ → List ℕ
package_at p class = package_of (unwrap_or (name_at p class) [])

abbrev pub same_package : Program → ℕ → ℕ → Bool
same_package p a b = same_text (package_at p a) (package_at p b)

-- ---- methods

abbrev pub access_of : Program → MemberPlace → ℕ
access_of p m =
    option_map_or (λ (found : Member). found.access) (option_and_then (λ (c : ClassFile). slice_get c.methods m.position) (class_at p m.class)) 0

-- ACC_PRIVATE, ACC_STATIC, ACC_ABSTRACT (4.6)
abbrev pub is_private : Program → MemberPlace → Bool
is_private p m = has_flag 2 (access_of p m)

abbrev pub is_static : Program → MemberPlace → Bool
is_static p m = has_flag 8 (access_of p m)

abbrev pub is_abstract : Program → MemberPlace → Bool
is_abstract p m = has_flag 1024 (access_of p m)

-- ACC_PUBLIC or ACC_PROTECTED
abbrev pub is_open : Program → MemberPlace → Bool
is_open p m = has_flag 1 (access_of p m) || has_flag 4 (access_of p m)

-- its name and descriptor
abbrev pub texts_of : ClassFile → Member → Option NameAndType
texts_of c m =
    option_and_then (λ name. option_map (λ descriptor. record { name = name; descriptor = descriptor }) (named_text c.pool m.descriptor))
    (named_text c.pool m.name)

abbrev pub signature_of : Program → MemberPlace → Option NameAndType
signature_of p m = option_and_then (λ (c : ClassFile). option_and_then (texts_of c) (slice_get c.methods m.position)) (class_at p m.class)

-- ---- overriding

-- its class is a proper subtype of the other's, with the same name and descriptor
abbrev pub stands_below : Program → MemberPlace → MemberPlace → Bool
stands_below p m1 m2 =
    not (m1.class == m2.class) && is_subtype p m1.class m2.class
    && option_map_or (λ wanted. option_map_or (λ at. at == m1.position) (method_at p wanted m1.class) false) (signature_of p m2) false

-- the second can be overridden from the class: it is public, or protected, or of the class's package and not private
abbrev pub is_reached : Program → ℕ → MemberPlace → Bool
is_reached p class m = not (is_private p m) && (is_open p m || same_package p class m.class)

-- A method overrides another below which it stands: where its class reaches that one, or where it overrides a third
-- method that overrides that one.
pub data Overrides (p : Program) : MemberPlace → MemberPlace → Type 0 where
  directly : (m1 m2 : MemberPlace) → IsTrue (stands_below p m1 m2) → IsTrue (is_reached p m1.class m2) → Overrides p m1 m2
  through : (m1 m2 m3 : MemberPlace) → IsTrue (stands_below p m1 m2) → Overrides p m1 m3 → Overrides p m3 m2 → Overrides p m1 m2

-- The same as a test: where the class does not reach the second method itself, a method between the two passes it on,
-- which is open to every class and of the second one's package.
abbrev pub passes_on : Program → MemberPlace → MemberPlace → MemberPlace → Bool
passes_on p m1 m2 m3 =
    stands_below p m1 m3 && stands_below p m3 m2 && not (is_private p m3) && is_open p m3 && is_reached p m3.class m2

abbrev pub passed_at : Program → MemberPlace → MemberPlace → ℕ → Bool
passed_at p m1 m2 class =
    option_map_or (λ wanted. option_map_or (λ at. passes_on p m1 m2 (place_in class at)) (method_at p wanted class) false) (signature_of p m2) false

abbrev pub overrides : Program → MemberPlace → MemberPlace → Bool
overrides p m1 m2 =
    stands_below p m1 m2 && (is_reached p m1.class m2 || list_any (passed_at p m1 m2) (supertypes p m1.class))

-- ---- selection

abbrev pub same_member : MemberPlace → MemberPlace → Bool
same_member m1 m2 = m1.class == m2.class && m1.position == m2.position

-- what a class may have for the method: an instance method of its name and descriptor, which for a method of a class is
-- the method or overrides it
abbrev pub fits : Program → Bool → MemberPlace → MemberPlace → Bool
fits p interface m m1 = not (is_static p m1) && (interface || (same_member m1 m || overrides p m1 m))

abbrev pub candidate : Program → Bool → MemberPlace → ℕ → Option ℕ
candidate p interface m class =
    option_and_then (λ wanted. option_and_then (λ at. if fits p interface m (place_in class at) then Some at else None) (method_at p wanted class))
    (signature_of p m)

-- the nearest one from the class upwards
abbrev pub nearest : Program → ℕ → Bool → MemberPlace → Option MemberPlace
nearest p receiver interface m = first_in (candidate p interface m) (superclasses p receiver)

-- What is invoked: none where none is found and where the nearest is abstract, which raises AbstractMethodError. With
-- `interface` it is also what invokespecial finds from the direct superclass of the current class.
abbrev pub method_selected : Program → ℕ → Bool → MemberPlace → Option MemberPlace
method_selected p receiver interface m =
    option_and_then (λ found. if is_abstract p found then None else Some found) (nearest p receiver interface m)
