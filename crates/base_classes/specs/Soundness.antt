-- What is asked of a class beside its codes' instructions, said of what it declares.
use Rattle.std.specs.Prelude.{ℕ, Bool, true, false, not, ◌||◌, ◌&&◌, ◌==◌, List, [], ◌∷◌, ◌++◌, Option, Some, None, IsTrue, bit_and, is_some}
use Rattle.std.specs.Bool.{beq}
use Rattle.std.specs.List.{list_any, list_all, AllByRecursion}
use Rattle.std.specs.Str.{bytes_eq}
use Rattle.const_pool.specs.Descriptors.{IsFieldText, IsMethodText}
use Rattle.base_classes.specs.Declarations.{MemberDeclaration, ClassDeclaration}
use Rattle.base_classes.specs.Natives.{is_member, is_native}

-- ACC_FINAL, ACC_INTERFACE and ACC_ABSTRACT (JVM Specification 4.1, 4.6)
abbrev pub is_final : ClassDeclaration → Bool
is_final d = not (bit_and d.access 0x0010 == 0)

abbrev pub is_interface : ClassDeclaration → Bool
is_interface d = not (bit_and d.access 0x0200 == 0)

abbrev pub is_abstract : MemberDeclaration → Bool
is_abstract m = not (bit_and m.access 0x0400 == 0)

-- a name that is not empty and no array's
abbrev pub is_class_name : List ℕ → Bool
is_class_name [] = false
is_class_name (unit ∷ rest) = not (unit == 91)

-- a code exactly where a method is neither native nor abstract, and it is not both
abbrev pub has_one_body : MemberDeclaration → Bool
has_one_body m = beq (is_some m.code) (not (is_native m || is_abstract m)) && not (is_native m && is_abstract m)

-- no two members have the same name and descriptor
abbrev pub all_differ : List MemberDeclaration → Bool
all_differ [] = true
all_differ (m ∷ rest) = not (list_any (is_member m.name m.descriptor) rest) && all_differ rest

-- whether a descriptor has F or D outside a class's name, which stands from L to the next semicolon (4.3.2)
abbrev pub has_float : Bool → List ℕ → Bool
has_float within [] = false
has_float true (unit ∷ rest) = has_float (not (unit == 59)) rest
has_float false (unit ∷ rest) = (unit == 70) || ((unit == 68) || has_float (unit == 76) rest)

abbrev pub is_without_float : MemberDeclaration → Bool
is_without_float m = not (has_float false m.descriptor)

pub record IsSound (d : ClassDeclaration) : Type 0 where
  pub name : IsTrue (is_class_name d.name)
  pub fields : AllByRecursion (λ m. IsFieldText m.descriptor) d.fields
  pub methods : AllByRecursion (λ m. IsMethodText m.descriptor) d.methods
  pub bodies : IsTrue (list_all has_one_body d.methods)
  pub fields_differ : IsTrue (all_differ d.fields)
  pub methods_differ : IsTrue (all_differ d.methods)
  pub no_float : IsTrue (list_all is_without_float (d.fields ++ d.methods))

-- ---- above one another

-- whether one of the classes has this name and is so
abbrev pub one_named : (ClassDeclaration → Bool) → List ClassDeclaration → List ℕ → Bool
one_named kind classes name = list_any (λ d. bytes_eq d.name name && kind d) classes

abbrev pub is_extendable : ClassDeclaration → Bool
is_extendable d = not (is_final d || is_interface d)

-- the superclass is one of the earlier classes, neither final nor an interface; the first class has none
abbrev pub rests_on : List ClassDeclaration → Option (List ℕ) → Bool
rests_on [] None = true
rests_on (d ∷ earlier) None = false
rests_on earlier (Some name) = one_named is_extendable earlier name

-- superclasses and interfaces stand earlier than the classes that name them
abbrev pub in_order : List ClassDeclaration → List ClassDeclaration → Bool
in_order earlier [] = true
in_order earlier (d ∷ rest) = (rests_on earlier d.superclass && list_all (one_named is_interface earlier) d.interfaces) && in_order (d ∷ earlier) rest
