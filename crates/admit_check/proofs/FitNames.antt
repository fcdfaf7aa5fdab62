-- The names of an admitted program's classes: no two are the same, and none is a built-in one's or an array's.
use Rattle.std.proofs.Common.{◌≡◌, ℕ, zero, suc, Bool, true, false, List, [], ◌∷◌, ◌++◌, length, position, slice_get, Option, Some, None, refl, sym, ap, ◌∙◌}
use Rattle.std.specs.Prelude.{◌||◌, ◌==◌}
use Rattle.std.specs.List.{AllByRecursion, list_any}
use Rattle.std.specs.Option.{option_map_or}
use Rattle.std.proofs.lemmas.Option.{same_Some, none-some}
use Rattle.std.proofs.lemmas.Slice.Eq.{bytes_eq-Decides}
use Rattle.std.proofs.lemmas.Bool.{or_parts}
use Rattle.const_pool.specs.declared.class.ClassFile.{ClassFile}
use Rattle.const_pool.specs.BuiltIn.{built_in_names, probe_class}
use Rattle.jvm_model.specs.Basis.Descriptors.{same_text}
use Rattle.jvm_model.specs.Classes.Kinds.{is_array_name}
use Rattle.jvm_model.specs.Basis.Programs.{has_built_in_name, has_name, name_of}
use Rattle.inject_events.proofs.Rooms.{neither}
use Rattle.admit_check.specs.Admission.{class_fault, classes_fault}
use Rattle.code_admission.specs.Checks.{fault_if}
use Rattle.admit_check.specs.Shapes.{has_same_name, has_wrong_name, is_reserved, is_taken_name, name_fault, own_name, same_named, shape_fault}
use Rattle.code_admission.proofs.CodeStarts.{no-fault}
use Rattle.code_admission.proofs.Positions.{position-behind, position-first}

-- ---- one class

-- the name of a class of a program is neither a built-in class's nor an array's
pub record IsOwnClass (c : ClassFile) : Type 0 where
  pub free : has_built_in_name c ≡ false
  pub plain : (name : List ℕ) → name_of c ≡ Some name → is_array_name name ≡ false

taken-free : (o : Option (List ℕ)) → option_map_or is_taken_name o false ≡ false → option_map_or (λ name. list_any (same_text name) built_in_names) o false ≡ false
taken-free None e = refl
taken-free (Some name) e = (or_parts (same_text name probe_class) _ e).1

wrong-plain : (name : List ℕ) (o : Option (List ℕ)) → o ≡ Some name → option_map_or (λ name. length name == 0 || is_array_name name) o false ≡ false → is_array_name name ≡ false
wrong-plain name None is e = absurd (none-some name is)
wrong-plain name (Some found) is e = ap is_array_name (sym (same_Some found name is)) ∙ (or_parts (length found == 0) _ e).1

-- what a class without a fault has
record IsSoundAt (earlier : List ClassFile) (c : ClassFile) : Type 0 where
  class : IsOwnClass c
  differs : list_any (has_same_name c) earlier ≡ false

sound-at : (earlier : List ClassFile) (k : ℕ) (c : ClassFile) → class_fault earlier k c ≡ None → IsSoundAt earlier c
sound-at earlier k c e =
    let name = neither (name_fault earlier k c) _ e in
    let shape = neither (shape_fault k c) _ name.1 in
    let reserved = neither (fault_if (is_reserved c) _) _ name.0 in
    let double = neither (fault_if (list_any (has_same_name c) earlier) _) _ reserved.1 in
    let wrong = neither (fault_if (has_wrong_name c) _) _ shape.0 in
    record {
      class = record {
        free = taken-free (own_name c) (or_parts (option_map_or is_taken_name (own_name c) false) _ (no-fault (is_reserved c) _ reserved.0)).0;
        plain = λ name is. wrong-plain name (own_name c) is (no-fault (has_wrong_name c) _ wrong.0);
      };
      differs = no-fault (list_any (has_same_name c) earlier) _ double.0;
    }

-- ---- all of them

pub own-classes : (earlier classes : List ClassFile) → classes_fault earlier classes ≡ None → AllByRecursion IsOwnClass classes
own-classes earlier [] e = tt
own-classes earlier (c ∷ rest) e =
    let parts = neither (class_fault earlier (length earlier) c) _ e in
    ((sound-at earlier (length earlier) c parts.0).class, own-classes (earlier ++ c ∷ []) rest parts.1)

-- the same test of names
same-test : (name : List ℕ) (own other : Option (List ℕ)) → own ≡ Some name → same_named own other ≡ option_map_or (same_text name) other false
same-test name None other is = absurd (none-some name is)
same-test name (Some found) None is = refl
same-test name (Some found) (Some b) is = ap (λ a. same_text a b) (same_Some found name is)

same-tests : (c : ClassFile) (name : List ℕ) (others : List ClassFile) → name_of c ≡ Some name → list_any (has_same_name c) others ≡ list_any (has_name name) others
same-tests c name [] is = refl
same-tests c name (d ∷ others) is =
    ap (λ b. b || list_any (has_same_name c) others) (same-test name (own_name c) (own_name d) is) ∙ ap (λ b. has_name name d || b) (same-tests c name others is)

any-end : (test : ClassFile → Bool) (xs : List ClassFile) (x : ClassFile) → list_any test (xs ++ x ∷ []) ≡ false → (list_any test xs ≡ false) × (test x ≡ false)
any-end test [] x e = (refl, (or_parts (test x) false e).0)
any-end test (y ∷ xs) x e =
    let parts = or_parts (test y) (list_any test (xs ++ x ∷ [])) e in
    let more = any-end test xs x parts.1 in
    (ap (λ b. b || list_any test xs) parts.0 ∙ more.0, more.1)

-- a class that has this name
has-own : (c : ClassFile) (name : List ℕ) → name_of c ≡ Some name → has_name name c ≡ true
has-own c name is = ap (λ o. option_map_or (same_text name) o false) is ∙ (bytes_eq-Decides name name).1 refl

-- the first class of its name stands where it stands, and none before has its name
record IsFirstNamed (earlier classes more : List ClassFile) (name : List ℕ) (at : ℕ) : Type 0 where
  place : position (has_name name) (classes ++ more) ≡ Some at
  none : list_any (has_name name) earlier ≡ false

first-named : (earlier classes more : List ClassFile) (at : ℕ) (c : ClassFile) (name : List ℕ) → classes_fault earlier classes ≡ None → slice_get classes at ≡ Some c → name_of c ≡ Some name
    → IsFirstNamed earlier classes more name at
first-named earlier [] more at c name e there is = absurd (none-some c there)
first-named earlier (x ∷ rest) more zero c name e there is =
    let parts = neither (class_fault earlier (length earlier) x) _ e in
    let same : name_of x ≡ Some name = ap name_of (same_Some x c there) ∙ is in
    record {
      place = position-first (has_name name) x (rest ++ more) (has-own x name same);
      none = sym (same-tests x name earlier same) ∙ (sound-at earlier (length earlier) x parts.0).differs;
    }
first-named earlier (x ∷ rest) more (suc at) c name e there is =
    let parts = neither (class_fault earlier (length earlier) x) _ e in
    let behind = first-named (earlier ++ x ∷ []) rest more at c name parts.1 there is in
    let none = any-end (has_name name) earlier x behind.none in
    record { place = position-behind (has_name name) x (rest ++ more) at none.1 behind.place; none = none.0 }

pub own-place : (classes more : List ClassFile) (at : ℕ) (c : ClassFile) (name : List ℕ) → classes_fault [] classes ≡ None → slice_get classes at ≡ Some c → name_of c ≡ Some name
    → position (has_name name) (classes ++ more) ≡ Some at
own-place classes more at c name e there is = (first-named [] classes more at c name e there is).place
