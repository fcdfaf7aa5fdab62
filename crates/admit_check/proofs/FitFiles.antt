-- The built-in class files behind the classes of a program: where each is found, and what each needs of those before it
-- (JVM Specification 5.3).
use Rattle.std.proofs.Common.{◌≡◌, ℕ, zero, suc, ◌+◌, ◌<◌, Bool, true, false, not, List, [], ◌∷◌, ◌++◌, length, position, slice_get, get_or, cond, Option, Some, None, refl, sym, ap, ◌∙◌, zero-add, eqb-true, arith}
use Rattle.std.specs.Prelude.{nat_lt, ◌&&◌, ◌==◌}
use Rattle.std.specs.List.{AllByRecursion, list_all, list_any}
use Rattle.std.specs.Option.{option_map_or}
use Rattle.std.proofs.Math.Nat.{add-zero}
use Rattle.std.proofs.lemmas.Bool.{ltb-true, and_parts, not-true}
use Rattle.std.proofs.lemmas.List.Quantifiers.{position-Some}
use Rattle.std.proofs.lemmas.Option.{same_Some, none-some, slice_get-get_or}
use Rattle.std.proofs.lemmas.Slice.Eq.{bytes_eq-Decides}
use Rattle.jf_bytes.proofs.Options.{map_or_parts}
use Rattle.jf_bytes.proofs.Lists.{slice_get-after}
use Rattle.const_pool.specs.declared.class.ClassFile.{ClassFile}
use Rattle.const_pool.specs.BuiltIn.{built_in_names}
use Rattle.jvm_model.specs.declared.program.Program.{Program}
use Rattle.jvm_model.specs.Basis.Descriptors.{same_text}
use Rattle.jvm_model.specs.Classes.Kinds.{is_array_name}
use Rattle.jvm_model.specs.Classes.Load.{Need, class_needs}
use Rattle.jvm_model.specs.Basis.Programs.{class_at, class_named, has_built_in_name, has_name, name_of, no_class}
use Rattle.jvm_model.specs.Basis.SharedState.{built_in_from}
use Rattle.admit_check.proofs.FitNames.{IsOwnClass}
use Rattle.admit_check.proofs.FitPlaces.{AreOrdered, is_as_needed, is_before, is_first_at, is_named_at, stand_from, stands_at}
use Rattle.code_admission.proofs.Positions.{position-behind}

-- ---- tests

pub position-there : (test : ClassFile → Bool) (cs : List ClassFile) (k : ℕ) → position test cs ≡ Some k → (c : ClassFile) × (slice_get cs k ≡ Some c) × (test c ≡ true)
position-there test cs k e =
    let found = position-Some test cs k no_class e in
    (get_or cs k no_class, slice_get-get_or cs k no_class found.0, found.1)

-- ---- what stands at a place of the files

pub record IsNamedAt (files : List ClassFile) (at : ℕ) (c : ClassFile) : Type 0 where
  pub name : List ℕ
  pub named : name_of c ≡ Some name
  pub place : position (has_name name) files ≡ Some at
  pub plain : is_array_name name ≡ false
  pub built_in : has_built_in_name c ≡ true
  pub needs : list_all (is_before files at) (class_needs c) ≡ true

read-standing : (files : List ClassFile) (at : ℕ) (c : ClassFile) → stands_at files at c ≡ true → IsNamedAt files at c
read-standing files at c e =
    let parts = and_parts (is_named_at files at c) (list_all (is_before files at) (class_needs c)) e in
    let names = and_parts (has_built_in_name c) (option_map_or (λ name. is_first_at files at name && not (is_array_name name)) (name_of c) false) parts.0 in
    let found = map_or_parts (λ name. is_first_at files at name && not (is_array_name name)) (name_of c) names.1 in
    let tests = and_parts (is_first_at files at found.0) (not (is_array_name found.0)) found.2 in
    let place = map_or_parts (λ k. k == at) (position (has_name found.0) files) tests.0 in
    record {
      name = found.0;
      named = found.1;
      place = place.1 ∙ ap (λ k. let o : Option ℕ = Some k in o) (eqb-true place.0 at place.2);
      plain = not-true (is_array_name found.0) tests.1;
      built_in = names.0;
      needs = parts.1;
    }

standing-from : (files : List ClassFile) (at : ℕ) (rest : List ClassFile) (k : ℕ) (c : ClassFile) → stand_from files at rest ≡ true → slice_get rest k ≡ Some c → stands_at files (at + k) c ≡ true
standing-from files at [] k c e there = absurd (none-some c there)
standing-from files at (x ∷ rest) zero c e there =
    ap (λ n. stands_at files n c) (add-zero at) ∙ (ap (stands_at files at) (sym (same_Some x c there)) ∙ (and_parts (stands_at files at x) (stand_from files (at + 1) rest) e).0)
standing-from files at (x ∷ rest) (suc k) c e there =
    let n : at + suc k ≡ at + 1 + k = omega arith in
    ap (λ n. stands_at files n c) n ∙ standing-from files (at + 1) rest k c (and_parts (stands_at files at x) (stand_from files (at + 1) rest) e).1 there

pub stands : (files : List ClassFile) → AreOrdered files → (k : ℕ) (c : ClassFile) → slice_get files k ≡ Some c → IsNamedAt files k c
stands files ordered k c there =
    read-standing files k c (ap (λ n. stands_at files n c) (sym (zero-add k)) ∙ standing-from files 0 files k c ordered.standing there)

-- the name is a built-in class's
pub name-taken : (files : List ClassFile) → AreOrdered files → (name : List ℕ) (k : ℕ) → position (has_name name) files ≡ Some k → list_any (same_text name) built_in_names ≡ true
name-taken files ordered name k e =
    let there = position-there (has_name name) files k e in
    let standing = stands files ordered k there.0 there.1 in
    let equal : name ≡ standing.name = (bytes_eq-Decides name standing.name).0 (sym (ap (λ o. option_map_or (same_text name) o false) standing.named) ∙ there.2) in
    ap (λ n. list_any (same_text n) built_in_names) equal
    ∙ (sym (ap (λ o. option_map_or (λ n. list_any (same_text n) built_in_names) o false) standing.named) ∙ standing.built_in)

-- ---- what is needed

pub record IsNeeded (files : List ClassFile) (at : ℕ) (n : Need) : Type 0 where
  pub k : ℕ
  pub class : ClassFile
  pub place : position (has_name n.name) files ≡ Some k
  pub less : k < at
  pub there : slice_get files k ≡ Some class
  pub needed : is_as_needed n class ≡ true
  pub plain : is_array_name n.name ≡ false

pub read-needed : (files : List ClassFile) (at : ℕ) (n : Need) → is_before files at n ≡ true → IsNeeded files at n
read-needed files at n e =
    let parts = and_parts (not (is_array_name n.name)) (option_map_or (λ k. nat_lt k at && option_map_or (is_as_needed n) (slice_get files k) false) (position (has_name n.name) files) false) e in
    let found = map_or_parts (λ k. nat_lt k at && option_map_or (is_as_needed n) (slice_get files k) false) (position (has_name n.name) files) parts.1 in
    let tests = and_parts (nat_lt found.0 at) (option_map_or (is_as_needed n) (slice_get files found.0) false) found.2 in
    let class = map_or_parts (is_as_needed n) (slice_get files found.0) tests.1 in
    record {
      k = found.0;
      class = class.0;
      place = found.1;
      less = ltb-true found.0 at tests.0;
      there = class.1;
      needed = class.2;
      plain = not-true (is_array_name n.name) parts.0;
    }

-- ---- the classes in front

-- a name that is built in is none of theirs
other-name : (c : ClassFile) (name : List ℕ) → IsOwnClass c → list_any (same_text name) built_in_names ≡ true → has_name name c ≡ false
other-name c name own taken = by (name_of c) own.free where
  by : (o : Option (List ℕ)) → option_map_or (λ n. list_any (same_text n) built_in_names) o false ≡ false → option_map_or (same_text name) o false ≡ false
  by None free = refl
  by (Some found) free = by_test (same_text name found) refl where
    by_test : (b : Bool) → same_text name found ≡ b → b ≡ false
    by_test false e = refl
    by_test true e = absurd (
        let equal : name ≡ found = (bytes_eq-Decides name found).0 e in
        let no : true ≡ false = sym taken ∙ (ap (λ n. list_any (same_text n) built_in_names) equal ∙ free) in cc)

position-past : (classes files : List ClassFile) (name : List ℕ) (k : ℕ) → AllByRecursion IsOwnClass classes → list_any (same_text name) built_in_names ≡ true → position (has_name name) files ≡ Some k
    → position (has_name name) (classes ++ files) ≡ Some (length classes + k)
position-past [] files name k own taken e = e ∙ ap (λ n. let o : Option ℕ = Some n in o) (sym (zero-add k))
position-past (c ∷ classes) files name k own taken e =
    let n : suc (length classes + k) ≡ suc (length classes) + k = omega arith in
    position-behind (has_name name) c (classes ++ files) (length classes + k) (other-name c name own.0 taken) (position-past classes files name k own.1 taken e)
    ∙ ap (λ n. let o : Option ℕ = Some n in o) n

-- only the files are loaded before
pub built_in-past : (at : ℕ) (classes files : List ClassFile) → AllByRecursion IsOwnClass classes → built_in_from at (classes ++ files) ≡ built_in_from (at + length classes) files
built_in-past at [] files own = ap (λ n. built_in_from n files) (sym (add-zero at))
built_in-past at (c ∷ classes) files own =
    let n : at + 1 + length classes ≡ at + suc (length classes) = omega arith in
    ap (λ b. cond b (at ∷ built_in_from (at + 1) (classes ++ files)) (built_in_from (at + 1) (classes ++ files))) own.0.free
    ∙ (built_in-past (at + 1) classes files own.1 ∙ ap (λ n. built_in_from n files) n)

-- ---- the program

module _ (p : Program) (classes files : List ClassFile) (are : p.classes ≡ classes ++ files) (own : AllByRecursion IsOwnClass classes) (ordered : AreOrdered files) where
  abbrev n : ℕ
  n = length classes

  pub class-past : (k : ℕ) → class_at p (n + k) ≡ slice_get files k
  class-past k = ap (λ cs. slice_get cs (n + k)) are ∙ slice_get-after classes files k

  pub named-past : (name : List ℕ) (k : ℕ) → position (has_name name) files ≡ Some k → class_named p name ≡ Some (n + k)
  named-past name k e = ap (position (has_name name)) are ∙ position-past classes files name k own (name-taken files ordered name k e) e
