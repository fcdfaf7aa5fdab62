-- An admitted program is fit: its names are found, and its built-in classes are loaded with what they need.
use Rattle.std.proofs.Common.{◌≡◌, ℕ, zero, suc, ◌+◌, ◌-◌, ◌<◌, ◌≤◌, ◌⊎◌, inl, inr, Bool, true, false, List, [], ◌∷◌, ◌++◌, length, map, position, slice_get, cond, Option, Some, None, refl, sym, ap, subst, ◌∙◌, zero-add, eqb-true, arith}
use Rattle.std.specs.Prelude.{filter_map, is_some, nat_lt, ◌&&◌, ◌||◌, ◌==◌}
use Rattle.std.specs.List.{AllByRecursion, cons_option, list_all}
use Rattle.std.specs.Option.{option_and_then, option_map_or, option_to_list}
use Rattle.std.proofs.Math.Nat.{add-zero}
use Rattle.std.proofs.lemmas.Bool.{and_parts, eq-eqb, ltb-true, or_cases}
use Rattle.std.proofs.lemmas.List.{length-append}
use Rattle.std.proofs.lemmas.Option.{same_Some, none-some, option_and_then_some}
use Rattle.jf_bytes.proofs.Lists.{each_at}
use Rattle.jf_bytes.proofs.Options.{map_or_parts}
use Rattle.const_pool.specs.declared.class.ClassFile.{ClassFile}
use Rattle.const_pool.specs.BuiltIn.{built_in_names}
use Rattle.const_pool.specs.References.{named_class}
use Rattle.base_classes.specs.BuiltInFiles.{built_in_files}
use Rattle.jvm_model.specs.declared.program.MethodPlace.{MethodPlace}
use Rattle.jvm_model.specs.declared.program.Program.{Program}
use Rattle.jvm_model.specs.Basis.Descriptors.{same_text}
use Rattle.jvm_model.specs.Basis.KindNumbers.{user_count}
use Rattle.jvm_model.specs.Classes.Load.{Need, is_among, need}
use Rattle.jvm_model.specs.Classes.Lookup.{interface_names, interfaces_of, superclass_of}
use Rattle.jvm_model.specs.Basis.Programs.{class_at, class_named, has_built_in_name, has_name, name_at, name_of, number_from, number_of_method, same_place}
use Rattle.jvm_model.specs.Running.Run.{main_class}
use Rattle.jvm_model.specs.Basis.SharedState.{built_in_from, shared_before}
use Rattle.jvm_model.specs.Soundness.Sound.{HasBuiltIn, HasPlainName, IsBuiltIn, IsFit, IsLoaded}
use Rattle.admit_check.specs.Admission.{classes_fault}
use Rattle.jvm_model.specs.Soundness.SoundPrograms.{declared_main, main_in, main_of_class}
use Rattle.admit_check.proofs.BuiltInNames.{files-built_in}
use Rattle.admit_check.proofs.FitNames.{IsOwnClass, own-classes, own-place}
use Rattle.admit_check.proofs.FitPlaces.{files-ordered, is_before}
use Rattle.admit_check.proofs.FitFiles

-- ---- lists

-- an element of the first list, or one of the second
record IsPast (at front : ℕ) (files : List ClassFile) (c : ClassFile) : Type 0 where
  k : ℕ
  place : at ≡ front + k
  there : slice_get files k ≡ Some c

either : (classes files : List ClassFile) (at : ℕ) (c : ClassFile) → slice_get (classes ++ files) at ≡ Some c → (slice_get classes at ≡ Some c) ⊎ IsPast at (length classes) files c
either [] files at c e = inr (record { k = at; place = sym (zero-add at); there = e })
either (x ∷ classes) files zero c e = inl e
either (x ∷ classes) files (suc at) c e = elim (either classes files at c e) [
  | inl own ↦ inl own
  | inr past ↦ (let place = past.place in inr (record { k = past.k; place = omega (arith, place); there = past.there }))
]

nth-there : {A : Type 0} (xs : List A) (k : ℕ) → k < length xs → (x : A) × (slice_get xs k ≡ Some x)
nth-there [] k less = absurd (omega (arith, less))
nth-there (x ∷ xs) zero less = (x, refl)
nth-there (x ∷ xs) (suc k) less = nth-there xs k (omega (arith, less))

append-front : (classes files : List ClassFile) (at : ℕ) → at < length classes → slice_get (classes ++ files) at ≡ slice_get classes at
append-front [] files at less = absurd (omega (arith, less))
append-front (x ∷ classes) files zero less = refl
append-front (x ∷ classes) files (suc at) less = append-front classes files at (omega (arith, less))

-- ---- which classes are loaded before

from-there : (at : ℕ) (files : List ClassFile) (k : ℕ) → AllByRecursion (λ c. has_built_in_name c ≡ true) files → k < length files → is_among (at + k) (built_in_from at files) ≡ true
from-there at [] k all less = absurd (omega (arith, less))
from-there at (c ∷ files) zero all less =
    let same : (at + 0 == at) ≡ true = eq-eqb (at + 0) at (add-zero at) in
    ap (λ b. is_among (at + 0) (cond b (at ∷ built_in_from (at + 1) files) (built_in_from (at + 1) files))) all.0
    ∙ ap (λ b. b || is_among (at + 0) (built_in_from (at + 1) files)) same
from-there at (c ∷ files) (suc k) all less =
    let n : at + suc k ≡ at + 1 + k = omega arith in
    ap (λ b. is_among (at + suc k) (cond b (at ∷ built_in_from (at + 1) files) (built_in_from (at + 1) files))) all.0
    ∙ behind (at + suc k == at) (ap (λ n. is_among n (built_in_from (at + 1) files)) n ∙ from-there (at + 1) files k all.1 (omega (arith, less)))
  where
    behind : (b : Bool) → is_among (at + suc k) (built_in_from (at + 1) files) ≡ true → (b || is_among (at + suc k) (built_in_from (at + 1) files)) ≡ true
    behind true e = refl
    behind false e = e

record IsFrom (at class : ℕ) (files : List ClassFile) : Type 0 where
  k : ℕ
  place : class ≡ at + k
  less : k < length files

among-from : (at class : ℕ) (files : List ClassFile) → AllByRecursion (λ c. has_built_in_name c ≡ true) files → is_among class (built_in_from at files) ≡ true → IsFrom at class files
among-from at class [] all e = absurd cc
among-from at class (c ∷ files) all e =
    let here = sym (ap (λ b. is_among class (cond b (at ∷ built_in_from (at + 1) files) (built_in_from (at + 1) files))) all.0) ∙ e in
    elim (or_cases (class == at) (is_among class (built_in_from (at + 1) files)) here) [
      | inl same ↦ (let equal : class ≡ at = eqb-true class at same in record { k = 0; place = omega (arith, equal); less = omega arith })
      | inr more ↦ (let rest = among-from (at + 1) class files all.1 more in let place = rest.place in let less = rest.less in record { k = suc rest.k; place = omega (arith, place); less = omega (arith, less) })
    ]

-- ---- the number of a method tells its class

record HasPlace (class : ℕ) (places : List MethodPlace) (k : ℕ) : Type 0 where
  place : MethodPlace
  there : slice_get places k ≡ Some place
  of_class : place.class ≡ class

number-past : (n class at : ℕ) (places : List MethodPlace) (k : ℕ) → number_from n class at places ≡ Some k → n ≤ k
number-past n class at [] k e = absurd (none-some k e)
number-past n class at (x ∷ places) k e = by (same_place class at x) (number-past (n + 1) class at places k) e where
  by : (b : Bool) → (number_from (n + 1) class at places ≡ Some k → n + 1 ≤ k) → cond b (Some n) (number_from (n + 1) class at places) ≡ Some k → n ≤ k
  by true more e = let equal = same_Some n k e in omega (arith, equal)
  by false more e = let less = more e in omega (arith, less)

number-place : (n class at : ℕ) (places : List MethodPlace) (k j : ℕ) → number_from n class at places ≡ Some k → k ≡ n + j → HasPlace class places j
number-place n class at [] k j e is = absurd (none-some k e)
number-place n class at (x ∷ places) k zero e is = by (same_place class at x) refl e where
  by : (b : Bool) → same_place class at x ≡ b → cond b (Some n) (number_from (n + 1) class at places) ≡ Some k → HasPlace class (x ∷ places) zero
  by true same e = record { place = x; there = refl; of_class = eqb-true x.class class (and_parts (x.class == class) (x.position == at) same).0 }
  by false other e = absurd (let less = number-past (n + 1) class at places k e in omega (arith, less, is))
number-place n class at (x ∷ places) k (suc j) e is = by (same_place class at x) (λ e. number-place (n + 1) class at places k j e (omega (arith, is))) e where
  by : (b : Bool) → (number_from (n + 1) class at places ≡ Some k → HasPlace class places j) → cond b (Some n) (number_from (n + 1) class at places) ≡ Some k → HasPlace class (x ∷ places) (suc j)
  by true rest e = absurd (let equal = same_Some n k e in omega (arith, equal, is))
  by false rest e = let found = rest e in record { place = found.place; there = found.there; of_class = found.of_class }

-- ---- names

each-built : (files : List ClassFile) (names : List (List ℕ)) (p : Program) → ((name : List ℕ) (k : ℕ) → position (has_name name) files ≡ Some k → IsBuiltIn p name)
    → list_all (λ name. is_some (position (has_name name) files)) names ≡ true → AllByRecursion (IsBuiltIn p) names
each-built files [] p found e = tt
each-built files (name ∷ names) p found e =
    let parts = and_parts (is_some (position (has_name name) files)) (list_all (λ name. is_some (position (has_name name) files)) names) e in
    (by (position (has_name name) files) refl parts.0, each-built files names p found parts.1)
  where
    by : (o : Option ℕ) → position (has_name name) files ≡ o → is_some o ≡ true → IsBuiltIn p name
    by None is e = absurd cc
    by (Some k) is e = found name k is

needs-split : {A : Type 0} (test : A → Bool) (xs ys : List A) → list_all test (xs ++ ys) ≡ true → (list_all test xs ≡ true) × (list_all test ys ≡ true)
needs-split test [] ys e = (refl, e)
needs-split test (x ∷ xs) ys e =
    let parts = and_parts (test x) (list_all test (xs ++ ys)) e in
    let more = needs-split test xs ys parts.1 in
    (ap (λ b. b && list_all test xs) parts.0 ∙ more.0, more.1)

-- ---- a sound program

abbrev built_in_all : AllByRecursion (λ c. has_built_in_name c ≡ true) built_in_files
built_in_all = files-built_in

module _ (classes : List ClassFile) (name : List ℕ) (p : Program) (fine : classes_fault [] classes ≡ None) (are : p.classes ≡ classes ++ built_in_files)
    (main_is : main_in p (length classes) name ≡ Some p.main) (few : length classes ≤ 4096) where
  abbrev n : ℕ
  n = length classes

  own : AllByRecursion IsOwnClass classes
  own = own-classes [] classes fine

  count : length p.classes ≡ n + 53
  count = ap length are ∙ (length-append classes built_in_files ∙ ap (λ k. n + k) files-ordered.count)

  more : length p.classes ≡ suc (n + 52)
  more = count ∙ (let e : n + 53 ≡ suc (n + 52) = omega arith in e)

  users : user_count p ≡ n
  users = ap (λ k. k - length built_in_names) count ∙ (let e : n + 53 - 53 ≡ n = omega arith in e)

  class-past : (k : ℕ) → class_at p (n + k) ≡ slice_get built_in_files k
  class-past k = FitFiles.class-past p classes built_in_files are own files-ordered k

  named-past : (wanted : List ℕ) (k : ℕ) → position (has_name wanted) built_in_files ≡ Some k → class_named p wanted ≡ Some (n + k)
  named-past wanted k e = FitFiles.named-past p classes built_in_files are own files-ordered wanted k e

  before : (shared_before p).loaded ≡ built_in_from n built_in_files
  before =
      ap (built_in_from 0) are
      ∙ (FitFiles.built_in-past 0 classes built_in_files own ∙ ap (λ k. built_in_from k built_in_files) (zero-add n))

  -- a built-in class is loaded before
  loaded-past : (k : ℕ) → k < 53 → is_among (n + k) (shared_before p).loaded ≡ true
  loaded-past k less =
      let files = files-ordered.count in
      ap (is_among (n + k)) before ∙ from-there n built_in_files k built_in_all (omega (arith, less, files))

  -- ---- names

  by-class : (class : ℕ) (wanted : List ℕ) (c : ClassFile) → name_of c ≡ Some wanted → slice_get (classes ++ built_in_files) class ≡ Some c → class_named p wanted ≡ Some class
  by-class class wanted c named there = elim (either classes built_in_files class c there) [
    | inl here ↦ ap (position (has_name wanted)) are ∙ own-place classes built_in_files class c wanted fine here named
    | inr past ↦ (
        let standing = FitFiles.stands built_in_files files-ordered past.k c past.there in
        let same : standing.name ≡ wanted = same_Some standing.name wanted (sym standing.named ∙ named) in
        named-past wanted past.k (ap (λ x. position (has_name x) built_in_files) (sym same) ∙ standing.place)
        ∙ ap (λ k. let o : Option ℕ = Some k in o) (sym past.place))
  ]

  names : (class : ℕ) (wanted : List ℕ) → name_at p class ≡ Some wanted → class_named p wanted ≡ Some class
  names class wanted e =
      option_and_then_some name_of (class_at p class) wanted e
      (λ c there named. by-class class wanted c named (sym (ap (λ cs. slice_get cs class) are) ∙ there))

  -- ---- the main class

  main-number : (class : ℕ) → main_of_class p class ≡ Some p.main → main_class p ≡ class
  main-number class e =
      option_and_then_some (λ c. option_and_then (number_of_method p class) (declared_main c)) (class_at p class) p.main e (λ c there rest. (
      option_and_then_some (number_of_method p class) (declared_main c) p.main rest (λ at declared numbered. (
      let place = number-place 0 class at p.methods p.main p.main numbered (sym (zero-add p.main)) in
      ap (λ (o : Option MethodPlace). option_map_or (λ (x : MethodPlace). x.class) o 0) place.there ∙ place.of_class))))

  plain-at : (class : ℕ) → class_named p name ≡ Some class → class < n → HasPlainName p class
  plain-at class named less =
      let found = FitFiles.position-there (has_name name) (classes ++ built_in_files) class (sym (ap (position (has_name name)) are) ∙ named) in
      let own_name = map_or_parts (same_text name) (name_of found.0) found.2 in
      let here : slice_get classes class ≡ Some found.0 = sym (append-front classes built_in_files class less) ∙ found.1 in
      record {
        name = own_name.0;
        named = ap (option_and_then name_of) (ap (λ cs. slice_get cs class) are ∙ found.1) ∙ own_name.1;
        plain = (each_at IsOwnClass classes class found.0 own here).plain own_name.0 own_name.1;
      }

  main-found : (class : ℕ) → class_named p name ≡ Some class → cond (nat_lt class n) (main_of_class p class) None ≡ Some p.main → HasPlainName p (main_class p)
  main-found class named e = by (nat_lt class n) refl e where
    by : (b : Bool) → nat_lt class n ≡ b → cond b (main_of_class p class) None ≡ Some p.main → HasPlainName p (main_class p)
    by false less e = absurd (none-some p.main e)
    by true less e = subst (HasPlainName p) (sym (main-number class e)) (plain-at class named (ltb-true class n less))

  main : HasPlainName p (main_class p)
  main = option_and_then_some (λ class. cond (nat_lt class n) (main_of_class p class) None) (class_named p name) p.main main_is (λ class named e. main-found class named e)

  -- ---- the built-in classes

  built : AllByRecursion (IsBuiltIn p) built_in_names
  built =
      each-built built_in_files built_in_names p
      (λ wanted k e. record { class = n + k; found = named-past wanted k e; behind = (let u = users in omega (arith, u)) }) files-ordered.names

  each-built_in : (class : ℕ) → user_count p ≤ class → class < length p.classes → IsLoaded (shared_before p).loaded class
  each-built_in class from below =
      let u = users in
      let c = count in
      let place : n + (class - n) ≡ class = omega (arith, from, u) in
      ap (λ k. is_among k (shared_before p).loaded) (sym place) ∙ loaded-past (class - n) (omega (arith, from, below, u, c))

  has-built : HasBuiltIn p (shared_before p).loaded
  has-built = record {
    whole = (let c = count in omega (arith, c));
    each = each-built_in;
  }

  -- what such a class needs is loaded
  needed-loaded : (at : ℕ) (x : Need) → at ≤ 53 → is_before built_in_files at x ≡ true → (class : ℕ) × (class_named p x.name ≡ Some class) × (IsLoaded (shared_before p).loaded class)
  needed-loaded at x few e =
      let needed = FitFiles.read-needed built_in_files at x e in
      let less = needed.less in
      (n + needed.k, named-past x.name needed.k needed.place, loaded-past needed.k (omega (arith, less, few)))

  supers : (at : ℕ) (o : Option (List ℕ)) → at ≤ 53 → list_all (is_before built_in_files at) (map (need false) (option_to_list o)) ≡ true
      → AllByRecursion (IsLoaded (shared_before p).loaded) (option_to_list (option_and_then (class_named p) o))
  supers at None few e = tt
  supers at (Some above) few e =
      let needed = needed-loaded at (need false above) few (and_parts (is_before built_in_files at (need false above)) true e).0 in
      subst (λ o. AllByRecursion (IsLoaded (shared_before p).loaded) (option_to_list o)) (sym needed.1) (needed.2, tt)

  interfaces : (at : ℕ) (ns : List (List ℕ)) → at ≤ 53 → list_all (is_before built_in_files at) (map (need true) ns) ≡ true
      → AllByRecursion (IsLoaded (shared_before p).loaded) (filter_map (class_named p) ns)
  interfaces at [] few e = tt
  interfaces at (x ∷ ns) few e =
      let parts = and_parts (is_before built_in_files at (need true x)) (list_all (is_before built_in_files at) (map (need true) ns)) e in
      let needed = needed-loaded at (need true x) few parts.0 in
      by (class_named p x) needed.1 needed.2 (interfaces at ns few parts.1)
    where
      by : {class : ℕ} (o : Option ℕ) → o ≡ Some class → IsLoaded (shared_before p).loaded class → AllByRecursion (IsLoaded (shared_before p).loaded) (filter_map (class_named p) ns)
          → AllByRecursion (IsLoaded (shared_before p).loaded) (cons_option o (filter_map (class_named p) ns))
      by {class} None is loaded rest = absurd (none-some class is)
      by {class} (Some found) is loaded rest = (subst (IsLoaded (shared_before p).loaded) (sym (same_Some found class is)) loaded, rest)

  -- a class that is loaded before is a built-in one
  above-past : (k : ℕ) (c : ClassFile) → slice_get built_in_files k ≡ Some c → k < 53
      → (AllByRecursion (IsLoaded (shared_before p).loaded) (superclass_of p (n + k))) × (AllByRecursion (IsLoaded (shared_before p).loaded) (interfaces_of p (n + k)))
  above-past k c there less =
      let here : class_at p (n + k) ≡ Some c = class-past k ∙ there in
      let needs = needs-split (is_before built_in_files k) (map (need false) (option_to_list (named_class c.pool c.super_class))) (map (need true) (interface_names c))
      (FitFiles.stands built_in_files files-ordered k c there).needs in (
        subst (λ o. AllByRecursion (IsLoaded (shared_before p).loaded) (option_to_list (option_and_then (class_named p) (option_and_then (λ (c : ClassFile). named_class c.pool c.super_class) o)))) (sym here)
            (supers k (named_class c.pool c.super_class) (omega (arith, less)) needs.0),
        subst (λ o. AllByRecursion (IsLoaded (shared_before p).loaded) (filter_map (class_named p) (option_map_or interface_names o []))) (sym here)
            (interfaces k (interface_names c) (omega (arith, less)) needs.1),
      )

  above-loaded : (class : ℕ) → IsLoaded (shared_before p).loaded class
      → (AllByRecursion (IsLoaded (shared_before p).loaded) (superclass_of p class)) × (AllByRecursion (IsLoaded (shared_before p).loaded) (interfaces_of p class))
  above-loaded class loaded =
      let from = among-from n class built_in_files built_in_all (sym (ap (is_among class) before) ∙ loaded) in
      let files = files-ordered.count in
      let less = from.less in
      let there = nth-there built_in_files from.k less in
      subst (λ k. (AllByRecursion (IsLoaded (shared_before p).loaded) (superclass_of p k)) × (AllByRecursion (IsLoaded (shared_before p).loaded) (interfaces_of p k))) (sym from.place)
      (above-past from.k there.0 there.1 (omega (arith, less, files)))

  pub fit : IsFit p
  fit = record {
    few = (let c = count in omega (arith, few, c));
    names = names;
    main = main;
    built_in = built;
    before = has-built;
    above = record { superclass = λ class loaded. (above-loaded class loaded).0; interfaces = λ class loaded. (above-loaded class loaded).1 };
  }
