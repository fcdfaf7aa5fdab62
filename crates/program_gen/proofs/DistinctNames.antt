-- The names of a generated program's classes differ from one another and from those that none may have.
use Rattle.std.proofs.Common.{◌≡◌, ◌≢◌, ℕ, zero, suc, ◌<◌, ◌≤◌, Bool, true, not, List, [], ◌∷◌, ◌++◌, drop, get_or, refl, ap, sym, ◌∙◌, subst, arith, inl, inr}
use Rattle.std.specs.Prelude.{◌&&◌, ◌==◌, codes}
use Rattle.std.specs.Fmt.{decimal, digits}
use Rattle.std.specs.List.{AllByRecursion, list_all}
use Rattle.std.specs.Str.{bytes_eq}
use Rattle.std.proofs.lemmas.Bool.{and_parts, eqb-true, cases_lt}
use Rattle.std.proofs.lemmas.Fmt.{decimal_injective}
use Rattle.std.proofs.lemmas.List.{map-append}
use Rattle.std.proofs.lemmas.Slice.Eq.{bytes_eq-Decides}
use Rattle.jf_bytes.proofs.Lists.{each_push}
use Rattle.const_pool.specs.BuiltIn.{probe_class, built_in_names}
use Rattle.program_gen.specs.declared.rows.ClassRow.{ClassRow}
use Rattle.program_gen.specs.Draws.{choices_of}
use Rattle.program_gen.specs.Generated.{AreDistinct, HaveOwnNames, IsOwnName, names_of}
use Rattle.program_gen.specs.Names.{class_text}
use Rattle.program_gen.specs.Programs.{numbered_row, rows_below, program_rows}

abbrev gen : ℕ → List ℕ
gen n = codes "Gen" ++ decimal n

abbrev gens : ℕ → List (List ℕ)
gens zero = []
gens (suc n) = gens n ++ gen n ∷ []

names-below : (seed size n : ℕ) → names_of (rows_below seed size n) ≡ gens n
names-below seed size zero = refl
names-below seed size (suc n) =
    map-append (λ (row : ClassRow). class_text row.name) (rows_below seed size n) (numbered_row n (choices_of seed size n) ∷ [])
    ∙ ap (λ (names : List (List ℕ)). names ++ gen n ∷ []) (names-below seed size n)

-- ---- they differ

gen-differs : (i k : ℕ) → i < k → k < 200 → gen i ≢ gen k
gen-differs i k less few e =
    let numbers : decimal i ≡ decimal k = ap (drop 3) e in
    let same : i ≡ k = decimal_injective i k (omega arith) (omega arith) numbers in
    omega arith

gens-differ : (n k : ℕ) → n ≤ k → k < 200 → AllByRecursion (λ other. other ≢ gen k) (gens n)
gens-differ zero k le few = tt
gens-differ (suc n) k le few = each_push (λ other. other ≢ gen k) (gens n) (gen n) (gens-differ n k (omega arith) few) (gen-differs n k (omega arith) few)

distinct-push : (names : List (List ℕ)) (name : List ℕ) → AreDistinct names → AllByRecursion (λ other. other ≢ name) names → AreDistinct (names ++ name ∷ [])
distinct-push [] name d h = (tt, tt)
distinct-push (x ∷ names) name d h = (each_push (λ other. x ≢ other) names name d.0 h.0, distinct-push names name d.1 h.1)

gens-distinct : (n : ℕ) → n ≤ 200 → AreDistinct (gens n)
gens-distinct zero few = tt
gens-distinct (suc n) few = distinct-push (gens n) (gen n) (gens-distinct n (omega arith)) (gens-differ n n (omega arith) (omega arith))

-- no number is written as Main
abbrev are_unlike : ℕ → Bool
are_unlike zero = true
are_unlike (suc n) = not (bytes_eq (codes "Main") (decimal n)) && are_unlike n

all-unlike : are_unlike 200 ≡ true
unfolding digits
all-unlike = refl

main-unlike : (n : ℕ) → n ≤ 200 → are_unlike n ≡ true → AllByRecursion (λ other. codes "GenMain" ≢ other) (gens n)
main-unlike zero few h = tt
main-unlike (suc n) few h =
    let parts = and_parts (not (bytes_eq (codes "Main") (decimal n))) (are_unlike n) h in
    each_push (λ other. codes "GenMain" ≢ other) (gens n) (gen n) (main-unlike n (omega arith) parts.1) (λ e. differs parts.0 (ap (drop 3) e))
  where
    differs : not (bytes_eq (codes "Main") (decimal n)) ≡ true → codes "Main" ≡ decimal n → ⊥
    differs h e = let same = (bytes_eq-Decides (codes "Main") (decimal n)).1 e in cc

unlike-below : (n m : ℕ) → are_unlike m ≡ true → n ≤ m → are_unlike n ≡ true
unlike-below n zero h le = let none : 0 ≡ n = omega arith in subst (λ k. are_unlike k ≡ true) none refl
unlike-below n (suc m) h le = elim (cases_lt n (suc m)) [
  | inl lt ↦ unlike-below n m (and_parts (not (bytes_eq (codes "Main") (decimal m))) (are_unlike m) h).1 (omega arith)
  | inr ge ↦ let same : suc m ≡ n = omega arith in subst (λ k. are_unlike k ≡ true) same h
]

-- ---- none is taken

-- the taken names begin with a j
abbrev begins_with_j : List ℕ → Bool
begins_with_j name = get_or name 0 0 == 106

all-begin : list_all begins_with_j (probe_class ∷ built_in_names) ≡ true
all-begin = refl

is-own : (name : List ℕ) → get_or name 0 0 ≡ 71 → (taken : List (List ℕ)) → list_all begins_with_j taken ≡ true → AllByRecursion (λ other. name ≢ other) taken
is-own name first [] h = tt
is-own name first (t ∷ taken) h =
    let parts = and_parts (begins_with_j t) (list_all begins_with_j taken) h in
    (λ e. differs e (eqb-true (get_or t 0 0) 106 parts.0), is-own name first taken parts.1)
  where
    differs : name ≡ t → get_or t 0 0 ≡ 106 → ⊥
    differs e begins = let same = ap (λ (x : List ℕ). get_or x 0 0) e in omega arith

gens-own : (n : ℕ) → AllByRecursion IsOwnName (gens n)
gens-own zero = tt
gens-own (suc n) = each_push IsOwnName (gens n) (gen n) (gens-own n) (is-own (gen n) refl (probe_class ∷ built_in_names) all-begin)

pub own-names : (seed size : ℕ) → size ≤ 200 → HaveOwnNames (program_rows seed size)
own-names seed size most = record {
  distinct = (
    subst (AllByRecursion (λ other. codes "GenMain" ≢ other)) (sym (names-below seed size size)) (main-unlike size most (unlike-below size 200 all-unlike most)),
    subst AreDistinct (sym (names-below seed size size)) (gens-distinct size most),
  );
  own = (is-own (codes "GenMain") refl (probe_class ∷ built_in_names) all-begin, subst (AllByRecursion IsOwnName) (sym (names-below seed size size)) (gens-own size));
}
