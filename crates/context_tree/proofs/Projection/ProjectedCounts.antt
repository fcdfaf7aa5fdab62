-- Lists of events as they grow, and contexts of the paths inside alone.
use Rattle.std.proofs.Common.{◌≡◌, ℕ, zero, suc, ◌-◌, ◌≤◌, Bool, true, false, not, cond, List, [], ◌∷◌, ◌++◌, map, filter, fold, replicate, count_by, ◌+◌, if◌then◌else◌, refl, sym, ap, ap₂, subst, ◌∙◌, inl, inr, arith}
use Rattle.std.specs.List.{AllByRecursion}
use Rattle.std.proofs.lemmas.Bool.{cond-true, cond-false, cases_Bool, both_ways}
use Rattle.std.proofs.lemmas.List.{append-nil, append_assoc}
use Rattle.std.proofs.lemmas.List.Sums.{sum_by-cons}
use Rattle.jvm_model.specs.declared.event.Event.{Event}
use Rattle.jvm_model.specs.Profiling.Paths.{same_path, is_inside, distinct, context_of, contexts_of}
use Rattle.jvm_model.proofs.Events.Chains.{is_inside-cons}
use Rattle.context_tree.specs.Counts.{path_after, opens, paths_opened, paths_stepped, AreInOrder}

-- ---- more events

abbrev pub open_after : List ℕ → List Event → List ℕ
open_after path events = fold path_after path events

-- these events all have this clock
abbrev pub AllAt : ℕ → List Event → Type 0
AllAt clock events = AllByRecursion (λ (e : Event). e.clock ≡ clock) events

pub open_after-append : (path : List ℕ) (xs ys : List Event) → open_after path (xs ++ ys) ≡ open_after (open_after path xs) ys
open_after-append path [] ys = refl
open_after-append path (e ∷ xs) ys = open_after-append (path_after path e) xs ys

chosen-append : {X : Type 0} (test : Bool) (x : X) (xs ys : List X) → (if test then x ∷ (xs ++ ys) else xs ++ ys) ≡ (if test then x ∷ xs else xs) ++ ys
chosen-append true x xs ys = refl
chosen-append false x xs ys = refl

pub paths_opened-append : (path : List ℕ) (xs ys : List Event) → paths_opened path (xs ++ ys) ≡ paths_opened path xs ++ paths_opened (open_after path xs) ys
paths_opened-append path [] ys = refl
paths_opened-append path (e ∷ xs) ys =
    ap (λ rest. if opens path e.kind then path_after path e ∷ rest else rest) (paths_opened-append (path_after path e) xs ys)
    ∙ chosen-append (opens path e.kind) (path_after path e) (paths_opened (path_after path e) xs) (paths_opened (open_after (path_after path e) xs) ys)

pub AreInOrder-later : (clock : ℕ) (events : List Event) (last : ℕ) → AreInOrder clock events last → AreInOrder clock events (suc last)
AreInOrder-later clock [] last in_order = omega arith
AreInOrder-later clock (e ∷ events) last in_order = (in_order.0, AreInOrder-later e.clock events last in_order.1)

at-in_order : (clock : ℕ) (events : List Event) (last : ℕ) → clock ≤ last → AllAt last events → AreInOrder clock events last
at-in_order clock [] last le all = le
at-in_order clock (e ∷ events) last le all = (omega (arith, all.0), at-in_order e.clock events last (omega (arith, all.0)) all.1)

pub AreInOrder-append : (clock : ℕ) (xs ys : List Event) (last : ℕ) → AreInOrder clock xs last → AllAt last ys → AreInOrder clock (xs ++ ys) last
AreInOrder-append clock [] ys last in_order all = at-in_order clock ys last in_order all
AreInOrder-append clock (e ∷ xs) ys last in_order all = (in_order.0, AreInOrder-append e.clock xs ys last in_order.1 all)

-- ---- the open paths of steps

-- the events of the last step itself change nothing of the steps up to it
pub stepped-at : (path : List ℕ) (clock : ℕ) (events : List Event) (last : ℕ) → AllAt last events → paths_stepped path clock events last ≡ replicate (last - clock) path
stepped-at path clock [] last all = refl
stepped-at path clock (e ∷ events) last all =
    let none : last - e.clock ≡ 0 = omega (arith, all.0) in
    ap₂ ◌++◌ (ap (λ k. replicate (k - clock) path) all.0) (stepped-at (path_after path e) e.clock events last all.1 ∙ ap (λ k. replicate k (path_after path e)) none)
    ∙ append-nil (replicate (last - clock) path)

pub stepped-same : (path : List ℕ) (clock : ℕ) (xs ys : List Event) (last : ℕ) → AllAt last ys → paths_stepped path clock (xs ++ ys) last ≡ paths_stepped path clock xs last
stepped-same path clock [] ys last all = stepped-at path clock ys last all
stepped-same path clock (e ∷ xs) ys last all = ap (λ rest. replicate (e.clock - clock) path ++ rest) (stepped-same (path_after path e) e.clock xs ys last all)

one_more : {X : Type 0} (n : ℕ) (x : X) → replicate (suc n) x ≡ replicate n x ++ x ∷ []
one_more zero x = refl
one_more (suc n) x = ap (λ rest. x ∷ rest) (one_more n x)

-- one step more is made in the path that is open after all events
pub stepped-more : (path : List ℕ) (clock : ℕ) (events : List Event) (last : ℕ) → AreInOrder clock events last
    → paths_stepped path clock events (suc last) ≡ paths_stepped path clock events last ++ open_after path events ∷ []
stepped-more path clock [] last in_order =
    let more : suc last - clock ≡ suc (last - clock) = omega arith in
    ap (λ k. replicate k path) more ∙ one_more (last - clock) path
stepped-more path clock (e ∷ events) last in_order =
    ap (λ rest. replicate (e.clock - clock) path ++ rest) (stepped-more (path_after path e) e.clock events last in_order.1)
    ∙ sym (append_assoc (replicate (e.clock - clock) path) (paths_stepped (path_after path e) e.clock events last) (open_after path (e ∷ events) ∷ []))

-- ---- the paths inside alone

all_pass : {X : Type 0} (test : X → Bool) (xs : List X) → AllByRecursion (λ x. test x ≡ true) (filter test xs)
all_pass test [] = tt
all_pass test (x ∷ xs) = elim (cases_Bool (test x)) [
  | inl passes ↦ subst (AllByRecursion (λ y. test y ≡ true)) (sym (cond-true (test x) (x ∷ filter test xs) (filter test xs) passes)) (passes, all_pass test xs)
  | inr fails ↦ subst (AllByRecursion (λ y. test y ≡ true)) (sym (cond-false (test x) (x ∷ filter test xs) (filter test xs) fails)) (all_pass test xs)
]

filter-keeps : {X : Type 0} (P : X → Type 0) (test : X → Bool) (xs : List X) → AllByRecursion P xs → AllByRecursion P (filter test xs)
filter-keeps P test [] all = tt
filter-keeps P test (x ∷ xs) all = elim (cases_Bool (test x)) [
  | inl passes ↦ subst (AllByRecursion P) (sym (cond-true (test x) (x ∷ filter test xs) (filter test xs) passes)) (all.0, filter-keeps P test xs all.1)
  | inr fails ↦ subst (AllByRecursion P) (sym (cond-false (test x) (x ∷ filter test xs) (filter test xs) fails)) (filter-keeps P test xs all.1)
]

filter-all : {X : Type 0} (test : X → Bool) (xs : List X) → AllByRecursion (λ x. test x ≡ true) xs → filter test xs ≡ xs
filter-all test [] all = refl
filter-all test (x ∷ xs) all = cond-true (test x) (x ∷ filter test xs) (filter test xs) all.0 ∙ ap (λ rest. x ∷ rest) (filter-all test xs all.1)

distinct-keeps : (P : List ℕ → Type 0) (paths : List (List ℕ)) → AllByRecursion P paths → AllByRecursion P (distinct paths)
distinct-keeps P [] all = tt
distinct-keeps P (path ∷ paths) all = (all.0, filter-keeps P (λ q. not (same_path path q)) (distinct paths) (distinct-keeps P paths all.1))

-- a path inside is no path outside
apart : (path q : List ℕ) → is_inside path ≡ true → is_inside q ≡ false → same_path path q ≡ false
apart [] q inside outside = absurd (both_ways (is_inside []) refl inside)
apart (m ∷ path) [] inside outside = refl
apart (m ∷ path) (n ∷ q) inside outside = absurd (both_ways (is_inside (n ∷ q)) outside (is_inside-cons n q))

-- 1 for a path that is the same
abbrev once : List ℕ → List ℕ → ℕ
once path q = cond (same_path path q) 1 0

count-inside : (path : List ℕ) (begun : List (List ℕ)) → is_inside path ≡ true → count_by (same_path path) (filter is_inside begun) ≡ count_by (same_path path) begun
count-inside path [] inside = refl
count-inside path (q ∷ begun) inside = elim (cases_Bool (is_inside q)) [
  | inl within ↦ ap (count_by (same_path path)) (cond-true (is_inside q) (q ∷ filter is_inside begun) (filter is_inside begun) within)
      ∙ (sum_by-cons (once path) q (filter is_inside begun) ∙ (ap (λ n. once path q + n) (count-inside path begun inside) ∙ sym (sum_by-cons (once path) q begun)))
  | inr without ↦
      let nothing : once path q ≡ 0 = cond-false (same_path path q) 1 0 (apart path q inside without) in
      ap (count_by (same_path path)) (cond-false (is_inside q) (q ∷ filter is_inside begun) (filter is_inside begun) without)
      ∙ (count-inside path begun inside ∙ (omega (arith, nothing, sum_by-cons (once path) q begun)))
]

map-same : {X Y : Type 0} (f g : X → Y) (P : X → Type 0) → ((x : X) → P x → f x ≡ g x) → (xs : List X) → AllByRecursion P xs → map f xs ≡ map g xs
map-same f g P same [] all = refl
map-same f g P same (x ∷ xs) all = ap₂ ◌∷◌ (same x all.0) (map-same f g P same xs all.1)

-- Paths outside make no context, and count in none.
pub contexts_of-inside : (begun made : List (List ℕ)) → contexts_of (filter is_inside begun) made ≡ contexts_of begun made
contexts_of-inside begun made =
    let inside = all_pass is_inside begun in
    ap (λ paths. map (context_of (filter is_inside begun) made) (distinct paths)) (filter-all is_inside (filter is_inside begun) inside)
    ∙ map-same (context_of (filter is_inside begun) made) (context_of begun made) (λ path. is_inside path ≡ true)
    (λ path within. ap (λ n. record { path = path; calls = n; own = count_by (same_path path) made }) (count-inside path begun within))
    (distinct (filter is_inside begun)) (distinct-keeps (λ path. is_inside path ≡ true) (filter is_inside begun) inside)
