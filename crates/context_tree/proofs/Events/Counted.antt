-- What one more entry and some more steps do to contexts that are counted from lists of paths.
use Rattle.std.proofs.Common.{◌≡◌, ℕ, ◌+◌, ◌*◌, Bool, true, false, not, ◌||◌, List, [], ◌∷◌, ◌++◌, refl, ap, sym, ◌∙◌, map, filter, count_by, cond, replicate, if◌then◌else◌, arith}
use Rattle.std.specs.List.{list_any}
use Rattle.std.proofs.lemmas.Bool.{or_parts, true≢false}
use Rattle.std.proofs.lemmas.List.{map-append}
use Rattle.std.proofs.lemmas.List.Elements.{filter-append}
use Rattle.std.proofs.lemmas.List.Folds.{sum_by-replicate}
use Rattle.std.proofs.lemmas.List.Sums.{sum_by_push, sum_by-cons, sum_by-append}
use Rattle.jvm_model.specs.Profiling.Paths.{Context, same_path, is_outside, is_inside, distinct, context_of, contexts_of}
use Rattle.context_tree.specs.Profiles.{has_path, with_own, with_call, call_begun}
use Rattle.context_tree.proofs.Paths.SamePaths.{same_path-is, same_path-refl, same_path-sym}
use Rattle.context_tree.proofs.Paths.Distinct.{list_any-distinct, distinct-push}

-- ---- steps

pub count_by-replicate : (q path : List ℕ) (n : ℕ) → count_by (same_path q) (replicate n path) ≡ (if same_path q path then n else 0)
count_by-replicate q path n = sum_by-replicate (λ x. cond (same_path q x) 1 0) n path ∙ by (same_path q path)
  where
    by : (b : Bool) → n * cond b 1 0 ≡ (if b then n else 0)
    by true = omega arith
    by false = omega arith

with_own-context_of : (begun made : List (List ℕ)) (path : List ℕ) (n : ℕ) (q : List ℕ)
    → with_own path n (context_of begun made q) ≡ context_of begun (made ++ replicate n path) q
with_own-context_of begun made path n q = by (same_path path q) refl (same_path-sym q path) (sum_by-append (λ x. cond (same_path q x) 1 0) made (replicate n path)) (count_by-replicate q path n)
  where
    own : ℕ → Context
    own k = record { path = q; calls = count_by (same_path q) begun; own = k }

    by : (b : Bool) → same_path path q ≡ b → same_path q path ≡ same_path path q
        → count_by (same_path q) (made ++ replicate n path) ≡ count_by (same_path q) made + count_by (same_path q) (replicate n path)
        → count_by (same_path q) (replicate n path) ≡ (if same_path q path then n else 0)
        → (if same_path path q then own (count_by (same_path q) made + n) else own (count_by (same_path q) made)) ≡ own (count_by (same_path q) (made ++ replicate n path))
    by true e s sum rep =
        let k : count_by (same_path q) (made ++ replicate n path) ≡ count_by (same_path q) made + n = sum ∙ ap (λ r. count_by (same_path q) made + r) (rep ∙ ap (λ b. if b then n else 0) (s ∙ e)) in
        ap (λ b. if b then own (count_by (same_path q) made + n) else own (count_by (same_path q) made)) e ∙ ap own (sym k)
    by false e s sum rep =
        let k : count_by (same_path q) (made ++ replicate n path) ≡ count_by (same_path q) made + 0 = sum ∙ ap (λ r. count_by (same_path q) made + r) (rep ∙ ap (λ b. if b then n else 0) (s ∙ e)) in
        let z : count_by (same_path q) made ≡ count_by (same_path q) (made ++ replicate n path) = omega (arith, k) in
        ap (λ b. if b then own (count_by (same_path q) made + n) else own (count_by (same_path q) made)) e ∙ ap own z

pub map-with_own : (begun made : List (List ℕ)) (path : List ℕ) (n : ℕ) (ds : List (List ℕ))
    → map (with_own path n) (map (context_of begun made) ds) ≡ map (context_of begun (made ++ replicate n path)) ds
map-with_own begun made path n [] = refl
map-with_own begun made path n (q ∷ ds) =
    ap (λ c. c ∷ map (with_own path n) (map (context_of begun made) ds)) (with_own-context_of begun made path n q)
    ∙ ap (λ l. context_of begun (made ++ replicate n path) q ∷ l) (map-with_own begun made path n ds)

-- ---- an entry

count_by-push : (q path : List ℕ) (begun : List (List ℕ)) → count_by (same_path q) (begun ++ path ∷ []) ≡ count_by (same_path q) begun + cond (same_path q path) 1 0
count_by-push q path begun = sum_by_push (λ x. cond (same_path q x) 1 0) begun path

-- of a path that is not in a list none is counted
pub count_by-none : (q : List ℕ) (begun : List (List ℕ)) → list_any (same_path q) begun ≡ false → count_by (same_path q) begun ≡ 0
count_by-none q [] h = refl
count_by-none q (p ∷ begun) h =
    let parts = or_parts (same_path q p) (list_any (same_path q) begun) h in
    let rest : count_by (same_path q) begun ≡ 0 = count_by-none q begun parts.1 in
    sum_by-cons (λ x. cond (same_path q x) 1 0) p begun ∙ ap (λ b. cond b 1 0 + count_by (same_path q) begun) parts.0 ∙ omega (arith, rest)

with_call-context_of : (begun made : List (List ℕ)) (path q : List ℕ)
    → with_call path (context_of begun made q) ≡ context_of (begun ++ path ∷ []) made q
with_call-context_of begun made path q = by (same_path path q) refl (same_path-sym q path) (count_by-push q path begun)
  where
    calls : ℕ → Context
    calls k = record { path = q; calls = k; own = count_by (same_path q) made }

    by : (b : Bool) → same_path path q ≡ b → same_path q path ≡ same_path path q
        → count_by (same_path q) (begun ++ path ∷ []) ≡ count_by (same_path q) begun + cond (same_path q path) 1 0
        → (if same_path path q then calls (count_by (same_path q) begun + 1) else calls (count_by (same_path q) begun)) ≡ calls (count_by (same_path q) (begun ++ path ∷ []))
    by true e s sum =
        let k : count_by (same_path q) (begun ++ path ∷ []) ≡ count_by (same_path q) begun + 1 = sum ∙ ap (λ b. count_by (same_path q) begun + cond b 1 0) (s ∙ e) in
        ap (λ b. if b then calls (count_by (same_path q) begun + 1) else calls (count_by (same_path q) begun)) e ∙ ap calls (sym k)
    by false e s sum =
        let k : count_by (same_path q) (begun ++ path ∷ []) ≡ count_by (same_path q) begun + 0 = sum ∙ ap (λ b. count_by (same_path q) begun + cond b 1 0) (s ∙ e) in
        let z : count_by (same_path q) begun ≡ count_by (same_path q) (begun ++ path ∷ []) = omega (arith, k) in
        ap (λ b. if b then calls (count_by (same_path q) begun + 1) else calls (count_by (same_path q) begun)) e ∙ ap calls z

pub map-with_call : (begun made : List (List ℕ)) (path : List ℕ) (ds : List (List ℕ))
    → map (with_call path) (map (context_of begun made) ds) ≡ map (context_of (begun ++ path ∷ []) made) ds
map-with_call begun made path [] = refl
map-with_call begun made path (q ∷ ds) =
    ap (λ c. c ∷ map (with_call path) (map (context_of begun made) ds)) (with_call-context_of begun made path q)
    ∙ ap (λ l. context_of (begun ++ path ∷ []) made q ∷ l) (map-with_call begun made path ds)

-- contexts of other paths stay as they are
pub map-other : (begun made : List (List ℕ)) (path : List ℕ) (ds : List (List ℕ)) → list_any (same_path path) ds ≡ false
    → map (context_of begun made) ds ≡ map (context_of (begun ++ path ∷ []) made) ds
map-other begun made path [] h = refl
map-other begun made path (q ∷ ds) h =
    let parts = or_parts (same_path path q) (list_any (same_path path) ds) h in
    let e : with_call path (context_of begun made q) ≡ context_of begun made q =
    ap (λ b. if b then record (context_of begun made q) { calls = count_by (same_path q) begun + 1 } else context_of begun made q) parts.0 in
    ap (λ c. c ∷ map (context_of begun made) ds) (sym e ∙ with_call-context_of begun made path q)
    ∙ ap (λ l. context_of (begun ++ path ∷ []) made q ∷ l) (map-other begun made path ds parts.1)

pub list_any-contexts : (begun made : List (List ℕ)) (path : List ℕ) (ds : List (List ℕ)) → list_any (has_path path) (map (context_of begun made) ds) ≡ list_any (same_path path) ds
list_any-contexts begun made path [] = refl
list_any-contexts begun made path (q ∷ ds) = ap (λ b. same_path path q || b) (list_any-contexts begun made path ds)

-- only a path with a method can be the same as one
pub list_any-inside : (path : List ℕ) (begun : List (List ℕ)) → is_outside path ≡ false → list_any (same_path path) (filter is_inside begun) ≡ list_any (same_path path) begun
list_any-inside path [] h = refl
list_any-inside path (q ∷ begun) h = by (same_path path q) (is_outside q) refl refl (list_any-inside path begun h)
  where
    rest : List (List ℕ)
    rest = filter is_inside begun

    by : (a b : Bool) → same_path path q ≡ a → is_outside q ≡ b → list_any (same_path path) (filter is_inside begun) ≡ list_any (same_path path) begun
        → list_any (same_path path) (cond (not (is_outside q)) (q ∷ filter is_inside begun) (filter is_inside begun)) ≡ (same_path path q || list_any (same_path path) begun)
    by true true ea eb r = absurd (true≢false (sym eb ∙ ap is_outside (sym (same_path-is path q ea)) ∙ h))
    by false true ea eb r = ap (λ b. list_any (same_path path) (cond (not b) (q ∷ filter is_inside begun) (filter is_inside begun))) eb ∙ r ∙ ap (λ a. a || list_any (same_path path) begun) (sym ea)
    by a false ea eb r = ap (λ b. list_any (same_path path) (cond (not b) (q ∷ filter is_inside begun) (filter is_inside begun))) eb ∙ ap (λ b. same_path path q || b) r

-- a path that is new among contexts
new_context : (path : List ℕ) (begun made : List (List ℕ)) → list_any (same_path path) begun ≡ false → count_by (same_path path) made ≡ 0
    → record { path = path; calls = 1; own = 0 } ≡ context_of (begun ++ path ∷ []) made path
new_context path begun made new none =
    let counted : ℕ → ℕ → Context = λ calls own. record { path = path; calls = calls; own = own } in
    let calls : count_by (same_path path) (begun ++ path ∷ []) ≡ 1 =
    count_by-push path path begun ∙ ap (λ n. n + cond (same_path path path) 1 0) (count_by-none path begun new) ∙ ap (λ b. 0 + cond b 1 0) (same_path-refl path) in
    ap (λ n. counted n 0) (sym calls) ∙ ap (counted (count_by (same_path path) (begun ++ path ∷ []))) (sym none)

-- an entry of a path, among contexts that are counted
pub call_begun-contexts_of : (path : List ℕ) (begun made : List (List ℕ)) → is_outside path ≡ false
    → (list_any (same_path path) begun ≡ false → count_by (same_path path) made ≡ 0)
    → call_begun path (contexts_of begun made) ≡ contexts_of (begun ++ path ∷ []) made
call_begun-contexts_of path begun made inside none =
    ap (λ b. if b then map (with_call path) (contexts_of begun made) else contexts_of begun made ++ record { path = path; calls = 1; own = 0 } ∷ []) seen
    ∙ by (list_any (same_path path) begun) refl
    ∙ sym (ap (map (context_of (begun ++ path ∷ []) made)) more)
  where
    inner : List (List ℕ)
    inner = filter is_inside begun

    seen : list_any (has_path path) (contexts_of begun made) ≡ list_any (same_path path) begun
    seen = list_any-contexts begun made path (distinct inner) ∙ list_any-distinct path inner ∙ list_any-inside path begun inside

    more : distinct (filter is_inside (begun ++ path ∷ [])) ≡ (if list_any (same_path path) begun then distinct inner else distinct inner ++ path ∷ [])
    more = ap distinct (filter-append is_inside begun (path ∷ []) ∙ ap (λ b. inner ++ cond (not b) (path ∷ []) []) inside)
        ∙ distinct-push path inner ∙ ap (λ b. if b then distinct inner else distinct inner ++ path ∷ []) (list_any-inside path begun inside)

    by : (b : Bool) → list_any (same_path path) begun ≡ b
        → (if b then map (with_call path) (contexts_of begun made) else contexts_of begun made ++ record { path = path; calls = 1; own = 0 } ∷ [])
        ≡ map (context_of (begun ++ path ∷ []) made) (if b then distinct inner else distinct inner ++ path ∷ [])
    by true e = map-with_call begun made path (distinct inner)
    by false e =
        let other : list_any (same_path path) (distinct inner) ≡ false = list_any-distinct path inner ∙ list_any-inside path begun inside ∙ e in
        ap (λ l. l ++ record { path = path; calls = 1; own = 0 } ∷ []) (map-other begun made path (distinct inner) other)
        ∙ ap (λ c. map (context_of (begun ++ path ∷ []) made) (distinct inner) ++ c ∷ []) (new_context path begun made e (none e))
        ∙ sym (map-append (context_of (begun ++ path ∷ []) made) (distinct inner) (path ∷ []))
