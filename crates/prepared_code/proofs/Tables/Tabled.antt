-- Tables that have at each number what a function gives there.
use Rattle.std.proofs.Common.{◌≡◌, ℕ, ◌+◌, ◌<◌, ◌≤◌, List, [], ◌∷◌, ◌++◌, Option, Some, None, sym, ap, ◌∙◌, ⊎_elim, zero-add}
use Rattle.std.specs.Prelude.{map, slice_get, slice_index_or}
use Rattle.std.specs.Option.{option_flatten}
use Rattle.std.specs.List.{range_with_len}
use Rattle.std.proofs.lemmas.Bool.{cases_lt}
use Rattle.std.proofs.lemmas.List.{get_or_past}
use Rattle.std.proofs.lemmas.List.FromFn.{length-map-range_with_len, get_or-map-range_with_len, map-range_with_len_more}
use Rattle.std.proofs.lemmas.Option.{slice_get-get_or, slice_get_past}

-- one more
pub tabled-more : {X : Type 0} (f : ℕ → X) (n : ℕ) (xs : List X) (x : X) → xs ≡ map f (range_with_len 0 n) → x ≡ f n → xs ++ x ∷ [] ≡ map f (range_with_len 0 (n + 1))
tabled-more f n xs x so_far is =
    ap (λ ys. ys ++ x ∷ []) so_far
    ∙ (ap (λ y. map f (range_with_len 0 n) ++ y ∷ []) is
    ∙ sym (map-range_with_len_more f 0 n n (zero-add n)))

-- what stands there
pub tabled-at : {X : Type 0} (f : ℕ → X) (n k : ℕ) → k < n → slice_get (map f (range_with_len 0 n)) k ≡ Some (f k)
tabled-at f n k lt =
    slice_get-get_or (map f (range_with_len 0 n)) k (f k) (rw (length-map-range_with_len f 0 n) lt)
    ∙ ap Some (get_or-map-range_with_len f 0 n k k (f k) lt (zero-add k))

pub tabled-past : {X : Type 0} (f : ℕ → X) (n k : ℕ) → n ≤ k → slice_get (map f (range_with_len 0 n)) k ≡ None
tabled-past f n k le = slice_get_past (map f (range_with_len 0 n)) k (rw (length-map-range_with_len f 0 n) le)

-- at each place a table of the places of a code has what stands there, and past the code nothing does
pub tabled-place : {X : Type 0} (f : ℕ → Option X) (n place : ℕ) → (n ≤ place → f place ≡ None) → option_flatten (slice_get (map f (range_with_len 0 n)) place) ≡ f place
tabled-place f n place past =
    ⊎_elim
    (λ (lt : place < n). ap option_flatten (tabled-at f n place lt))
    (λ (le : n ≤ place). ap option_flatten (tabled-past f n place le) ∙ sym (past le))
    (cases_lt place n)

-- the same of slots
pub slotted-at : {X : Type 0} (f : ℕ → Option X) (n k : ℕ) → k < n → slice_index_or (map f (range_with_len 0 n)) k None ≡ f k
slotted-at f n k lt = get_or-map-range_with_len f 0 n k k None lt (zero-add k)

pub slotted-past : {X : Type 0} (f : ℕ → Option X) (n k : ℕ) → n ≤ k → slice_index_or (map f (range_with_len 0 n)) k None ≡ None
slotted-past f n k le = get_or_past (map f (range_with_len 0 n)) k None (rw (length-map-range_with_len f 0 n) le)
