-- Lists that are kept by number.
use Rattle.std.proofs.Common.{◌≡◌, ℕ, zero, suc, ◌<◌, ◌≤◌, false, List, [], ◌∷◌, ◌++◌, length, get_or, ap, sym, refl, arith}
use Rattle.std.specs.Prelude.{slice_get, slice_set, ◌==◌}
use Rattle.std.proofs.lemmas.Bool.{false≢true}
use Rattle.possible_callees.specs.Tables.{list_at, with_item}

-- what is written is the list with an item more
pub is_with_item : {A : Type 0} (item : A) (n : ℕ) (lists : List (List A)) (d written : List A) → n < length lists
    → written ≡ get_or lists n d ++ item ∷ [] → slice_set lists n written ≡ with_item n item lists
is_with_item item n [] d written within e = absurd (omega (arith, within))
is_with_item item zero (list ∷ lists) d written within e = ap (λ l. l ∷ lists) e
is_with_item item (suc n) (list ∷ lists) d written within e = ap (λ l. list ∷ l) (is_with_item item n lists d written (omega (arith, within)) e)

pub nothing_past : {A : Type 0} (item : A) (n : ℕ) (lists : List (List A)) → length lists ≤ n → lists ≡ with_item n item lists
nothing_past item n [] past = refl
nothing_past item zero (list ∷ lists) past = absurd (omega (arith, past))
nothing_past item (suc n) (list ∷ lists) past = ap (λ l. list ∷ l) (nothing_past item n lists (omega (arith, past)))

pub length-with : {A : Type 0} (item : A) (n : ℕ) (lists : List (List A)) → length (with_item n item lists) ≡ length lists
length-with item n [] = refl
length-with item zero (list ∷ lists) = refl
length-with item (suc n) (list ∷ lists) = ap suc (length-with item n lists)

pub at-same : {A : Type 0} (item : A) (n : ℕ) (lists : List (List A)) → n < length lists → list_at (with_item n item lists) n ≡ list_at lists n ++ item ∷ []
at-same item n [] within = absurd (omega (arith, within))
at-same item zero (list ∷ lists) within = refl
at-same item (suc n) (list ∷ lists) within = at-same item n lists (omega (arith, within))

pub at-other : {A : Type 0} (item : A) (n k : ℕ) (lists : List (List A)) → (k == n) ≡ false → list_at (with_item n item lists) k ≡ list_at lists k
at-other item n k [] other = refl
at-other item zero zero (list ∷ lists) other = absurd (false≢true (sym other))
at-other item zero (suc k) (list ∷ lists) other = refl
at-other item (suc n) zero (list ∷ lists) other = refl
at-other item (suc n) (suc k) (list ∷ lists) other = at-other item n k lists (less n k other)
  where
    less : (n k : ℕ) → (suc k == suc n) ≡ false → (k == n) ≡ false
    less n k e = grind (arith)

-- ---- an item that is written

pub set-other : {A : Type 0} (codes : List A) (m k : ℕ) (x : A) → (k == m) ≡ false → slice_get (slice_set codes m x) k ≡ slice_get codes k
set-other [] m k x other = refl
set-other (c ∷ codes) zero zero x other = absurd (false≢true (sym other))
set-other (c ∷ codes) zero (suc k) x other = refl
set-other (c ∷ codes) (suc m) zero x other = refl
set-other (c ∷ codes) (suc m) (suc k) x other = set-other codes m k x (less m k other)
  where
    less : (m k : ℕ) → (suc k == suc m) ≡ false → (k == m) ≡ false
    less m k e = grind (arith)

pub set-length : {A : Type 0} (codes : List A) (m : ℕ) (x : A) → length (slice_set codes m x) ≡ length codes
set-length [] m x = refl
set-length (c ∷ codes) zero x = refl
set-length (c ∷ codes) (suc m) x = ap suc (set-length codes m x)
