-- What a loop over a list has gone over.
use Rattle.std.proofs.Common.{◌≡◌, ℕ, zero, suc, ◌+◌, ◌-◌, ◌<◌, ◌≤◌, refl, arith, drop, List, [], ◌∷◌, ◌++◌, length, sym, ap, ◌∙◌, add-one, get_or, take}
use Rattle.std.specs.Prelude.{Some, slice_get}
use Rattle.std.proofs.Math.Seq.{take-suc, drop-cons}
use Rattle.std.proofs.lemmas.Option.{slice_get_within, get_or_from_slice_get}

-- the items from a place on are the one there and those that follow
pub drop_is : {A : Type 0} (i : ℕ) (xs : List A) (x d : A) → i < length xs → x ≡ get_or xs i d → drop i xs ≡ x ∷ drop (i + 1) xs
drop_is i xs x d within h =
    drop-cons xs i d within ∙ (ap (λ y. y ∷ drop (suc i) xs) (sym h) ∙ ap (λ n. x ∷ drop n xs) (sym (add-one i)))

pub drop_found : {A : Type 0} (i : ℕ) (xs : List A) (x : A) → Some x ≡ slice_get xs i → drop i xs ≡ x ∷ drop (i + 1) xs
drop_found i xs x h =
    drop_is i xs x x (slice_get_within xs i x (sym h)) (sym (get_or_from_slice_get xs i x x (sym h)))

-- one item more
pub take_more : {A : Type 0} (xs : List A) (i : ℕ) (x : A) (done more : List A) → Some x ≡ slice_get xs i → done ≡ take i xs
    → more ≡ done ++ x ∷ [] → more ≡ take (i + 1) xs
take_more xs i x done more here is h =
    h ∙ (ap (λ ys. ys ++ x ∷ []) is
    ∙ (ap (λ y. take i xs ++ y ∷ []) (sym (get_or_from_slice_get xs i x x (sym here)))
    ∙ (sym (take-suc xs i x (slice_get_within xs i x (sym here))) ∙ ap (λ n. take n xs) (sym (add-one i)))))

get-drop : {A : Type 0} (n i : ℕ) (xs : List A) → slice_get (drop n xs) i ≡ slice_get xs (n + i)
get-drop zero i xs =
    let e : i ≡ 0 + i = omega arith in
    ap (slice_get xs) e
get-drop (suc n) i [] = refl
get-drop (suc n) i (x ∷ xs) =
    let e : suc (n + i) ≡ suc n + i = omega arith in
    get-drop n i xs ∙ ap (slice_get (x ∷ xs)) e

-- one item more behind those from a place on
pub between_more : {A : Type 0} (xs : List A) (from place : ℕ) (x : A) (done more : List A) → from ≤ place → Some x ≡ slice_get xs place
    → done ≡ take (place - from) (drop from xs) → more ≡ done ++ x ∷ [] → more ≡ take (place + 1 - from) (drop from xs)
between_more xs from place x done more order here is h =
    let index : from + (place - from) ≡ place = omega (arith, order) in
    let count : place - from + 1 ≡ place + 1 - from = omega (arith, order) in
    take_more (drop from xs) (place - from) x done more
    (here ∙ (ap (slice_get xs) (sym index) ∙ sym (get-drop from (place - from) xs))) is h
    ∙ ap (λ n. take n (drop from xs)) count
