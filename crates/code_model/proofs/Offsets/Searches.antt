-- What a search by halves finds beside a number.
use Rattle.std.proofs.Common.{◌≡◌, ◌≢◌, ℕ, zero, suc, ◌+◌, ◌-◌, ◌<◌, ◌≤◌, List, [], ◌∷◌, length, get_or, None, refl, sym, ap, subst, inl, inr, arith}
use Rattle.std.specs.Prelude.{slice_get, unwrap_or}
use Rattle.std.specs.List.Sorted.{IsStrictlyIncreasing}
use Rattle.std.proofs.lemmas.Bool.{eq-eqb, ne_eqb, cases_lt}
use Rattle.code_model.specs.declared.laying.Homes.{Homes}
use Rattle.code_model.specs.Layout.{found_beside, home_of}

-- numbers that rise one by one rise
rise : (xs : List ℕ) → IsStrictlyIncreasing xs → (i n : ℕ) → i + suc n < length xs → get_or xs i 0 < get_or xs (i + suc n) 0
rise xs up i zero lt = let one : i + 1 ≡ i + suc zero = omega arith in subst (λ k. get_or xs i 0 < get_or xs k 0) one (up i (omega arith))
rise xs up i (suc n) lt =
    let before = rise xs up i n (omega arith) in
    let step = up (i + suc n) (omega arith) in
    let one : i + suc n + 1 ≡ i + suc (suc n) = omega arith in
    subst (λ k. get_or xs i 0 < get_or xs k 0) one (omega arith)

pub rise-lt : (xs : List ℕ) → IsStrictlyIncreasing xs → (i j : ℕ) → i < j → j < length xs → get_or xs i 0 < get_or xs j 0
rise-lt xs up i j lt within =
    let gap : i + suc (j - i - 1) ≡ j = omega arith in
    subst (λ k. get_or xs i 0 < get_or xs k 0) gap (rise xs up i (j - i - 1) (omega arith))

pub rise-le : (xs : List ℕ) → IsStrictlyIncreasing xs → (i j : ℕ) → i ≤ j → j < length xs → get_or xs i 0 ≤ get_or xs j 0
rise-le xs up i j le within = elim (cases_lt i j) [
  | inl lt ↦ let below = rise-lt xs up i j lt within in omega arith
  | inr ge ↦ let same : i ≡ j = omega arith in subst (λ k. get_or xs i 0 ≤ get_or xs k 0) same (omega arith)
]

-- what stands beside the first that is this number
found-at : (xs ys : List ℕ) (i x : ℕ) → ((j : ℕ) → j < i → get_or xs j 0 ≢ x) → i < length xs → get_or xs i 0 ≡ x → found_beside xs ys x ≡ slice_get ys i
found-at [] ys i x others within here = absurd (omega arith)
found-at (n ∷ xs) [] i x others within here = refl
found-at (n ∷ xs) (y ∷ ys) zero x others within here = rw (eq-eqb n x here) refl
found-at (n ∷ xs) (y ∷ ys) (suc i) x others within here =
    rw (ne_eqb n x (others 0 (omega arith))) (found-at xs ys i x (λ j lt. others (suc j) (omega arith)) (omega arith) here)

found-none : (xs ys : List ℕ) (x : ℕ) → ((j : ℕ) → j < length xs → get_or xs j 0 ≢ x) → found_beside xs ys x ≡ None
found-none [] ys x others = refl
found-none (n ∷ xs) [] x others = refl
found-none (n ∷ xs) (y ∷ ys) x others = rw (ne_eqb n x (others 0 (omega arith))) (found-none xs ys x (λ j lt. others (suc j) (omega arith)))

-- what stands beside a number that was found at an index of rising numbers
pub found-in_order : (xs ys : List ℕ) (i x : ℕ) → IsStrictlyIncreasing xs → i < length xs → get_or xs i 0 ≡ x → found_beside xs ys x ≡ slice_get ys i
found-in_order xs ys i x up within here =
    let others : (j : ℕ) → j < i → get_or xs j 0 ≢ x = λ j lt same. (let below = rise-lt xs up j i lt within in omega arith) in
    found-at xs ys i x others within here

-- and beside one that was not found
pub found-between : (xs ys : List ℕ) (i x : ℕ) → ((k : ℕ) → k < i → get_or xs k 0 < x) → ((k : ℕ) → i ≤ k → k < length xs → x < get_or xs k 0) → found_beside xs ys x ≡ None
found-between xs ys i x below above =
    let others : (j : ℕ) → j < length xs → get_or xs j 0 ≢ x = λ j within same. elim (cases_lt j i) [
      | inl lt ↦ let b = below j lt in omega arith
      | inr ge ↦ let a = above j ge within in omega arith
    ] in
    found-none xs ys x others

-- the home of an offset that was found at an index
pub home_of-at : (homes : Homes) (i at : ℕ) → IsStrictlyIncreasing homes.from → i < length homes.from → get_or homes.from i 0 ≡ at → unwrap_or (slice_get homes.home i) 0 ≡ home_of homes at
home_of-at homes i at up within here = ap (λ o. unwrap_or o 0) (sym (found-in_order homes.from homes.home i at up within here))

-- and of one that was not found
pub home_of-none : (homes : Homes) (i at : ℕ) → ((k : ℕ) → k < i → get_or homes.from k 0 < at) → ((k : ℕ) → i ≤ k → k < length homes.from → at < get_or homes.from k 0) → 0 ≡ home_of homes at
home_of-none homes i at below above = ap (λ o. unwrap_or o 0) (sym (found-between homes.from homes.home i at below above))
