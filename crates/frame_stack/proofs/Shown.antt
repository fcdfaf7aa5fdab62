-- Slots that are seen, up to an end.
use Rattle.std.proofs.Common.{◌≡◌, ℕ, zero, suc, ◌≤◌, ◌<◌, List, [], ◌∷◌, take, map, refl, ap, arith}
use Rattle.std.specs.Prelude.{slice_set}

module _ {A B : Type 0} (f : A → B) where
  pub shown-take : (count n : ℕ) (xs : List A) → count ≤ n → map f (take count xs) ≡ take count (map f (take n xs))
  shown-take zero n xs le = refl
  shown-take (suc count) zero xs le = absurd (omega arith)
  shown-take (suc count) (suc n) [] le = refl
  shown-take (suc count) (suc n) (x ∷ xs) le = ap (λ ys. f x ∷ ys) (shown-take count n xs (omega arith))

  pub shown-set : (n at : ℕ) (x : A) (xs : List A) → at < n → map f (take n (slice_set xs at x)) ≡ slice_set (map f (take n xs)) at (f x)
  shown-set zero at x xs less = absurd (omega arith)
  shown-set (suc n) at x [] less = refl
  shown-set (suc n) zero x (y ∷ xs) less = refl
  shown-set (suc n) (suc at) x (y ∷ xs) less = ap (λ ys. f y ∷ ys) (shown-set n at x xs (omega arith))
