-- Values that are kept narrow, and then seen as data.
use Rattle.std.proofs.Common.{◌≡◌, ℕ, zero, suc, List, [], ◌∷◌, refl, ap, ◌∙◌}
use Rattle.std.specs.Prelude.{map, slice_set, replicate}

-- a write to one
pub map_slice_set : {A B : Type 0} (f : A → B) (xs : List A) (i : ℕ) (x : A) (v : B) → f x ≡ v → map f (slice_set xs i x) ≡ slice_set (map f xs) i v
map_slice_set f [] i x v e = refl
map_slice_set f (y ∷ ys) zero x v e = ap (λ d. d ∷ map f ys) e
map_slice_set f (y ∷ ys) (suc i) x v e = ap (λ ds. f y ∷ ds) (map_slice_set f ys i x v e)

-- many of one
pub map_replicate : {A B : Type 0} (f : A → B) (n : ℕ) (x : A) (v : B) → f x ≡ v → map f (replicate n x) ≡ replicate n v
map_replicate f zero x v e = refl
map_replicate f (suc n) x v e = ap (λ d. d ∷ map f (replicate n x)) e ∙ ap (λ ds. v ∷ ds) (map_replicate f n x v e)

-- what is made of many of one
pub map_filled : {A B : Type 0} (f : A → B) (n : ℕ) (x : A) (v : B) (xs : List A) → xs ≡ replicate n x → f x ≡ v → map f xs ≡ replicate n v
map_filled f n x v xs is e = ap (map f) is ∙ map_replicate f n x v e
