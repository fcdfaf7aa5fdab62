-- What holds of each element of a list, a list with no element, and an element by its place.
use Rattle.std.proofs.Common.{◌≡◌, ℕ, zero, suc, ◌+◌, ◌<◌, true, List, [], ◌∷◌, ◌++◌, length, ap, subst, refl, ◌∙◌, arith}
use Rattle.std.specs.Prelude.{Some, slice_get, slice_set, ◌==◌}
use Rattle.std.specs.List.{AllByRecursion}
use Rattle.std.proofs.lemmas.Bool.{eqb-true}
use Rattle.std.proofs.lemmas.Option.{none-some, same_Some}

-- ---- what holds of each element

pub each_at : {A : Type 0} (P : A → Type 0) (xs : List A) (i : ℕ) (x : A) → AllByRecursion P xs → slice_get xs i ≡ Some x → P x
each_at P [] i x all at = absurd (none-some x at)
each_at P (y ∷ ys) zero x all at = subst P (same_Some y x at) all.0
each_at P (y ∷ ys) (suc i) x all at = each_at P ys i x all.1 at

pub each_append : {A : Type 0} (P : A → Type 0) (xs ys : List A) → AllByRecursion P xs → AllByRecursion P ys → AllByRecursion P (xs ++ ys)
each_append P [] ys front back = back
each_append P (x ∷ xs) ys front back = (front.0, each_append P xs ys front.1 back)

pub each_push : {A : Type 0} (P : A → Type 0) (xs : List A) (x : A) → AllByRecursion P xs → P x → AllByRecursion P (xs ++ x ∷ [])
each_push P [] x all last = (last, tt)
each_push P (y ∷ ys) x all last = (all.0, each_push P ys x all.1 last)

pub each_weaker : {A : Type 0} (P Q : A → Type 0) (xs : List A) → ((x : A) → P x → Q x) → AllByRecursion P xs → AllByRecursion Q xs
each_weaker P Q [] weaker all = tt
each_weaker P Q (x ∷ xs) weaker all = (weaker x all.0, each_weaker P Q xs weaker all.1)

pub empty_from_length : {A : Type 0} (xs : List A) → (length xs == 0) ≡ true → xs ≡ []
empty_from_length [] is = refl
empty_from_length (x ∷ xs) is = let none : suc (length xs) ≡ 0 = eqb-true (suc (length xs)) 0 is in absurd (omega (arith, none))

-- ---- an element by its place

pub slice_get-after : {A : Type 0} (xs ys : List A) (k : ℕ) → slice_get (xs ++ ys) (length xs + k) ≡ slice_get ys k
slice_get-after [] ys k = ap (slice_get ys) (let e : 0 + k ≡ k = omega arith in e)
slice_get-after (x ∷ xs) ys k = ap (slice_get (x ∷ (xs ++ ys))) (let e : suc (length xs) + k ≡ suc (length xs + k) = omega arith in e) ∙ slice_get-after xs ys k

pub slice_get-front : {A : Type 0} (xs ys : List A) (i : ℕ) (x : A) → slice_get xs i ≡ Some x → slice_get (xs ++ ys) i ≡ Some x
slice_get-front [] ys i x at = absurd (none-some x at)
slice_get-front (y ∷ xs) ys zero x at = at
slice_get-front (y ∷ xs) ys (suc i) x at = slice_get-front xs ys i x at

pub slice_get-set_same : {A : Type 0} (xs : List A) (i : ℕ) (x : A) → i < length xs → slice_get (slice_set xs i x) i ≡ Some x
slice_get-set_same [] i x within = absurd (omega (arith, within))
slice_get-set_same (y ∷ xs) zero x within = refl
slice_get-set_same (y ∷ xs) (suc i) x within = slice_get-set_same xs i x (omega arith)
