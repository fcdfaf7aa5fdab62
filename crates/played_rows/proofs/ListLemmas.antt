-- Lists, one element more.
use Rattle.std.proofs.Common.{◌≡◌, ◌<◌, ◌+◌, ℕ, zero, suc, List, [], ◌∷◌, ◌++◌, drop, length, map, take, ap, sym, ◌∙◌, arith, add-one}
use Rattle.std.specs.Prelude.{get_or}
use Rattle.std.proofs.lemmas.List.{drop_more, map-append, take-append-drop}

one-more : {A B : Type 0} (f : A → B) (xs : List A) (i : ℕ) (x d : A) → i < length xs → x ≡ get_or xs i d
    → map f (take i xs) ++ (f x ∷ []) ≡ map f (take (suc i) xs)
one-more f [] i x d less is = absurd (omega (arith, less))
one-more f (y ∷ ys) zero x d less is = ap (λ z. f z ∷ []) is
one-more f (y ∷ ys) (suc i) x d less is = ap (λ fs. f y ∷ fs) (one-more f ys i x d (omega (arith, less)) is)

-- those so far, and the next behind them
pub taken-more : {A B : Type 0} (f : A → B) (xs : List A) (i : ℕ) (x d : A) → i < length xs → x ≡ get_or xs i d
    → map f (take i xs) ++ (f x ∷ []) ≡ map f (take (i + 1) xs)
taken-more f xs i x d less is = one-more f xs i x d less is ∙ ap (λ k. map f (take k xs)) (sym (add-one i))

-- what is left is the next and those behind it
next-left : {A : Type 0} (xs : List A) (i : ℕ) (x d : A) → i < length xs → x ≡ get_or xs i d → drop i xs ≡ x ∷ drop (i + 1) xs
next-left xs i x d less is = drop_more xs i d less ∙ ap (λ y. y ∷ drop (i + 1) xs) (sym is)

pub rest-more : {A : Type 0} (xs : List A) (i : ℕ) (x : A) → i < length xs → x ≡ get_or xs i x → drop i xs ≡ x ∷ drop (i + 1) xs
rest-more xs i x less is = next-left xs i x x less is

-- all are those so far, the next and those behind it
pub parted : {A : Type 0} (xs : List A) (i : ℕ) (x d : A) → i < length xs → x ≡ get_or xs i d → xs ≡ take i xs ++ x ∷ drop (i + 1) xs
parted xs i x d less is = sym (take-append-drop i xs) ∙ ap (λ rest. take i xs ++ rest) (next-left xs i x d less is)

pub parted-each : {A B : Type 0} (f : A → B) (xs : List A) (i : ℕ) (x d : A) → i < length xs → x ≡ get_or xs i d
    → map f xs ≡ map f (take i xs) ++ f x ∷ map f (drop (i + 1) xs)
parted-each f xs i x d less is = ap (map f) (parted xs i x d less is) ∙ map-append f (take i xs) (x ∷ drop (i + 1) xs)
