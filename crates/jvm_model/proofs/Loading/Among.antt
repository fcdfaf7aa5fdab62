-- What is among numbers behind one another.
use Rattle.std.proofs.Common.{◌≡◌, ℕ, Bool, true, false, List, [], ◌∷◌, ◌++◌, refl, ◌∙◌}
use Rattle.std.specs.Prelude.{◌==◌, ◌||◌}
use Rattle.std.proofs.lemmas.Bool.{or_left, or_right}
use Rattle.jf_bytes.proofs.Tests.{equals_itself}
use Rattle.jvm_model.specs.Classes.Load.{is_among}

-- of four tests, the two in the middle change places
pub or-exchanged : (a b c d : Bool) → ((a || b) || (c || d)) ≡ ((a || c) || (b || d))
or-exchanged true b c d = refl
or-exchanged false true true d = refl
or-exchanged false true false d = refl
or-exchanged false false c d = refl

pub among-append : (x : ℕ) (xs ys : List ℕ) → is_among x (xs ++ ys) ≡ (is_among x xs || is_among x ys)
among-append x [] ys = refl
among-append x (y ∷ xs) ys = by (x == y) (among-append x xs ys)
  where
    by : (b : Bool) → is_among x (xs ++ ys) ≡ (is_among x xs || is_among x ys) → (b || is_among x (xs ++ ys)) ≡ ((b || is_among x xs) || is_among x ys)
    by true e = refl
    by false e = e

pub among-front : (x : ℕ) (xs ys : List ℕ) → is_among x xs ≡ true → is_among x (xs ++ ys) ≡ true
among-front x xs ys is = among-append x xs ys ∙ or_left (is_among x xs) (is_among x ys) is

pub among-behind : (x : ℕ) (xs ys : List ℕ) → is_among x ys ≡ true → is_among x (xs ++ ys) ≡ true
among-behind x xs ys is = among-append x xs ys ∙ or_right (is_among x xs) (is_among x ys) is

pub among-last : (x : ℕ) (xs : List ℕ) → is_among x (xs ++ x ∷ []) ≡ true
among-last x xs = among-behind x xs (x ∷ []) (or_left (x == x) false (equals_itself x))
