-- Laws of Bool.
use Rattle.std.proofs.Common.{◌≡◌, Bool, true, false, refl}
use Rattle.std.proofs.lemmas.Bool.{false≢true}

-- two tests that follow from one another are the same
pub alike : (a b : Bool) → (a ≡ true → b ≡ true) → (b ≡ true → a ≡ true) → a ≡ b
alike true true to from = refl
alike false false to from = refl
alike true false to from = absurd (false≢true (to refl))
alike false true to from = absurd (false≢true (from refl))
