-- The cases of a test, and a number that is the same as itself.
use Rattle.std.proofs.Common.{◌≡◌, ℕ, Bool, true, false, refl}
use Rattle.std.specs.Prelude.{◌==◌}
use Rattle.std.proofs.lemmas.Bool.{eq-eqb}

pub either : {A : Type 0} (b : Bool) → (b ≡ true → A) → (b ≡ false → A) → A
either true on off = on refl
either false on off = off refl

pub equals_itself : (n : ℕ) → (n == n) ≡ true
equals_itself n = eq-eqb n n refl
