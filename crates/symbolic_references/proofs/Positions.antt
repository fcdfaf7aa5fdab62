-- A position is below the length of its list.
use Rattle.std.proofs.Common.{◌≡◌, ℕ, ◌<◌, Bool, true, false, cond, List, length, Some, None, refl, subst}
use Rattle.std.proofs.lemmas.Bool.{ltb-true}
use Rattle.std.specs.Prelude.{nat_lt, position}
use Rattle.std.specs.List.{position_or_len}

pub position_within : {X : Type 0} (p : X → Bool) (xs : List X) (at : ℕ) → position p xs ≡ Some at → at < length xs
position_within p xs at e = by_test (nat_lt (position_or_len p xs) (length xs)) refl e where
  by_test : (b : Bool) → nat_lt (position_or_len p xs) (length xs) ≡ b → cond b (Some (position_or_len p xs)) None ≡ Some at → at < length xs
  by_test true lt e = subst (λ k. k < length xs) (below e) (ltb-true (position_or_len p xs) (length xs) lt) where
    below : cond true (Some (position_or_len p xs)) None ≡ Some at → position_or_len p xs ≡ at
    below e = cc
  by_test false lt e = absurd cc
