-- A test of each number below a bound.
use Rattle.std.proofs.Common.{◌≡◌, ℕ, zero, suc, ◌<◌, inl, inr, Bool, true, subst, arith}
use Rattle.std.specs.Prelude.{◌&&◌}
use Rattle.std.proofs.lemmas.Bool.{cases_lt, and_parts}

abbrev pub all_below : (ℕ → Bool) → ℕ → Bool
all_below p zero = true
all_below p (suc n) = p n && all_below p n

pub all_below-each : (p : ℕ → Bool) (n k : ℕ) → all_below p n ≡ true → k < n → p k ≡ true
all_below-each p zero k all lt = absurd (omega arith)
all_below-each p (suc n) k all lt =
    elim (cases_lt k n) [
      | inl below ↦ all_below-each p n k (and_parts (p n) (all_below p n) all).1 below
      | inr le ↦ (let last : n ≡ k = omega arith in subst (λ (m : ℕ). p m ≡ true) last (and_parts (p n) (all_below p n) all).0)
    ]
