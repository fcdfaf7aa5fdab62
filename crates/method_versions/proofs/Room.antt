-- More room is no less of it, unless numbers would pass a u32.
use Rattle.std.proofs.Common.{◌≡◌, ◌≤◌, ℕ, Bool, true, false, refl, inl, inr, arith}
use Rattle.std.specs.Prelude.{◌⊎◌, nat_le, if◌then◌else◌}
use Rattle.method_versions.specs.Tables.{spare_of}

at-most : (n a : ℕ) → spare_of n a ≤ a
at-most n a = by (nat_le n 4294967296) where
  by : (b : Bool) → (if b then a else 0) ≤ a
  by true = omega arith
  by false = omega arith

pub room-or-none : (n m a b : ℕ) → a ≤ b → (spare_of n a ≤ spare_of m b) ⊎ (spare_of m b ≡ 0)
room-or-none n m a b le = by (nat_le m 4294967296) where
  by : (c : Bool) → (spare_of n a ≤ (if c then b else 0)) ⊎ ((if c then b else 0) ≡ 0)
  by true = inl (let most = at-most n a in omega (arith, most, le))
  by false = inr refl
