-- The slots of a table by their numbers: the first ones, and those that a slab has behind them.
use Rattle.std.proofs.Common.{◌≡◌, ◌≤◌, ◌<◌, ◌+◌, ◌-◌, ◌++◌, ℕ, zero, suc, Bool, true, false, List, [], ◌∷◌, length, Option, Some, None, refl, sym, ap, ◌∙◌, ⊎_elim, arith}
use Rattle.std.specs.Prelude.{◌==◌, nat_le, slice_get, slice_index_or, if◌then◌else◌}
use Rattle.std.proofs.lemmas.Bool.{cases_lt, leb-true, eqb-true, eq-eqb}
use Rattle.std.proofs.lemmas.List.{get_or_append_left, get_or-append_right}
use Rattle.slab.specs.Slab.{Slab, get, Updates}
use Rattle.method_versions.specs.declared.versions.Held.{Held}
use Rattle.method_versions.specs.Tables.{held_in, spare_of}

pub fits : (numbers free : ℕ) → 0 < spare_of numbers free → numbers ≤ 4294967296
fits numbers free some = by (nat_le numbers 4294967296) refl where
  by : (b : Bool) → nat_le numbers 4294967296 ≡ b → numbers ≤ 4294967296
  by true e = leb-true numbers 4294967296 e
  by false e = let none : spare_of numbers free ≡ 0 = ap (λ b. if b then free else 0) e in absurd (omega (arith, none, some))

module _ {T : Type 0} (first : List (Option (Held T))) where
  pub at-first : (later : List (Option (Held T))) (k : ℕ) → k < length first → held_in (first ++ later) k ≡ held_in first k
  at-first later k lt = get_or_append_left first later None k lt

  pub at-later : (later : List (Option (Held T))) (k : ℕ) → length first ≤ k → held_in (first ++ later) k ≡ held_in later (k - length first)
  at-later later k le = get_or-append_right first later (length first) k None refl le

  -- a version that a slab was given stands behind the first ones
  pub vacant-there : (old : Slab (Held T)) (n key : ℕ) → n ≡ length first → get old key ≡ None → held_in (first ++ old.slots) (n + key) ≡ None
  vacant-there old n key same none =
      let there : n + key - length first ≡ key = omega (arith, same) in
      at-later old.slots (n + key) (omega (arith, same)) ∙ (ap (held_in old.slots) there ∙ none)

  pub inserted : (old new : Slab (Held T)) (n key : ℕ) (v : Held T) → n ≡ length first → Updates old new key (Some v) → (k : ℕ)
      → held_in (first ++ new.slots) k ≡ (if k == n + key then Some v else held_in (first ++ old.slots) k)
  inserted old new n key v same updates k = by (k == n + key) refl where
    other : (k == n + key) ≡ false → held_in (first ++ new.slots) k ≡ held_in (first ++ old.slots) k
    other apart =
        ⊎_elim
        (λ (lt : k < length first). at-first new.slots k lt ∙ sym (at-first old.slots k lt))
        (λ (le : length first ≤ k).
        at-later new.slots k le
        ∙ (updates.others (k - length first) (λ here. differ (let is : k ≡ n + key = omega (arith, here, same, le) in sym (eq-eqb k (n + key) is) ∙ apart))
        ∙ sym (at-later old.slots k le)))
        (cases_lt k (length first))
      where
        differ : true ≡ false → ⊥
        differ e = cc

    by : (b : Bool) → (k == n + key) ≡ b → held_in (first ++ new.slots) k ≡ (if b then Some v else held_in (first ++ old.slots) k)
    by false e = other e
    by true e =
        let is : k ≡ n + key = eqb-true k (n + key) e in
        let there : k - length first ≡ key = omega (arith, is, same) in
        at-later new.slots k (omega (arith, is, same)) ∙ (ap (held_in new.slots) there ∙ updates.changed)

-- what stands at an index
pub read-there : (xs : List ℕ) (i n : ℕ) → i < length xs → n ≡ slice_index_or xs i n → slice_get xs i ≡ Some n
read-there [] i n lt is = absurd (omega arith)
read-there (x ∷ xs) zero n lt is = ap Some (sym is)
read-there (x ∷ xs) (suc i) n lt is = read-there xs i n (omega arith) is
