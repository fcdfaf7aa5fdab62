-- What is left of the keys of a switch, and of their targets.
use Rattle.std.proofs.Common.{◌≡◌, ℕ, zero, suc, ◌+◌, ◌≤◌, pos, Bool, true, false, ℤ, List, [], ◌∷◌, drop, length, refl, sym, ap, ◌∙◌, arith}
use Rattle.std.specs.Prelude.{Some, None, slice_get, nat_lt, if◌then◌else◌}
use Rattle.std.specs.Ordering.{int_eq}
use Rattle.std.proofs.Math.Seq.{drop-cons}
use Rattle.std.proofs.lemmas.Bool.{lt-ltb, ltb-true}
use Rattle.std.proofs.lemmas.Bool.Decides.{Decides-int_eq}
use Rattle.std.proofs.lemmas.Int.{to_z-of_z}
use Rattle.std.proofs.lemmas.Option.{slice_get_within, get_or_from_slice_get, none-some}
use Rattle.jvm_model.specs.Instructions.LocalRules.{target_at, target_of}

pub drop-at : {A : Type 0} (xs : List A) (i : ℕ) (x : A) → Some x ≡ slice_get xs i → drop i xs ≡ x ∷ drop (i + 1) xs
drop-at xs i x e =
    let more : suc i ≡ i + 1 = omega arith in
    drop-cons xs i x (slice_get_within xs i x (sym e))
    ∙ (ap (λ y. y ∷ drop (suc i) xs) (get_or_from_slice_get xs i x x (sym e)) ∙ ap (λ k. x ∷ drop k xs) more)

pub drop-past : {A : Type 0} (i : ℕ) (xs : List A) → None ≡ slice_get xs i → drop i xs ≡ []
drop-past zero [] e = refl
drop-past (suc i) [] e = refl
drop-past zero (x ∷ xs) e = absurd (none-some x e)
drop-past (suc i) (x ∷ xs) e = drop-past i xs e

-- ---- what is left of the keys, from the target of the first of them on

pub past : (keys : List ℤ) (k : ℕ) (n : ℤ) (i : ℕ) → None ≡ slice_get keys i → target_of (drop i keys) k n ≡ 0
past keys k n i e = rw (drop-past i keys e) refl

pub found : (default : ℕ) (keys : List ℤ) (targets : List ℕ) (n : ℤ) (i : ℕ) (key : ℤ) → Some key ≡ slice_get keys i → int_eq key n ≡ true
    → slice_get (default ∷ targets) (target_of (drop i keys) (i + 1) n) ≡ slice_get targets i
found default keys targets n i key e same =
    let one : i + 1 ≡ suc i = omega arith in
    rw (drop-at keys i key e) (rw same (ap (slice_get (default ∷ targets)) one))

other : (key n : ℤ) → (key ≡ n → ⊥) → int_eq key n ≡ false
other key n apart = by (int_eq key n) refl
  where
    by : (b : Bool) → int_eq key n ≡ b → int_eq key n ≡ false
    by false e = e
    by true e = absurd (apart ((Decides-int_eq key n).0 e))

pub passed : (keys : List ℤ) (n : ℤ) (i : ℕ) (key : ℤ) → Some key ≡ slice_get keys i → (key ≡ n → ⊥)
    → target_of (drop i keys) (i + 1) n ≡ target_of (drop (i + 1) keys) (i + 1 + 1) n
passed keys n i key e apart =
    let one : suc (i + 1) ≡ i + 1 + 1 = omega arith in
    rw (drop-at keys i key e) (rw (other key n apart) (ap (λ k. target_of (drop (i + 1) keys) k n) one))

pub ruleset keys = (found, passed, past, to_z-of_z)

-- ---- a target at a distance

none-past : (targets : List ℕ) (k : ℕ) → None ≡ slice_get targets k → length targets ≤ k
none-past [] k e = omega arith
none-past (t ∷ targets) zero e = absurd (none-some t e)
none-past (t ∷ targets) (suc k) e = let rest = none-past targets k e in omega (arith, rest)

pub at-there : (default : ℕ) (targets : List ℕ) (k target : ℕ) → Some target ≡ slice_get targets k
    → slice_get (default ∷ targets) (target_at (length targets) (pos k)) ≡ Some target
at-there default targets k target e =
    let within = slice_get_within targets k target (sym e) in
    ap (λ b. slice_get (default ∷ targets) (if b then suc k else 0)) (lt-ltb k (length targets) within) ∙ sym e

pub at-past : (default : ℕ) (targets : List ℕ) (k : ℕ) → None ≡ slice_get targets k
    → slice_get (default ∷ targets) (target_at (length targets) (pos k)) ≡ Some default
at-past default targets k e = by (nat_lt k (length targets)) refl
  where
    by : (b : Bool) → nat_lt k (length targets) ≡ b → slice_get (default ∷ targets) (if nat_lt k (length targets) then suc k else 0) ≡ Some default
    by false is = ap (λ b. slice_get (default ∷ targets) (if b then suc k else 0)) is
    by true is = absurd (let past = none-past targets k e in let below = ltb-true k (length targets) is in omega (arith, past, below))

pub ruleset places = (at-there, at-past)
