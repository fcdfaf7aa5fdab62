-- A version is prepared anew: it is of the same method, and each method begins in the version in which it began.
use Rattle.std.proofs.Common.{◌≡◌, ◌≤◌, ℕ, Bool, true, false, List, Option, Some, None, refl, sym, ap, ◌∙◌}
use Rattle.std.specs.Prelude.{◌==◌, if◌then◌else◌}
use Rattle.std.specs.Option.{IfSome, option_map}
use Rattle.std.proofs.lemmas.Bool.{eqb-true}
use Rattle.method_versions.specs.declared.versions.Held.{Held}
use Rattle.method_versions.specs.Tables.{AreCurrent, Table, current_in, held_anew, held_at, held_in, is_listed, is_old, is_superseded_in, method_in, prepared_anew}

-- where there is no such version nothing changes
pub none-anew : {T : Type 0} (t : Table T) (number : ℕ) (prepared : T) → held_at t number ≡ None → (k : ℕ) → held_at t k ≡ held_anew number prepared t k
none-anew t number prepared none k = by (k == number) refl where
  by : (b : Bool) → (k == number) ≡ b → held_at t k ≡ (if b then option_map (prepared_anew prepared) (held_at t number) else held_at t k)
  by true e = ap (held_at t) (eqb-true k number e) ∙ (none ∙ sym (ap (option_map (prepared_anew prepared)) none))
  by false e = refl

none-held : {T : Type 0} (o : Option (Held T)) → option_map (λ (h : Held T). h.method) o ≡ None → o ≡ None
none-held None e = refl
none-held (Some h) e = absurd cc

module _ {T : Type 0} (before after : List (Option (Held T))) (number : ℕ) (v : Held T) (there : method_in before number ≡ Some v.method)
    (held : (k : ℕ) → held_in after k ≡ (if k == number then Some v else held_in before k)) where
  -- each is of the method of which it was
  pub method-same : (k : ℕ) → method_in after k ≡ method_in before k
  method-same k = ap (option_map (λ (h : Held T). h.method)) (held k) ∙ by (k == number) refl where
    by : (b : Bool) → (k == number) ≡ b → option_map (λ (h : Held T). h.method) (if b then Some v else held_in before k) ≡ method_in before k
    by true e = sym (ap (method_in before) (eqb-true k number e) ∙ there)
    by false e = refl

  pub own-replaced : (current : List ℕ) → AreCurrent before current → AreCurrent after current
  own-replaced current own m = by (current_in current m) (own m) where
    by : (o : Option ℕ) → IfSome o (λ n. method_in before n ≡ Some m) → IfSome o (λ n. method_in after n ≡ Some m)
    by None is = tt
    by (Some n) is = method-same n ∙ is

  pub far-replaced : ((k : ℕ) → 4294967296 ≤ k → held_in before k ≡ None) → (k : ℕ) → 4294967296 ≤ k → held_in after k ≡ None
  far-replaced far k le = none-held (held_in after k) (method-same k ∙ ap (option_map (λ (h : Held T). h.method)) (far k le))

  pub listed-replaced : (current superseded : List ℕ) → ((k : ℕ) → is_superseded_in before current k ≡ is_listed k superseded)
      → (k : ℕ) → is_superseded_in after current k ≡ is_listed k superseded
  listed-replaced current superseded listed k = ap (is_old current k) (method-same k) ∙ listed k
