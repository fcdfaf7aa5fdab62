-- The superseded versions that no frame runs are dropped, and those that stay are listed.
use Rattle.std.proofs.Common.{◌≡◌, ◌≤◌, ◌++◌, ℕ, Bool, true, false, List, [], ◌∷◌, Option, Some, None, refl, sym, ap, ◌∙◌}
use Rattle.std.specs.Prelude.{not, ◌==◌, ◌&&◌, ◌||◌, filter, slice_get, if◌then◌else◌}
use Rattle.std.specs.List.{list_all}
use Rattle.std.specs.Option.{IfSome, option_map}
use Rattle.std.proofs.lemmas.Bool.{eqb-true, eq-eqb, ne_eqb, false≢true}
use Rattle.std.proofs.lemmas.List.Folds.{list_any-append}
use Rattle.std.proofs.Math.Bool.{and-false}
use Rattle.frame_stack.specs.FrameLists.{PlacedFrame, pins_of}
use Rattle.method_versions.specs.declared.versions.Held.{Held}
use Rattle.method_versions.specs.Tables.{AreCurrent, held_but, held_in, is_listed, is_number, is_old, is_superseded_in, method_in}

-- ---- one number after the other

module _ {T : Type 0} (fs : List PlacedFrame) (slots : List (Option (Held T))) where
  listed-one : (seen : List ℕ) (n k : ℕ) → is_listed k (seen ++ n ∷ []) ≡ (is_listed k seen || ((n == k) || false))
  listed-one seen n k = list_any-append (λ m. m == k) seen (n ∷ [])

  -- one more of them
  pub but-one : (seen : List ℕ) (n : ℕ) (now after : List (Option (Held T))) → ((k : ℕ) → held_in now k ≡ held_but seen fs slots k)
      → ((k : ℕ) → held_in after k ≡ (if (k == n) && pins_of n fs == 0 then None else held_in now k)) → (k : ℕ) → held_in after k ≡ held_but (seen ++ n ∷ []) fs slots k
  but-one seen n now after so drops k =
      drops k ∙ (ap (λ h. if (k == n) && pins_of n fs == 0 then None else h) (so k)
      ∙ (by (n == k) refl (is_listed k seen) ∙ sym (ap (λ b. if b && pins_of k fs == 0 then None else held_in slots k) (listed-one seen n k))))
    where
      flipped : (b : Bool) → (n == k) ≡ b → (k == n) ≡ b
      flipped true e = eq-eqb k n (sym (eqb-true n k e))
      flipped false e = ne_eqb k n (λ same. false≢true (sym e ∙ eq-eqb n k (sym same)))

      joined : Bool → Bool → Bool → Bool → Option (Held T)
      joined a b c d = if a && b then None else if c && d then None else held_in slots k

      by : (b : Bool) → (n == k) ≡ b → (c : Bool) → joined (k == n) (pins_of n fs == 0) c (pins_of k fs == 0) ≡ (if (c || ((n == k) || false)) && pins_of k fs == 0 then None else held_in slots k)
      by false e c =
          ap (λ a. joined a (pins_of n fs == 0) c (pins_of k fs == 0)) (flipped false e)
          ∙ (ap (λ x. if x && pins_of k fs == 0 then None else held_in slots k) (sym (or-false c)) ∙ sym (ap (λ x. if (c || (x || false)) && pins_of k fs == 0 then None else held_in slots k) e))
        where
          or-false : (x : Bool) → (x || (false || false)) ≡ x
          or-false true = refl
          or-false false = refl
      by true e c =
          ap (λ a. joined a (pins_of n fs == 0) c (pins_of k fs == 0)) (flipped true e)
          ∙ (ap (λ b. joined true b c (pins_of k fs == 0)) (ap (λ m. pins_of m fs == 0) (eqb-true n k e))
          ∙ (twice c (pins_of k fs == 0) ∙ sym (ap (λ x. if (c || (x || false)) && pins_of k fs == 0 then None else held_in slots k) e)))
        where
          twice : (c d : Bool) → joined true d c d ≡ (if (c || (true || false)) && d then None else held_in slots k)
          twice true true = refl
          twice true false = refl
          twice false true = refl
          twice false false = refl

-- ---- all of them

listed-filter : (f : ℕ → Bool) (xs : List ℕ) (k : ℕ) → is_listed k (filter f xs) ≡ (is_listed k xs && f k)
listed-filter f [] k = refl
listed-filter f (x ∷ xs) k = by (listed-filter f xs k) (f x) refl (x == k) refl where
  any : List ℕ → Bool
  any ys = is_listed k ys

  kept : (b : Bool) → any (if b then x ∷ filter f xs else filter f xs) ≡ (if b then (x == k) || any (filter f xs) else any (filter f xs))
  kept true = refl
  kept false = refl

  by : any (filter f xs) ≡ (any xs && f k) → (b : Bool) → f x ≡ b → (c : Bool) → (x == k) ≡ c → any (if f x then x ∷ filter f xs else filter f xs) ≡ (((x == k) || any xs) && f k)
  by rest true e true d =
      ap (λ z. any (if z then x ∷ filter f xs else filter f xs)) e ∙ (ap (λ z. z || any (filter f xs)) d
      ∙ sym (ap (λ z. (z || any xs) && f k) d ∙ (ap f (sym (eqb-true x k d)) ∙ e)))
  by rest true e false d =
      ap (λ z. any (if z then x ∷ filter f xs else filter f xs)) e ∙ (ap (λ z. z || any (filter f xs)) d
      ∙ (rest ∙ sym (ap (λ z. (z || any xs) && f k) d)))
  by rest false e true d =
      ap (λ z. any (if z then x ∷ filter f xs else filter f xs)) e ∙ (rest
      ∙ (ap (λ z. any xs && z) none ∙ (and-false (any xs) ∙ sym (ap (λ z. (z || any xs) && f k) d ∙ none))))
    where
      none : f k ≡ false
      none = ap f (sym (eqb-true x k d)) ∙ e
  by rest false e false d =
      ap (λ z. any (if z then x ∷ filter f xs else filter f xs)) e ∙ (rest ∙ sym (ap (λ z. (z || any xs) && f k) d))

module _ {T : Type 0} (fs : List PlacedFrame) (before after : List (Option (Held T))) (current superseded : List ℕ)
    (listed : (k : ℕ) → is_superseded_in before current k ≡ is_listed k superseded) (held : (k : ℕ) → held_in after k ≡ held_but superseded fs before k) where
  abbrev kept : ℕ → Bool
  kept k = not (pins_of k fs == 0)

  pub listed-left : (k : ℕ) → is_superseded_in after current k ≡ is_listed k (filter kept superseded)
  listed-left k =
      ap (λ (h : Option (Held T)). is_old current k (option_map (λ x. x.method) h)) (held k)
      ∙ (by (is_listed k superseded) refl (pins_of k fs == 0) refl ∙ sym (listed-filter kept superseded k))
    where
      left : Bool → Option (Held T)
      left b = if b then None else held_in before k

      by : (b : Bool) → is_listed k superseded ≡ b → (c : Bool) → (pins_of k fs == 0) ≡ c
          → is_old current k (option_map (λ (x : Held T). x.method) (left (is_listed k superseded && pins_of k fs == 0))) ≡ (is_listed k superseded && not (pins_of k fs == 0))
      by true e true d =
          ap (λ z. is_old current k (option_map (λ (x : Held T). x.method) (left (z && pins_of k fs == 0)))) e
          ∙ (ap (λ z. is_old current k (option_map (λ (x : Held T). x.method) (left z))) d ∙ sym (ap (λ z. z && not (pins_of k fs == 0)) e ∙ ap not d))
      by true e false d =
          ap (λ z. is_old current k (option_map (λ (x : Held T). x.method) (left (z && pins_of k fs == 0)))) e
          ∙ (ap (λ z. is_old current k (option_map (λ (x : Held T). x.method) (left z))) d
          ∙ ((listed k ∙ e) ∙ sym (ap (λ z. z && not (pins_of k fs == 0)) e ∙ ap not d)))
      by false e c d =
          ap (λ z. is_old current k (option_map (λ (x : Held T). x.method) (left (z && pins_of k fs == 0)))) e
          ∙ ((listed k ∙ e) ∙ sym (ap (λ z. z && not (pins_of k fs == 0)) e))

  pub own-left : AreCurrent before current → AreCurrent after current
  own-left are m = there (slice_get current m) refl (are m) where
    there : (o : Option ℕ) → slice_get current m ≡ o → IfSome o (λ n. method_in before n ≡ Some m) → IfSome o (λ n. method_in after n ≡ Some m)
    there None is own = tt
    there (Some n) is own = ap (option_map (λ (h : Held T). h.method)) (held n ∙ ap (λ b. if b && pins_of n fs == 0 then None else held_in before n) none) ∙ own where
      none : is_listed n superseded ≡ false
      none = sym (listed n) ∙ (ap (is_old current n) own ∙ (ap (λ (o : Option ℕ). not (is_number n o)) is ∙ ap not (eq-eqb n n refl)))

  pub far-left : ((k : ℕ) → 4294967296 ≤ k → held_in before k ≡ None) → (k : ℕ) → 4294967296 ≤ k → held_in after k ≡ None
  far-left far k le = held k ∙ by (is_listed k superseded && pins_of k fs == 0) where
    by : (b : Bool) → (if b then None else held_in before k) ≡ None
    by true = refl
    by false = far k le

-- ---- none of them

-- frames run each of these
pub none-free : (fs : List PlacedFrame) (numbers : List ℕ) (k : ℕ) → list_all (λ n. not (pins_of n fs == 0)) numbers ≡ true
    → (is_listed k numbers && pins_of k fs == 0) ≡ false
none-free fs [] k all = refl
none-free fs (n ∷ rest) k all = by (none-free fs rest k) (n == k) refl (pins_of n fs == 0) refl where
  first : (b : Bool) → (pins_of n fs == 0) ≡ b → (not b && list_all (λ m. not (pins_of m fs == 0)) rest) ≡ true
  first b e = ap (λ c. not c && list_all (λ m. not (pins_of m fs == 0)) rest) (sym e) ∙ all

  by : (list_all (λ m. not (pins_of m fs == 0)) rest ≡ true → (is_listed k rest && pins_of k fs == 0) ≡ false) → (b : Bool) → (n == k) ≡ b
      → (c : Bool) → (pins_of n fs == 0) ≡ c → (((n == k) || is_listed k rest) && pins_of k fs == 0) ≡ false
  by more b e true d = absurd (false≢true (first true d))
  by more true e false d = ap (λ z. (z || is_listed k rest) && pins_of k fs == 0) e ∙ (ap (λ m. pins_of m fs == 0) (sym (eqb-true n k e)) ∙ d)
  by more false e false d = ap (λ z. (z || is_listed k rest) && pins_of k fs == 0) e ∙ more (first false d)
