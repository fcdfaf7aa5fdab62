-- A version more: its method begins in it, and the former one stays where a frame runs it.
use Rattle.std.proofs.Common.{◌≡◌, ◌≢◌, ◌≤◌, ◌<◌, ◌++◌, ℕ, zero, suc, Bool, true, false, List, [], ◌∷◌, length, Option, Some, None, refl, sym, ap, subst, ◌∙◌, arith}
use Rattle.std.specs.Prelude.{not, ◌==◌, ◌&&◌, ◌||◌, slice_get, slice_set, if◌then◌else◌}
use Rattle.std.specs.Option.{IfSome, option_map}
use Rattle.std.proofs.lemmas.Bool.{eqb-true, eq-eqb, ne_eqb, false≢true}
use Rattle.std.proofs.lemmas.List.Folds.{list_any-append}
use Rattle.std.proofs.lemmas.Option.{none-some, same_Some}
use Rattle.frame_stack.specs.FrameLists.{PlacedFrame, pins_of}
use Rattle.method_versions.specs.declared.versions.Held.{Held}
use Rattle.method_versions.specs.Tables.{AreCurrent, held_besides, held_in, is_listed, is_number, is_old, is_superseded_in, method_in}

-- ---- writes

pub set-at : (xs : List ℕ) (i n : ℕ) → i < length xs → slice_get (slice_set xs i n) i ≡ Some n
set-at [] i n lt = absurd (omega arith)
set-at (y ∷ xs) zero n lt = refl
set-at (y ∷ xs) (suc i) n lt = set-at xs i n (omega arith)

pub set-other : (xs : List ℕ) (i j n : ℕ) → (j ≡ i → ⊥) → slice_get (slice_set xs i n) j ≡ slice_get xs j
set-other [] i j n apart = refl
set-other (y ∷ xs) zero zero n apart = absurd (apart refl)
set-other (y ∷ xs) zero (suc j) n apart = refl
set-other (y ∷ xs) (suc i) zero n apart = refl
set-other (y ∷ xs) (suc i) (suc j) n apart = set-other xs i j n (λ same. apart (ap suc same))

pub apart-by : (a b : ℕ) → (a == b) ≡ false → a ≢ b
apart-by a b e same = false≢true (sym e ∙ eq-eqb a b same)

-- what is held at a number behind it
abbrev pub held_after : {T : Type 0} → List PlacedFrame → ℕ → ℕ → Held T → List (Option (Held T)) → ℕ → Option (Held T)
held_after fs new former v before k = if k == new then Some v else held_besides fs (Some former) k (held_in before k)

module _ {T : Type 0} (before : List (Option (Held T))) (current : List ℕ) (method new former : ℕ) (v : Held T) (fs : List PlacedFrame)
    (of : v.method ≡ method) (are : AreCurrent before current) (here : slice_get current method ≡ Some former) (lt : method < length current) (vacant : held_in before new ≡ None) where
  abbrev next : List ℕ
  next = slice_set current method new

  former-held : method_in before former ≡ Some method
  former-held = subst (λ (o : Option ℕ). IfSome o (λ n. method_in before n ≡ Some method)) here (are method)

  held-apart : (n m : ℕ) → method_in before n ≡ Some m → n ≢ new
  held-apart n m is same = none-some m (sym (ap (option_map (λ (h : Held T). h.method)) (ap (held_in before) same ∙ vacant)) ∙ is)

  pub former-apart : former ≢ new
  former-apart = held-apart former method former-held

  module _ (after : List (Option (Held T))) (held : (k : ℕ) → held_in after k ≡ held_after fs new former v before k) where
    at-new : method_in after new ≡ Some method
    at-new = ap (option_map (λ (h : Held T). h.method)) (held new ∙ ap (λ b. if b then Some v else held_besides fs (Some former) new (held_in before new)) (eq-eqb new new refl)) ∙ ap Some of

    at-old : (k : ℕ) → k ≢ new → (is_number k (Some former) && pins_of k fs == 0) ≡ false → held_in after k ≡ held_in before k
    at-old k apart stays =
        held k ∙ (ap (λ b. if b then Some v else held_besides fs (Some former) k (held_in before k)) (ne_eqb k new apart) ∙ ap (λ b. if b then None else held_in before k) stays)

    at-due : (k : ℕ) → k ≢ new → (is_number k (Some former) && pins_of k fs == 0) ≡ true → held_in after k ≡ None
    at-due k apart due =
        held k ∙ (ap (λ b. if b then Some v else held_besides fs (Some former) k (held_in before k)) (ne_eqb k new apart) ∙ ap (λ b. if b then None else held_in before k) due)

    stays-other : (k : ℕ) → former ≢ k → (is_number k (Some former) && pins_of k fs == 0) ≡ false
    stays-other k apart = ap (λ b. b && pins_of k fs == 0) (ne_eqb former k apart)

    pub own-added : AreCurrent after next
    own-added m = by (m == method) refl where
      there : (o : Option ℕ) → m ≢ method → slice_get current m ≡ o → IfSome o (λ n. method_in before n ≡ Some m) → IfSome o (λ n. method_in after n ≡ Some m)
      there None apart is own = tt
      there (Some n) apart is own =
          ap (option_map (λ (h : Held T). h.method))
          (at-old n (held-apart n m own) (stays-other n (λ same. apart (same_Some m method (sym own ∙ (ap (method_in before) (sym same) ∙ former-held))))))
          ∙ own

      by : (b : Bool) → (m == method) ≡ b → IfSome (slice_get next m) (λ n. method_in after n ≡ Some m)
      by true e =
          let same : m ≡ method = eqb-true m method e in
          subst (λ k. IfSome (slice_get next k) (λ n. method_in after n ≡ Some k)) (sym same)
          (subst (λ (o : Option ℕ). IfSome o (λ n. method_in after n ≡ Some method)) (sym (set-at current method new lt)) at-new)
      by false e =
          let apart : m ≢ method = apart-by m method e in
          subst (λ (o : Option ℕ). IfSome o (λ n. method_in after n ≡ Some m)) (sym (set-other current method m new apart)) (there (slice_get current m) apart refl (are m))

    -- ---- what is superseded then

    old-by : (k : ℕ) (o : Option ℕ) → former ≢ k → k ≢ new → is_old next k o ≡ is_old current k o
    old-by k None apart other = refl
    old-by k (Some m) apart other = by (m == method) refl where
      by : (b : Bool) → (m == method) ≡ b → is_old next k (Some m) ≡ is_old current k (Some m)
      by true e =
          let same : m ≡ method = eqb-true m method e in
          let now : slice_get next m ≡ Some new = ap (slice_get next) same ∙ set-at current method new lt in
          let was : slice_get current m ≡ Some former = ap (slice_get current) same ∙ here in
          ap (λ (x : Option ℕ). not (is_number k x)) now
          ∙ (ap not (ne_eqb new k (λ is. other (sym is)) ∙ sym (ne_eqb former k apart)) ∙ sym (ap (λ (x : Option ℕ). not (is_number k x)) was))
      by false e = ap (λ (x : Option ℕ). not (is_number k x)) (set-other current method m new (apart-by m method e))

    pub superseded-other : (k : ℕ) → former ≢ k → k ≢ new → is_superseded_in after next k ≡ is_superseded_in before current k
    superseded-other k apart other =
        ap (λ (h : Option (Held T)). is_old next k (option_map (λ x. x.method) h)) (at-old k other (stays-other k apart)) ∙ old-by k (method_in before k) apart other

    pub superseded-new : is_superseded_in after next new ≡ false
    superseded-new =
        ap (is_old next new) at-new ∙ (ap (λ (x : Option ℕ). not (is_number new x)) (set-at current method new lt) ∙ ap not (eq-eqb new new refl))

    superseded-before : is_superseded_in before current new ≡ false
    superseded-before = ap (λ (h : Option (Held T)). is_old current new (option_map (λ x. x.method) h)) vacant

    former-before : is_superseded_in before current former ≡ false
    former-before = ap (is_old current former) former-held ∙ (ap (λ (x : Option ℕ). not (is_number former x)) here ∙ ap not (eq-eqb former former refl))

    -- it stays
    module _ (pinned : (pins_of former fs == 0) ≡ false) where
      former-stays : is_superseded_in after next former ≡ true
      former-stays =
          ap (λ (h : Option (Held T)). is_old next former (option_map (λ x. x.method) h))
          (at-old former former-apart (ap (λ b. b && pins_of former fs == 0) (eq-eqb former former refl) ∙ pinned))
          ∙ (ap (is_old next former) former-held
          ∙ (ap (λ (x : Option ℕ). not (is_number former x)) (set-at current method new lt) ∙ ap not (ne_eqb new former (λ is. former-apart (sym is)))))

      pub listed-kept : (superseded : List ℕ) → ((k : ℕ) → is_superseded_in before current k ≡ is_listed k superseded)
          → (k : ℕ) → is_superseded_in after next k ≡ is_listed k (superseded ++ former ∷ [])
      listed-kept superseded listed k = by (former == k) refl (k == new) refl where
        with_former : (b : Bool) → (former == k) ≡ b → is_listed k (superseded ++ former ∷ []) ≡ (is_listed k superseded || (b || false))
        with_former b e = list_any-append (λ n. n == k) superseded (former ∷ []) ∙ ap (λ c. is_listed k superseded || (c || false)) e

        or-false : (b : Bool) → (b || (false || false)) ≡ b
        or-false true = refl
        or-false false = refl

        or-true : (b : Bool) → (b || (true || false)) ≡ true
        or-true true = refl
        or-true false = refl

        by : (b : Bool) → (former == k) ≡ b → (c : Bool) → (k == new) ≡ c → is_superseded_in after next k ≡ is_listed k (superseded ++ former ∷ [])
        by true e c d = subst (λ n. is_superseded_in after next n ≡ true) (eqb-true former k e) former-stays ∙ sym (with_former true e ∙ or-true (is_listed k superseded))
        by false e true d =
            let same : k ≡ new = eqb-true k new d in
            ap (is_superseded_in after next) same ∙ (superseded-new ∙ (sym superseded-before ∙ (ap (is_superseded_in before current) (sym same)
            ∙ (listed k ∙ sym (with_former false e ∙ or-false (is_listed k superseded))))))
        by false e false d =
            superseded-other k (apart-by former k e) (apart-by k new d) ∙ (listed k ∙ sym (with_former false e ∙ or-false (is_listed k superseded)))

    -- it is dropped
    module _ (free : (pins_of former fs == 0) ≡ true) where
      former-goes : is_superseded_in after next former ≡ false
      former-goes =
          ap (λ (h : Option (Held T)). is_old next former (option_map (λ x. x.method) h))
          (at-due former former-apart (ap (λ b. b && pins_of former fs == 0) (eq-eqb former former refl) ∙ free))

      pub listed-dropped : (superseded : List ℕ) → ((k : ℕ) → is_superseded_in before current k ≡ is_listed k superseded)
          → (k : ℕ) → is_superseded_in after next k ≡ is_listed k superseded
      listed-dropped superseded listed k = by (former == k) refl (k == new) refl where
        by : (b : Bool) → (former == k) ≡ b → (c : Bool) → (k == new) ≡ c → is_superseded_in after next k ≡ is_listed k superseded
        by true e c d =
            subst (λ n. is_superseded_in after next n ≡ is_listed n superseded) (eqb-true former k e) (former-goes ∙ (sym former-before ∙ listed former))
        by false e true d =
            let same : k ≡ new = eqb-true k new d in
            ap (is_superseded_in after next) same ∙ (superseded-new ∙ (sym superseded-before ∙ (ap (is_superseded_in before current) (sym same) ∙ listed k)))
        by false e false d = superseded-other k (apart-by former k e) (apart-by k new d) ∙ listed k

    pub far-added : new < 4294967296 → ((k : ℕ) → 4294967296 ≤ k → held_in before k ≡ None) → (k : ℕ) → 4294967296 ≤ k → held_in after k ≡ None
    far-added small far k le = by (is_number k (Some former) && pins_of k fs == 0) refl where
      apart : k ≢ new
      apart same = absurd (omega (arith, same, le, small))

      by : (b : Bool) → (is_number k (Some former) && pins_of k fs == 0) ≡ b → held_in after k ≡ None
      by true e = at-due k apart e
      by false e = at-old k apart e ∙ far k le

  -- ---- what code does: the new one is put, and the former one is dropped or stays

  module _ (put : List (Option (Held T))) (puts : (k : ℕ) → held_in put k ≡ (if k == new then Some v else held_in before k)) where
    pub put-kept : (pins_of former fs == 0) ≡ false → (k : ℕ) → held_in put k ≡ held_after fs new former v before k
    put-kept pinned k = puts k ∙ ap (λ (h : Option (Held T)). if k == new then Some v else h) (sym (ap (λ b. if b then None else held_in before k) (stays (former == k) refl))) where
      stays : (b : Bool) → (former == k) ≡ b → (is_number k (Some former) && pins_of k fs == 0) ≡ false
      stays false e = ap (λ b. b && pins_of k fs == 0) e
      stays true e = ap (λ b. b && pins_of k fs == 0) e ∙ subst (λ n. (pins_of n fs == 0) ≡ false) (eqb-true former k e) pinned

    pub put-dropped : (after : List (Option (Held T))) → ((k : ℕ) → held_in after k ≡ (if k == former then None else held_in put k)) → (pins_of former fs == 0) ≡ true
        → (k : ℕ) → held_in after k ≡ held_after fs new former v before k
    put-dropped after drops free k = by (k == former) refl where
      by : (b : Bool) → (k == former) ≡ b → held_in after k ≡ held_after fs new former v before k
      by true e =
          let same : k ≡ former = eqb-true k former e in
          drops k ∙ (ap (λ b. if b then None else held_in put k) e
          ∙ sym (ap (λ b. if b then Some v else held_besides fs (Some former) k (held_in before k)) (ne_eqb k new (λ is. former-apart (sym same ∙ is)))
          ∙ ap (λ b. if b then None else held_in before k)
          (ap (λ b. b && pins_of k fs == 0) (eq-eqb former k (sym same)) ∙ subst (λ n. (pins_of n fs == 0) ≡ true) (sym same) free)))
      by false e =
          drops k ∙ (ap (λ b. if b then None else held_in put k) e
          ∙ (puts k ∙ ap (λ (h : Option (Held T)). if k == new then Some v else h)
          (sym (ap (λ b. if b then None else held_in before k) (ap (λ b. b && pins_of k fs == 0) (ne_eqb former k (λ is. apart-by k former e (sym is))))))))
