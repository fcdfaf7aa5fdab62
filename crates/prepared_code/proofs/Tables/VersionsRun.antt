-- A table of versions of the original code can be run, stands for the run, and does so when a version is added.
use Rattle.std.proofs.Common.{◌≡◌, ◌≤◌, ◌<◌, ◌+◌, ◌-◌, ℕ, zero, suc, Bool, true, false, cond, List, [], ◌∷◌, length, Option, Some, None, refl, sym, ap, subst, ◌∙◌, ⊎_elim, inl, inr, arith}
use Rattle.std.specs.Prelude.{max, not, is_some, slice_get, slice_set, unwrap_or, ◌==◌, ◌&&◌, if◌then◌else◌}
use Rattle.std.specs.List.{AllByRecursion}
use Rattle.std.specs.Option.{IfSome, option_and_then, option_map, option_map_or}
use Rattle.std.proofs.lemmas.Bool.{cases_lt, eq-eqb, eqb-true, ne_eqb}
use Rattle.std.proofs.lemmas.List.{length-set}
use Rattle.std.proofs.lemmas.Option.{none-some, same_Some, slice_get_past}
use Rattle.std.proofs.Math.Bool.{and-false}
use Rattle.jvm_model.specs.declared.program.Program.{Program}
use Rattle.jvm_model.specs.declared.state.Entry.{Entry}
use Rattle.jvm_model.specs.declared.state.Entry.TheVariants.{Active, Initializing}
use Rattle.jvm_model.specs.declared.state.State.{State}
use Rattle.jvm_model.specs.Basis.Data.{Instruction, World}
use Rattle.jvm_model.specs.Codes.Moved.{IsMovedListing, moved_stack, at_homes}
use Rattle.jvm_model.specs.Codes.Originals.{original}
use Rattle.jvm_model.specs.Running.Run.{step}
use Rattle.jvm_model.specs.Soundness.Sound.{CanAttempt, HasClass, IsFit}
use Rattle.jvm_model.specs.Rewriting.StandsForRun.{KeepVersions, StandsFor}
use Rattle.jvm_model.proofs.Soundness.SoundLines.{can-attempt}
use Rattle.jvm_model.proofs.Relocated.StandsForRun.{stands_for-kept, step-stands_for}
use Rattle.prepared_code.specs.Tables.{IsAdded, Releases, Version, Versions, version_at}
use Rattle.prepared_code.specs.Ready.{CanRun, IsHeldVersion, IsOwnLine, RunsIn}
use Rattle.jvm_model.specs.Soundness.SoundListings.{IsSoundEntry}
use Rattle.prepared_code.specs.Versions.{current_of, instruction_in, line_at, line_in, method_of, listing_of}
use Rattle.prepared_code.specs.VersionListings.{AreVersions, HasCurrent, IsVersionOf, homes_left, homes_where, homes_with}
use Rattle.prepared_code.specs.Standing.{IsPinned}
use Rattle.frame_stack.specs.FrameLists.{PlacedFrame, pins_of}
use Rattle.method_versions.specs.Tables.{held_besides, is_number, is_old, is_superseded_in}
use Rattle.method_versions.proofs.Adding.{apart-by, set-at, set-other}
use Rattle.prepared_code.proofs.Tables.VersionsAgree.{begins-by, method-held, versions-agree}

has-number : (xs : List ℕ) (i n : ℕ) → i < length xs → slice_get xs i ≡ Some (unwrap_or (slice_get xs i) n)
has-number [] i n lt = absurd (omega arith)
has-number (x ∷ xs) zero n lt = refl
has-number (x ∷ xs) (suc i) n lt = has-number xs i n (omega arith)

module _ (p : Program) (norm : ℕ → ℕ → ℕ) (homes : ℕ → ℕ → ℕ) (v : Versions) (are : AreVersions p norm homes v) where
  -- ---- they can be run

  kept-current : (k : ℕ) → IsHeldVersion v (current_of v k)
  kept-current k =
      ⊎_elim
      (λ (lt : k < length p.methods). inl (ap is_some (are.current k lt).held))
      (λ (le : length p.methods ≤ k).
      let here : current_of v k ≡ 4294967296 + k = ap (λ o. unwrap_or o (4294967296 + k)) (slice_get_past v.current k (omega (arith, are.count))) in inr (omega (arith, here)))
      (cases_lt k (length p.methods))

  attempts-by : IsFit p → (loaded : List ℕ) (version method place : ℕ) (i : Instruction) (o : Option Version) → version_at v version ≡ o → RunsIn v version method → HasClass p loaded method
      → (listing_of v).at version place ≡ Some i → CanAttempt p loaded i.operation
  attempts-by fit loaded version method place i None is runs has e =
      absurd (none-some i (sym (ap (λ (o : Option Version). option_map instruction_in (option_and_then (line_in place) o)) is) ∙ e))
  attempts-by fit loaded version method place i (Some x) is runs has e =
      let found = (are.each version x is).only place i (sym (ap (λ (o : Option Version). option_map instruction_in (option_and_then (line_in place) o)) is) ∙ e) in
      let own : method ≡ x.method = sym runs.0 ∙ method-held p norm homes v are version x is in
      subst (CanAttempt p loaded) found.does
      (can-attempt p fit loaded x.method found.place found.instruction (subst (HasClass p loaded) own has) found.there)

  pub versions-can-run : (input : List ℕ) → IsFit p → ((version place : ℕ) → IfSome (line_at v version place) IsOwnLine) → CanRun (record { world = record { program = p; input = input }; versions = v })
  versions-can-run input fit lines = record {
    fit = fit;
    lines = lines;
    listing = record {
      begins = λ k. (sym (begins-by p norm homes v are k), kept-current k);
      attempts = λ loaded version method place i runs has e. attempts-by fit loaded version method place i (version_at v version) refl runs has e;
    };
  }

  -- ---- they stand for the run: where original code stays within its places

  pub step-stands : (w : World) → w.program ≡ p → IsMovedListing norm (at_homes norm) (original p) (original p) → (versioned from_original after : State)
      → StandsFor norm (method_of v) homes versioned from_original → after ≡ (step w (listing_of v) versioned).after
      → StandsFor norm (method_of v) homes after (step w (original p) from_original).after
  step-stands w same own versioned from_original after stands made =
      subst (λ s. StandsFor norm (method_of v) homes s (step w (original p) from_original).after) (sym made)
      (step-stands_for norm w (original p) own (method_of v) (current_of v) homes (listing_of v) (versions-agree p norm homes v are) versioned from_original stands)

  -- ---- another table, which holds what these frames run

  module _ (fs : List PlacedFrame) (after : Versions) (news : ℕ → ℕ → ℕ) (count : length after.current ≡ length v.current)
      (same : (k : ℕ) → IsHeldVersion v k → (pins_of k fs == 0) ≡ false → (version_at after k ≡ version_at v k) × (news k ≡ homes k)) where
    same-method : (k : ℕ) → version_at after k ≡ version_at v k → method_of after k ≡ method_of v k
    same-method k is =
        ap (λ (o : Option Version). option_map_or (λ y. y.method) o (max (k - 4294967296) (length after.current))) is
        ∙ ap (λ n. option_map_or (λ (y : Version). y.method) (version_at v k) (max (k - 4294967296) n)) count

    -- by the frames at the homes of their places
    kept-all : (loaded : List ℕ) (between : List Entry) → AllByRecursion (IsSoundEntry (RunsIn v) p loaded) (moved_stack (at_homes homes) between)
        → IsPinned fs (moved_stack (at_homes homes) between) → KeepVersions (method_of v) (method_of after) homes news between
    kept-all loaded [] each pinned = tt
    kept-all loaded (Active f ∷ below) each pinned =
        let one = same f.version each.0.1.1 pinned.0 in (same-method f.version one.0, one.1, kept-all loaded below each.1 pinned.1)
    kept-all loaded (Initializing c part ∷ below) each pinned = kept-all loaded below each.1 pinned.1

    -- what stood for the run stands for it still
    pub kept-stands : (versioned from_original : State) → StandsFor norm (method_of v) homes versioned from_original
        → AllByRecursion (IsSoundEntry (RunsIn v) p versioned.shared.loaded) versioned.stack → IsPinned fs versioned.stack → StandsFor norm (method_of after) news versioned from_original
    kept-stands versioned from_original stands each pinned =
        let is : versioned.stack ≡ moved_stack (at_homes homes) stands.between.stack = ap (λ (s : State). s.stack) stands.versioned_is in
        stands_for-kept (method_of v) (method_of after) homes news norm versioned from_original stands
        (kept-all versioned.shared.loaded stands.between.stack
        (subst (AllByRecursion (IsSoundEntry (RunsIn v) p versioned.shared.loaded)) is each) (subst (IsPinned fs) is pinned))

    kept-runs : (version method : ℕ) → RunsIn v version method → (pins_of version fs == 0) ≡ false → RunsIn after version method
    kept-runs version method (of, inl held) pinned =
        let one = same version (inl held) pinned in (same-method version one.0 ∙ of, inl (ap is_some one.0 ∙ held))
    kept-runs version method (of, inr far) pinned = let one = same version (inr far) pinned in (same-method version one.0 ∙ of, inr far)

    pub kept-entries : (loaded : List ℕ) (stack : List Entry) → AllByRecursion (IsSoundEntry (RunsIn v) p loaded) stack → IsPinned fs stack
        → AllByRecursion (IsSoundEntry (RunsIn after) p loaded) stack
    kept-entries loaded [] each pinned = tt
    kept-entries loaded (Active f ∷ below) each pinned =
        ((each.0.0, kept-runs f.version f.method each.0.1 pinned.0), kept-entries loaded below each.1 pinned.1)
    kept-entries loaded (Initializing class part ∷ below) each pinned = (each.0, kept-entries loaded below each.1 pinned.1)

  -- the homes of what is held still
  left-same : (after : Versions) (k : ℕ) → version_at after k ≡ version_at v k → homes_left after homes k ≡ homes k
  left-same after k is = ap (λ (o : Option Version). homes_where o (homes k)) is ∙ by (version_at v k) refl where
    by : (o : Option Version) → version_at v k ≡ o → homes_where o (homes k) ≡ homes k
    by None none = sym (are.unheld k none)
    by (Some x) some = refl

  left-held : (after : Versions) (k : ℕ) (y : Version) → version_at after k ≡ Some y → homes k ≡ homes_left after homes k
  left-held after k y is = ap (λ (o : Option Version). homes_where o (homes k)) (sym is)

  left-none : (after : Versions) (k : ℕ) → version_at after k ≡ None → homes_left after homes k ≡ (λ at. at)
  left-none after k is = ap (λ (o : Option Version). homes_where o (homes k)) is

  -- the number of the version that a method of the program begins in
  begins-in : (k : ℕ) → k < length p.methods → slice_get v.current k ≡ Some (current_of v k)
  begins-in k lt = has-number v.current k (4294967296 + k) (omega (arith, lt, are.count))

  -- ---- superseded versions are dropped

  module _ (fs : List PlacedFrame) (after : Versions) (released : Releases fs v after) where
    abbrev is_due : ℕ → Bool
    is_due k = is_superseded_in v.slots v.current k && pins_of k fs == 0

    stays : (k : ℕ) → is_due k ≡ false → version_at after k ≡ version_at v k
    stays k e = released.held k ∙ ap (λ b. if b then None else version_at v k) e

    goes : (k : ℕ) → is_due k ≡ true → version_at after k ≡ None
    goes k e = released.held k ∙ ap (λ b. if b then None else version_at v k) e

    pub same-left : (k : ℕ) → IsHeldVersion v k → (pins_of k fs == 0) ≡ false → (version_at after k ≡ version_at v k) × (homes_left after homes k ≡ homes k)
    same-left k is pinned =
        let here : version_at after k ≡ version_at v k = stays k (ap (λ b. is_superseded_in v.slots v.current k && b) pinned ∙ and-false (is_superseded_in v.slots v.current k)) in
        (here, left-same after k here)

    each-left : (k : ℕ) (y : Version) → version_at after k ≡ Some y → IsVersionOf p norm y (homes_left after homes k)
    each-left k y found = by (is_due k) refl where
      by : (b : Bool) → is_due k ≡ b → IsVersionOf p norm y (homes_left after homes k)
      by true e = absurd (none-some y (sym (goes k e) ∙ found))
      by false e = subst (IsVersionOf p norm y) (left-held after k y found) (are.each k y (sym (stays k e) ∙ found))

    current-left : (k : ℕ) → k < length p.methods → HasCurrent after k
    current-left k lt =
        let was = are.current k lt in
        let now : current_of after k ≡ current_of v k = ap (λ ks. unwrap_or (slice_get ks k) (4294967296 + k)) released.current in
        record { version = was.version; held = ap (version_at after) now ∙ (stays (current_of v k) (not-due was) ∙ was.held); own = was.own }
      where
        not-due : HasCurrent v k → is_due (current_of v k) ≡ false
        not-due was =
            ap (λ b. b && pins_of (current_of v k) fs == 0)
            (ap (λ (o : Option Version). is_old v.current (current_of v k) (option_map (λ y. y.method) o)) was.held
            ∙ (ap (λ m. not (is_number (current_of v k) (slice_get v.current m))) was.own
            ∙ (ap (λ o. not (is_number (current_of v k) o)) (begins-in k lt) ∙ ap not (eq-eqb (current_of v k) (current_of v k) refl))))

    far-left : (k : ℕ) → 4294967296 ≤ k → version_at after k ≡ None
    far-left k le = by (is_due k) refl where
      by : (b : Bool) → is_due k ≡ b → version_at after k ≡ None
      by true e = goes k e
      by false e = stays k e ∙ are.far k le

    pub left-versions : AreVersions p norm (homes_left after homes) after
    left-versions = record {
      each = each-left;
      unheld = left-none after;
      current = current-left;
      count = ap length released.current ∙ are.count;
      far = far-left;
      bounds = are.bounds;
    }

  -- ---- a version more

  module _ (fs : List PlacedFrame) (number : ℕ) (x : Version) (home : ℕ → ℕ) (after : Versions) (added : IsAdded fs number x v after) where
    abbrev news : ℕ → ℕ → ℕ
    news = homes_with after number home homes

    abbrev former : Option ℕ
    former = slice_get v.current x.method

    abbrev is_former : ℕ → Bool
    is_former k = is_number k former && pins_of k fs == 0

    here : version_at after number ≡ Some x
    here = added.held number ∙ ap (λ b. if b then Some x else held_besides fs former number (version_at v number)) (eq-eqb number number refl)

    apart : (k : ℕ) → (k ≡ number → ⊥) → version_at after k ≡ (if is_former k then None else version_at v k)
    apart k other = added.held k ∙ ap (λ b. if b then Some x else held_besides fs former k (version_at v k)) (ne_eqb k number other)

    news-apart : (k : ℕ) → (k ≡ number → ⊥) → news k ≡ homes_left after homes k
    news-apart k other = ap (λ b. cond b home (homes_left after homes k)) (ne_eqb k number other)

    news-here : news number ≡ home
    news-here = ap (λ b. cond b home (homes_left after homes number)) (eq-eqb number number refl)

    held-apart : (k : ℕ) (y : Version) → version_at v k ≡ Some y → k ≡ number → ⊥
    held-apart k y is same = none-some y (sym added.vacant ∙ (ap (version_at v) (sym same) ∙ is))

    pub count-added : length after.current ≡ length v.current
    count-added = ap length added.current ∙ length-set v.current x.method number

    pub same-added : (k : ℕ) → IsHeldVersion v k → (pins_of k fs == 0) ≡ false → (version_at after k ≡ version_at v k) × (news k ≡ homes k)
    same-added k kept pinned =
        let other : k ≡ number → ⊥ = by kept in
        let is : version_at after k ≡ version_at v k = apart k other ∙ ap (λ b. if b then None else version_at v k) (ap (λ b. is_number k former && b) pinned ∙ and-false (is_number k former)) in
        (is, news-apart k other ∙ left-same after k is)
      where
        some-apart : (o : Option Version) → version_at v k ≡ o → is_some o ≡ true → k ≡ number → ⊥
        some-apart None is some same = cc
        some-apart (Some y) is some same = held-apart k y is same

        by : IsHeldVersion v k → k ≡ number → ⊥
        by (inl held) same = some-apart (version_at v k) refl held same
        by (inr far) same = absurd (omega (arith, far, same, added.small))

    module _ (is : IsVersionOf p norm x home) (own : x.method < length p.methods) where
      each-added : (k : ℕ) (y : Version) → version_at after k ≡ Some y → IsVersionOf p norm y (news k)
      each-added k y found = by (k == number) refl (is_former k) refl where
        by : (b : Bool) → (k == number) ≡ b → (c : Bool) → is_former k ≡ c → IsVersionOf p norm y (news k)
        by true e c d =
            let same : k ≡ number = eqb-true k number e in
            let this : y ≡ x = same_Some y x (sym found ∙ (ap (version_at after) same ∙ here)) in
            subst (λ j. IsVersionOf p norm y (news j)) (sym same)
            (subst (IsVersionOf p norm y) (sym news-here) (subst (λ z. IsVersionOf p norm z home) (sym this) is))
        by false e true d =
            absurd (none-some y (sym (apart k (apart-by k number e) ∙ ap (λ b. if b then None else version_at v k) d) ∙ found))
        by false e false d =
            let stays : version_at after k ≡ version_at v k = apart k (apart-by k number e) ∙ ap (λ b. if b then None else version_at v k) d in
            subst (IsVersionOf p norm y) (left-held after k y found ∙ sym (news-apart k (apart-by k number e))) (are.each k y (sym stays ∙ found))

      unheld-added : (k : ℕ) → version_at after k ≡ None → news k ≡ (λ at. at)
      unheld-added k none = by (k == number) refl where
        by : (b : Bool) → (k == number) ≡ b → news k ≡ (λ at. at)
        by true e = absurd (none-some x (sym none ∙ (ap (version_at after) (eqb-true k number e) ∙ here)))
        by false e = news-apart k (apart-by k number e) ∙ left-none after k none

      current-here : (k : ℕ) → k ≡ x.method → HasCurrent after k
      current-here k same =
          let now : current_of after k ≡ number =
          ap (λ o. unwrap_or o (4294967296 + k)) (ap (λ ks. slice_get ks k) added.current ∙ (ap (slice_get (slice_set v.current x.method number)) same
          ∙ set-at v.current x.method number (omega (arith, own, are.count)))) in
          record { version = x; held = ap (version_at after) now ∙ here; own = sym same }

      current-there : (k : ℕ) → k < length p.methods → (k ≡ x.method → ⊥) → HasCurrent after k
      current-there k lt other =
          let was = are.current k lt in
          let now : current_of after k ≡ current_of v k =
          ap (λ o. unwrap_or o (4294967296 + k)) (ap (λ ks. slice_get ks k) added.current ∙ set-other v.current x.method k number other) in
          record {
            version = was.version;
            held = ap (version_at after) now
                ∙ (apart (current_of v k) (held-apart (current_of v k) was.version was.held)
                ∙ (ap (λ b. if b then None else version_at v (current_of v k)) (not-former was) ∙ was.held));
            own = was.own;
          }
        where
          not-former : HasCurrent v k → is_former (current_of v k) ≡ false
          not-former was =
              ap (λ b. b && pins_of (current_of v k) fs == 0)
              (ap (is_number (current_of v k)) (begins-in x.method own)
              ∙ ne_eqb (current_of v x.method) (current_of v k) (λ same. other (sym was.own ∙ (ap (λ (y : Version). y.method) (this same was (are.current x.method own)) ∙ (are.current x.method own).own))))
            where
              this : current_of v x.method ≡ current_of v k → (a : HasCurrent v k) (b : HasCurrent v x.method) → a.version ≡ b.version
              this same a b = same_Some a.version b.version (sym a.held ∙ (ap (version_at v) (sym same) ∙ b.held))

      far-added : (k : ℕ) → 4294967296 ≤ k → version_at after k ≡ None
      far-added k le =
          apart k (λ same. absurd (omega (arith, le, same, added.small))) ∙ by (is_former k) where
            by : (b : Bool) → (if b then None else version_at v k) ≡ None
            by true = refl
            by false = are.far k le

      pub added-versions : AreVersions p norm news after
      added-versions = record {
        each = each-added;
        unheld = unheld-added;
        current = λ k lt. by k lt (k == x.method) refl;
        count = count-added ∙ are.count;
        far = far-added;
        bounds = are.bounds;
      } where
        by : (k : ℕ) → k < length p.methods → (b : Bool) → (k == x.method) ≡ b → HasCurrent after k
        by k lt true e = current-here k (eqb-true k x.method e)
        by k lt false e = current-there k lt (apart-by k x.method e)
