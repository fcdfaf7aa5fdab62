-- The versions that original code is can be run.
use Rattle.std.proofs.Common.{◌≡◌, ℕ, ◌<◌, ◌≤◌, ◌+◌, ◌-◌, List, length, Option, Some, None, refl, ap, subst, sym, ◌∙◌, ⊎_elim, inl, inr, arith}
use Rattle.std.specs.Prelude.{is_some, max, not, slice_get, unwrap_or}
use Rattle.std.specs.Option.{IfSome, option_and_then, option_map, option_map_or}
use Rattle.std.proofs.lemmas.Bool.{cases_lt, eq-eqb}
use Rattle.std.proofs.lemmas.List.FromFn.{length-map-range_with_len}
use Rattle.std.proofs.lemmas.Option.{none-some}
use Rattle.const_pool.specs.declared.class.ClassFile.{ClassFile}
use Rattle.const_pool.specs.declared.class.Member.{Member}
use Rattle.jvm_model.specs.declared.program.MethodPlace.{MethodPlace}
use Rattle.jvm_model.specs.declared.program.Program.{Program}
use Rattle.jvm_model.specs.Basis.Data.{Instruction}
use Rattle.jvm_model.specs.Basis.Programs.{class_at}
use Rattle.jvm_model.specs.Soundness.Sound.{CanAttempt, HasClass, IsFit}
use Rattle.jvm_model.proofs.Soundness.SoundLines.{can-attempt}
use Rattle.method_versions.specs.Tables.{AreCurrent, IsFirst, is_number, is_old, method_in}
use Rattle.prepared_code.specs.Tables.{AreAllCurrent, Version, Versions, version_at}
use Rattle.prepared_code.specs.Entries.{no_version, original_slot, original_version, original_versions, own_number, version_entry, version_in, version_of}
use Rattle.symbolic_references.specs.ProgramFacts.{world_in}
use Rattle.prepared_code.specs.Ready.{CanRun, RunsIn}
use Rattle.prepared_code.specs.Versions.{current_of, instruction_in, line_in, method_of, listing_of}
use Rattle.prepared_code.proofs.Tables.OriginalVersions.{original-at, original-own}
use Rattle.prepared_code.proofs.Tables.Tabled.{slotted-at, slotted-past, tabled-at, tabled-past}

-- each is of the method with its number
of-member : (k : ℕ) (c : ClassFile) (m : Option Member) → (option_map_or (version_entry k c) m (no_version k)).method ≡ k
of-member k c None = refl
of-member k c (Some m) = refl

of-class : (k : ℕ) (place : MethodPlace) (c : Option ClassFile) → (option_map_or (version_in k place) c (no_version k)).method ≡ k
of-class k place None = refl
of-class k place (Some c) = of-member k c (slice_get c.methods place.position)

pub of-place : (p : Program) (k : ℕ) (place : Option MethodPlace) → (option_map_or (version_of p k) place (no_version k)).method ≡ k
of-place p k None = refl
of-place p k (Some place) = of-class k place (class_at p place.class)

module _ (p : Program) where
  abbrev v : Versions
  v = original_versions p

  abbrev n : ℕ
  n = length p.methods

  pub there : (k : ℕ) → k < n → version_at v k ≡ Some (original_version p k)
  there k lt = slotted-at (original_slot p) n k lt

  pub past : (k : ℕ) → n ≤ k → version_at v k ≡ None
  past k le = slotted-past (original_slot p) n k le

  own-method : (k : ℕ) → k < n → method_of v k ≡ k
  own-method k lt = ap (λ (o : Option Version). option_map_or (λ x. x.method) o (max (k - 4294967296) (length v.current))) (there k lt) ∙ of-place p k (slice_get p.methods k)

  begins-there : (k : ℕ) → k < n → method_of v (current_of v k) ≡ k
  begins-there k lt = ap (λ (o : Option ℕ). method_of v (unwrap_or o (4294967296 + k))) (tabled-at own_number n k lt) ∙ own-method k lt

  begins-past : (k : ℕ) → n ≤ 4294967296 → n ≤ k → method_of v (current_of v k) ≡ k
  begins-past k few le =
      ap (λ (o : Option ℕ). method_of v (unwrap_or o (4294967296 + k))) (tabled-past own_number n k le)
      ∙ (ap (λ (o : Option Version). option_map_or (λ x. x.method) o (max (4294967296 + k - 4294967296) (length v.current))) (past (4294967296 + k) (omega (arith, few)))
      ∙ (ap (max (4294967296 + k - 4294967296)) (length-map-range_with_len own_number 0 n) ∙ omega arith))

  nothing-past : (version place : ℕ) (i : Instruction) → n ≤ version → (listing_of v).at version place ≡ Some i → ⊥
  nothing-past version place i le e = none-some i (sym (ap (λ (o : Option Version). option_map_at o) (past version le)) ∙ e) where
    option_map_at : Option Version → Option Instruction
    option_map_at o = option_map instruction_in (option_and_then (line_in place) o)

  attempts-there : IsFit p → (loaded : List ℕ) (version method place : ℕ) (i : Instruction) → RunsIn v version method → HasClass p loaded method → (listing_of v).at version place ≡ Some i
      → CanAttempt p loaded i.operation
  attempts-there fit loaded version method place i runs has e =
      ⊎_elim
      (λ (lt : version < n). can-attempt p fit loaded version place i (subst (HasClass p loaded) (sym runs.0 ∙ own-method version lt) has) (sym (original-at p version place) ∙ e))
      (λ (le : n ≤ version). absurd (nothing-past version place i le e))
      (cases_lt version n)

  runs-there : (k : ℕ) → k < n → RunsIn v (current_of v k) k
  runs-there k lt =
      let here : current_of v k ≡ k = ap (λ (o : Option ℕ). unwrap_or o (4294967296 + k)) (tabled-at own_number n k lt) in
      (begins-there k lt, inl (ap is_some (ap (version_at v) here ∙ there k lt)))

  runs-past : (k : ℕ) → n ≤ 4294967296 → n ≤ k → RunsIn v (current_of v k) k
  runs-past k few le =
      let here : current_of v k ≡ 4294967296 + k = ap (λ (o : Option ℕ). unwrap_or o (4294967296 + k)) (tabled-past own_number n k le) in
      (begins-past k few le, inr (omega (arith, here)))

  pub original-can-run : (input : List ℕ) → IsFit p → n ≤ 4294967296 → CanRun (record { world = world_in p input; versions = v })
  original-can-run input fit few = record {
    fit = fit;
    lines = original-own p;
    listing = record {
      begins = λ k. ⊎_elim (λ (lt : k < n). runs-there k lt) (λ (le : n ≤ k). runs-past k few le) (cases_lt k n);
      attempts = attempts-there fit;
    };
  }

  -- ---- none is superseded

  pub original-current : AreAllCurrent v
  original-current k =
      ⊎_elim
      (λ (lt : k < n).
      ap (λ (o : Option Version). is_old v.current k (option_map (λ x. x.method) o)) (there k lt)
      ∙ (ap (λ m. not (is_number k (slice_get v.current m))) (of-place p k (slice_get p.methods k))
      ∙ (ap (λ o. not (is_number k o)) (tabled-at own_number n k lt) ∙ ap not (eq-eqb k k refl))))
      (λ (le : n ≤ k). ap (λ (o : Option Version). is_old v.current k (option_map (λ x. x.method) o)) (past k le))
      (cases_lt k n)

  pub original-first : n ≤ 4294967296 → IsFirst v.slots v.current
  original-first few = record {
    own = owned;
    methods = length-map-range_with_len (original_slot p) 0 n ∙ sym (length-map-range_with_len own_number 0 n);
    few = subst (λ m. m ≤ 4294967296) (sym (length-map-range_with_len (original_slot p) 0 n)) few;
    alone = original-current;
  } where
    owned : AreCurrent v.slots v.current
    owned k =
        ⊎_elim
        (λ (lt : k < n).
        subst (λ (o : Option ℕ). IfSome o (λ m. method_in v.slots m ≡ Some k)) (sym (tabled-at own_number n k lt))
        (ap (option_map (λ (x : Version). x.method)) (there k lt) ∙ ap Some (of-place p k (slice_get p.methods k))))
        (λ (le : n ≤ k). subst (λ (o : Option ℕ). IfSome o (λ m. method_in v.slots m ≡ Some k)) (sym (tabled-past own_number n k le)) tt)
        (cases_lt k n)
