-- The superclasses of a loaded class are each below those behind it.
use Rattle.std.proofs.Common.{◌≡◌, ℕ, zero, suc, true, false, ◌++◌, ap, sym, subst, refl, ◌∙◌, inl, inr}
use Rattle.std.specs.Prelude.{Option, Some, None, flat_map, ◌⊎◌, ◌==◌, ◌||◌}
use Rattle.std.specs.Option.{option_to_list}
use Rattle.std.proofs.lemmas.List.{append-nil}
use Rattle.std.proofs.lemmas.Bool.{false≢true, or_cases, eqb-true}
use Rattle.std.proofs.Math.Bool.{or-true}
use Rattle.jf_bytes.proofs.Tests.{equals_itself}
use Rattle.jvm_model.specs.declared.program.Program.{Program}
use Rattle.jvm_model.specs.Basis.Programs.{super_of}
use Rattle.jvm_model.specs.Classes.Load.{is_among}
use Rattle.jvm_model.specs.Classes.Lookup.{interfaces_of, is_subtype, superclass_of, superclasses_within}
use Rattle.jvm_model.proofs.Loading.Among.{among-behind}
use Rattle.class_linker.specs.Passing.{IsChain}
use Rattle.class_linker.specs.LoadedClasses.{AreLoadedClasses, LoadedClassRows, holds_class}
use Rattle.class_linker.proofs.Subtypes.{IsIn, above_direct, among_flat, direct_has, itself}

module _ (p : Program) (rows : LoadedClassRows) (are : AreLoadedClasses p rows) where
  -- a superclass is a direct supertype
  direct : (c s : ℕ) → is_among s (superclass_of p c) ≡ true → is_among s (interfaces_of p c ++ superclass_of p c) ≡ true
  direct c s there = among-behind s (interfaces_of p c) (superclass_of p c) there

  -- each superclass is a supertype
  supers_above : (n c d : ℕ) → holds_class rows c ≡ true → is_among d (superclasses_within p n c) ≡ true → is_subtype p c d ≡ true
  supers_above zero c d has h = absurd (false≢true h)
  supers_above (suc n) c d has h =
      by (or_cases (d == c) (is_among d (flat_map (superclasses_within p n) (superclass_of p c))) h) (supers_above n)
    where
      behind : IsIn (superclasses_within p n) (superclass_of p c) d
          → ((s x : ℕ) → holds_class rows s ≡ true → is_among x (superclasses_within p n s) ≡ true → is_subtype p s x ≡ true) → is_subtype p c d ≡ true
      behind i rest =
          let there = direct c i.class i.there in
          above_direct p rows are c i.class d has there (rest i.class d (direct_has p rows are c i.class has there) i.within)

      by : ((d == c) ≡ true) ⊎ (is_among d (flat_map (superclasses_within p n) (superclass_of p c)) ≡ true)
          → ((s x : ℕ) → holds_class rows s ≡ true → is_among x (superclasses_within p n s) ≡ true → is_subtype p s x ≡ true) → is_subtype p c d ≡ true
      by (inl same) rest = ap (is_subtype p c) (eqb-true d c same) ∙ itself p rows are c has
      by (inr k) rest = behind (among_flat (superclasses_within p n) (superclass_of p c) d k) rest

  -- the direct superclass has a row
  pub super_has : (c s : ℕ) → holds_class rows c ≡ true → super_of p c ≡ Some s → holds_class rows s ≡ true
  super_has c s has is =
      direct_has p rows are c s has (direct c s (ap (λ o. is_among s (option_to_list o)) is ∙ ap (λ b. b || false) (equals_itself s)))

  pub chain : (n c : ℕ) → holds_class rows c ≡ true → IsChain p (superclasses_within p n c)
  chain zero c has = tt
  chain (suc n) c has = (λ d there. supers_above (suc n) c d has (ap (λ b. (d == c) || b) there ∙ or-true (d == c)), by (super_of p c) refl (chain n))
    where
      by : (o : Option ℕ) → super_of p c ≡ o → ((s : ℕ) → holds_class rows s ≡ true → IsChain p (superclasses_within p n s))
          → IsChain p (flat_map (superclasses_within p n) (option_to_list o))
      by None is rest = tt
      by (Some s) is rest =
          subst (IsChain p) (sym (append-nil (superclasses_within p n s))) (rest s (super_has c s has is))
