-- Whatever stands above a class is the class, or stands above one that it names itself.
use Rattle.std.proofs.Common.{◌≡◌, ℕ, zero, suc, ◌<◌, ◌≤◌, Bool, true, false, List, [], ◌∷◌, ◌++◌, length, ap, sym, subst, refl, ◌∙◌, arith, inl, inr}
use Rattle.std.specs.Prelude.{flat_map, filter_map, Option, Some, None, ◌==◌, ◌||◌, ◌⊎◌}
use Rattle.std.specs.List.{cons_option}
use Rattle.std.specs.Option.{option_and_then, option_map_or, option_to_list}
use Rattle.std.proofs.lemmas.Option.{none-some, slice_get_within}
use Rattle.std.proofs.lemmas.Bool.{false≢true, or_cases, or_left, or_right, eqb-true}
use Rattle.std.proofs.lemmas.List.{append_assoc}
use Rattle.const_pool.specs.declared.class.ClassFile.{ClassFile}
use Rattle.const_pool.specs.References.{named_class}
use Rattle.jvm_model.specs.declared.program.Program.{Program}
use Rattle.jvm_model.specs.Classes.Load.{is_among}
use Rattle.jvm_model.specs.Classes.Lookup.{interface_names, interfaces_of, is_subtype, superclass_of, supertypes_within}
use Rattle.jvm_model.specs.Basis.Programs.{class_at, class_named, has_name, super_of}
use Rattle.jvm_model.proofs.Soundness.SoundKinds.{named-class}
use Rattle.possible_callees.specs.Lineages.{direct, LeadTo}
use Rattle.possible_callees.proofs.Numbers.Adding.{from_flat, to_flat}
use Rattle.jvm_model.specs.Soundness.Sound.{HasSupertypes}
use Rattle.jvm_model.proofs.Loading.Among.{among-append}
use Rattle.possible_callees.proofs.Classes.LineageLemmas.{loaded-before}

flat-append : (f : ℕ → List ℕ) (xs ys : List ℕ) → flat_map f (xs ++ ys) ≡ flat_map f xs ++ flat_map f ys
flat-append f [] ys = refl
flat-append f (x ∷ xs) ys = ap (λ l. f x ++ l) (flat-append f xs ys) ∙ sym (append_assoc (f x) (flat_map f xs) (flat_map f ys))

module _ (p : Program) where
  abbrev W : ℕ → ℕ → List ℕ
  W n c = supertypes_within p n c

  next : (n c : ℕ) → W (suc n) c ≡ c ∷ flat_map (W n) (direct p c)
  next n c = ap (λ l. c ∷ l) (sym (flat-append (W n) (interfaces_of p c) (superclass_of p c)))

  raised : (n m c x : ℕ) → n ≤ m → is_among x (W n c) ≡ true → is_among x (W m c) ≡ true
  raised zero m c x le h = absurd (false≢true h)
  raised (suc n) zero c x le h = absurd (omega (arith, le))
  raised (suc n) (suc m) c x le h =
      ap (is_among x) (next m c)
      ∙ by (or_cases (x == c) (is_among x (flat_map (W n) (direct p c))) (sym (ap (is_among x) (next n c)) ∙ h)) (λ d k. raised n m d x (omega (arith, le)) k)
    where
      by : ((x == c) ≡ true) ⊎ (is_among x (flat_map (W n) (direct p c)) ≡ true) → ((d : ℕ) → is_among x (W n d) ≡ true → is_among x (W m d) ≡ true)
          → ((x == c) || is_among x (flat_map (W m) (direct p c))) ≡ true
      by (inl a) each = or_left (x == c) (is_among x (flat_map (W m) (direct p c))) a
      by (inr b) each =
          let i = from_flat (W n) (direct p c) x b in
          or_right (x == c) (is_among x (flat_map (W m) (direct p c))) (to_flat (W m) (direct p c) i.item x i.there (each i.item i.within))

  -- one that the class names, and is another class
  pub record IsStep (class upper : ℕ) : Type 0 where
    pub by : ℕ
    pub there : is_among by (direct p class) ≡ true
    pub other : (by == class) ≡ false
    pub above : is_subtype p by upper ≡ true

  step-within : (n c x : ℕ) → n ≤ length p.classes → is_among x (W n c) ≡ true → (c ≡ x) ⊎ IsStep c x
  step-within zero c x le h = absurd (false≢true h)
  step-within (suc n) c x le h =
      by (or_cases (x == c) (is_among x (flat_map (W n) (direct p c))) (sym (ap (is_among x) (next n c)) ∙ h))
      (λ k. step-within n c x (omega (arith, le)) k)
    where
      test : (d : ℕ) (b : Bool) → (d == c) ≡ b → is_among d (direct p c) ≡ true → is_among x (W n d) ≡ true → (is_among x (W n c) ≡ true → (c ≡ x) ⊎ IsStep c x)
          → (c ≡ x) ⊎ IsStep c x
      test d true e there within again = again (ap (λ k. is_among x (W n k)) (sym (eqb-true d c e)) ∙ within)
      test d false e there within again = inr (record { by = d; there = there; other = e; above = raised n (length p.classes) d x (omega (arith, le)) within })

      by : ((x == c) ≡ true) ⊎ (is_among x (flat_map (W n) (direct p c)) ≡ true) → (is_among x (W n c) ≡ true → (c ≡ x) ⊎ IsStep c x) → (c ≡ x) ⊎ IsStep c x
      by (inl a) again = inl (sym (eqb-true x c a))
      by (inr b) again = let i = from_flat (W n) (direct p c) x b in test i.item (i.item == c) refl i.there i.within again

  pub step : (class upper : ℕ) → is_subtype p class upper ≡ true → (class ≡ upper) ⊎ IsStep class upper
  step class upper h = step-within (length p.classes) class upper (omega arith) h

  -- ---- classes of the program

  pub named-within : (name : List ℕ) (d : ℕ) → class_named p name ≡ Some d → d < length p.classes
  named-within name d e = named-class (has_name name) p.classes d e

  pub one-within : (o : Option ℕ) (d : ℕ) → ((k : ℕ) → o ≡ Some k → k < length p.classes) → is_among d (option_to_list o) ≡ true → d < length p.classes
  one-within None d each h = absurd (false≢true h)
  one-within (Some k) d each h =
      elim (or_cases (d == k) false h) [
        | inl a ↦ subst (λ j. j < length p.classes) (sym (eqb-true d k a)) (each k refl)
        | inr b ↦ absurd (false≢true b)
      ]

  among-cons : (o : Option ℕ) (xs : List ℕ) (d : ℕ) → is_among d (cons_option o xs) ≡ true → (is_among d (option_to_list o) ≡ true) ⊎ (is_among d xs ≡ true)
  among-cons None xs d h = inr h
  among-cons (Some k) xs d h =
      elim (or_cases (d == k) (is_among d xs) h) [
        | inl a ↦ inl (or_left (d == k) false a)
        | inr b ↦ inr b
      ]

  filter-within : (names : List (List ℕ)) (d : ℕ) → is_among d (filter_map (class_named p) names) ≡ true → d < length p.classes
  filter-within [] d h = absurd (false≢true h)
  filter-within (name ∷ rest) d h =
      elim (among-cons (class_named p name) (filter_map (class_named p) rest) d h) [
        | inl a ↦ one-within (class_named p name) d (λ k e. named-within name k e) a
        | inr b ↦ filter-within rest d b
      ]

  then-within : (o : Option (List ℕ)) (k : ℕ) → option_and_then (class_named p) o ≡ Some k → k < length p.classes
  then-within None k e = absurd (none-some k e)
  then-within (Some name) k e = named-within name k e

  pub direct-within : (class d : ℕ) → is_among d (direct p class) ≡ true → d < length p.classes
  direct-within class d h =
      elim (or_cases (is_among d (interfaces_of p class)) (is_among d (superclass_of p class)) (sym (among-append d (interfaces_of p class) (superclass_of p class)) ∙ h)) [
        | inl a ↦ filter-within (option_map_or interface_names (class_at p class) []) d a
        | inr b ↦ one-within (super_of p class) d (λ k e. then-within _ k e) b
      ]

  no-direct : (class : ℕ) → class_at p class ≡ None → direct p class ≡ []
  no-direct class e =
      ap (λ (o : Option ClassFile). filter_map (class_named p) (option_map_or interface_names o [])
      ++ option_to_list (option_and_then (class_named p) (option_and_then (λ (k : ClassFile). named_class k.pool k.super_class) o))) e

  -- what stands below a class of the program is one
  pub lower-within : (class upper : ℕ) → upper < length p.classes → is_subtype p class upper ≡ true → class < length p.classes
  lower-within class upper small h = by (class_at p class) refl (step class upper h)
    where
      by : (o : Option ClassFile) → class_at p class ≡ o → (class ≡ upper) ⊎ IsStep class upper → class < length p.classes
      by (Some k) e s = slice_get_within p.classes class k e
      by None e (inl same) = subst (λ n. n < length p.classes) (sym same) small
      by None e (inr s) = absurd (false≢true (sym (ap (is_among s.by) (no-direct class e)) ∙ s.there))

-- where all that stands above a class is loaded, one comes to it by those that the class names itself
pub direct-lead : (p : Program) (loaded : List ℕ) (class : ℕ) → HasSupertypes p (loaded ++ class ∷ []) → LeadTo p loaded class (direct p class)
direct-lead p loaded class above upper within sub =
    elim (step p class upper sub) [
      | inl same ↦ inl same
      | inr s ↦ inr (record {
        by = s.by;
        there = s.there;
        within = direct-within p class s.by s.there;
        leads = inr (loaded-before p loaded class above s.by s.there s.other, s.above);
      })
    ]
