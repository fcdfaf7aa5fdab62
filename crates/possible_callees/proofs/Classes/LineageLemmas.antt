-- A class more in the lists of those by which one comes to it.
use Rattle.std.proofs.Common.{◌≡◌, ℕ, zero, suc, ◌<◌, ◌≤◌, Bool, true, false, List, [], ◌∷◌, ◌++◌, length, get_or, take, ◌+◌, ap, sym, subst, refl, ◌∙◌, arith, inl, inr}
use Rattle.std.specs.List.{AllByRecursion}
use Rattle.std.specs.Prelude.{◌⊎◌, replicate, Some, nat_lt, slice_get, ◌==◌, if◌then◌else◌}
use Rattle.std.proofs.lemmas.Bool.{ltb-false, ltb-true, false≢true, or_cases, or_left, or_right, eqb-true}
use Rattle.std.proofs.lemmas.Option.{none-some, same_Some}
use Rattle.std.proofs.Math.Bool.{or-false}
use Rattle.jf_bytes.proofs.Tests.{equals_itself}
use Rattle.jvm_model.specs.declared.program.Program.{Program}
use Rattle.jvm_model.specs.Classes.Load.{is_among}
use Rattle.jvm_model.specs.Classes.Lookup.{interfaces_of, is_subtype, superclass_of}
use Rattle.jvm_model.specs.Soundness.Sound.{HasSupertypes}
use Rattle.jvm_model.proofs.Loading.Among.{among-append}
use Rattle.class_index.specs.Orders.{with_class}
use Rattle.possible_callees.specs.declared.lineage.Lineage.{Lineage}
use Rattle.possible_callees.specs.Lineages.{AreFollowed, IsClosed, IsLed, IsLineage, IsNoted, LeadTo, direct, class_noted}
use Rattle.possible_callees.specs.Tables.{Adds, IsPrefix, list_at, with_item}
use Rattle.possible_callees.proofs.Numbers.Fronts.{front-among}
use Rattle.possible_callees.proofs.Numbers.TableLemmas.{at-other, at-same, length-with, nothing_past}

pub below-or-past : (a b : ℕ) → (a < b) ⊎ (b ≤ a)
below-or-past a b = by (nat_lt a b) refl
  where
    by : (t : Bool) → nat_lt a b ≡ t → (a < b) ⊎ (b ≤ a)
    by true e = inl (ltb-true a b e)
    by false e = inr (ltb-false a b e)

-- what stands in a list when an item was added to one
among-item : (item n k x : ℕ) (lists : List (List ℕ)) → is_among x (list_at (with_item n item lists) k) ≡ true
    → (is_among x (list_at lists k) ≡ true) ⊎ ((x ≡ item) × (k ≡ n))
among-item item n k x lists h = by (k == n) refl
  where
    there : k ≡ n → (n < length lists) ⊎ (length lists ≤ n) → (is_among x (list_at lists k) ≡ true) ⊎ ((x ≡ item) × (k ≡ n))
    there same (inl within) =
        elim (or_cases (is_among x (list_at lists n)) (is_among x (item ∷ []))
        (sym (among-append x (list_at lists n) (item ∷ [])) ∙ (sym (ap (is_among x) (at-same item n lists within)) ∙ (ap (λ j. is_among x (list_at (with_item n item lists) j)) (sym same) ∙ h)))) [
          | inl a ↦ inl (ap (λ j. is_among x (list_at lists j)) same ∙ a)
          | inr b ↦ inr (eqb-true x item (sym (or-false (x == item)) ∙ b), same)
        ]
    there same (inr past) = inl (ap (λ l. is_among x (list_at l k)) (nothing_past item n lists past) ∙ h)

    by : (b : Bool) → (k == n) ≡ b → (is_among x (list_at lists k) ≡ true) ⊎ ((x ≡ item) × (k ≡ n))
    by true e = there (eqb-true k n e) (below-or-past n (length lists))
    by false e = inl (sym (ap (is_among x) (at-other item n k lists e)) ∙ h)

pub item-kept : (item n k x : ℕ) (lists : List (List ℕ)) → is_among x (list_at lists k) ≡ true → is_among x (list_at (with_item n item lists) k) ≡ true
item-kept item n k x lists h = by (k == n) refl
  where
    there : k ≡ n → (n < length lists) ⊎ (length lists ≤ n) → is_among x (list_at (with_item n item lists) k) ≡ true
    there same (inl within) =
        ap (λ j. is_among x (list_at (with_item n item lists) j)) same
        ∙ (ap (is_among x) (at-same item n lists within) ∙ (among-append x (list_at lists n) (item ∷ [])
        ∙ or_left (is_among x (list_at lists n)) (is_among x (item ∷ [])) (ap (λ j. is_among x (list_at lists j)) (sym same) ∙ h)))
    there same (inr past) = sym (ap (λ l. is_among x (list_at l k)) (nothing_past item n lists past)) ∙ h

    by : (b : Bool) → (k == n) ≡ b → is_among x (list_at (with_item n item lists) k) ≡ true
    by true e = there (eqb-true k n e) (below-or-past n (length lists))
    by false e = ap (is_among x) (at-other item n k lists e) ∙ h

pub noted-nothing : (lower : ℕ) (classes : List ℕ) (lists : List (List ℕ)) → IsNoted lower classes lists lists
noted-nothing lower classes lists = record { places = refl; only = λ class x h. inl h; more = λ class x h. h }

pub noted-more : (lower : ℕ) (classes : List ℕ) (before after : List (List ℕ)) (class : ℕ) → is_among class classes ≡ true
    → IsNoted lower classes before after → IsNoted lower classes before (with_item class lower after)
noted-more lower classes before after class there is = record {
  places = length-with lower class after ∙ is.places;
  only = λ k x h. elim (among-item lower class k x after h) [
    | inl a ↦ is.only k x a
    | inr b ↦ inr (b.0, ap (λ j. is_among j classes) b.1 ∙ there)
  ];
  more = λ k x h. item-kept lower class k x after (is.more k x h);
}

-- an element of a list that is gone through
pub among-at : (xs : List ℕ) (i x : ℕ) → slice_get xs i ≡ Some x → is_among x xs ≡ true
among-at [] i x e = absurd (none-some x e)
among-at (y ∷ xs) zero x e = or_left (x == y) (is_among x xs) (ap (λ z. x == z) (same_Some y x e) ∙ equals_itself x)
among-at (y ∷ xs) (suc i) x e = or_right (x == y) (is_among x xs) (among-at xs i x e)

pub among-get : (xs : List ℕ) (i : ℕ) → i < length xs → is_among (get_or xs i 0) xs ≡ true
among-get [] i within = absurd (omega (arith, within))
among-get (y ∷ xs) zero within = or_left (y == y) (is_among y xs) (equals_itself y)
among-get (y ∷ xs) (suc i) within = or_right (get_or xs i 0 == y) (is_among (get_or xs i 0) xs) (among-get xs i (omega (arith, within)))

-- each of the lists has it
pub noted-there : (lower : ℕ) (below : List (List ℕ)) (classes : List ℕ) (k : ℕ) → k < length below
    → (is_among lower (list_at below k) ≡ true) ⊎ (is_among k classes ≡ true) → is_among lower (list_at (class_noted lower below classes) k) ≡ true
noted-there lower below [] k within (inl h) = h
noted-there lower below [] k within (inr h) = absurd (false≢true h)
noted-there lower below (class ∷ rest) k within (inl h) =
    noted-there lower (with_item class lower below) rest k (subst (λ n. k < n) (sym (length-with lower class below)) within)
    (inl (item-kept lower class k lower below h))
noted-there lower below (class ∷ rest) k within (inr h) =
    let longer = subst (λ n. k < n) (sym (length-with lower class below)) within in
    elim (or_cases (k == class) (is_among k rest) h) [
      | inl same ↦ noted-there lower (with_item class lower below) rest k longer
          (inl (ap (is_among lower) (ap (λ j. list_at (with_item j lower below) k) (sym (eqb-true k class same)) ∙ at-same lower k below within)
          ∙ (among-append lower (list_at below k) (lower ∷ []) ∙ or_right (is_among lower (list_at below k)) (is_among lower (lower ∷ []))
          (or_left (lower == lower) false (equals_itself lower)))))
      | inr behind ↦ noted-there lower (with_item class lower below) rest k longer (inr behind)
    ]

among-with : (m : ℕ) (a : List ℕ) (x : ℕ) → is_among m (with_class a x) ≡ true → (is_among m a ≡ true) ⊎ (m ≡ x)
among-with m a x h = by (is_among x a) h
  where
    by : (b : Bool) → is_among m (if b then a else a ++ x ∷ []) ≡ true → (is_among m a ≡ true) ⊎ (m ≡ x)
    by true h = inl h
    by false h =
        elim (or_cases (is_among m a) (is_among m (x ∷ [])) (sym (among-append m a (x ∷ [])) ∙ h)) [
          | inl k ↦ inl k
          | inr k ↦ inr (eqb-true m x (sym (or-false (m == x)) ∙ k))
        ]

length-replicate : (n : ℕ) → length (replicate {A = List ℕ} n []) ≡ n
length-replicate zero = refl
length-replicate (suc n) = ap suc (length-replicate n)

-- a class that another one names is loaded before it
pub loaded-before : (p : Program) (loaded : List ℕ) (class : ℕ) → HasSupertypes p (loaded ++ class ∷ []) → (d : ℕ) → is_among d (direct p class) ≡ true
    → (d == class) ≡ false → is_among d loaded ≡ true
loaded-before p loaded class above d there other =
    elim (or_cases (is_among d loaded) (is_among d (class ∷ [])) (sym (among-append d loaded (class ∷ [])) ∙ in-all)) [
      | inl a ↦ a
      | inr b ↦ absurd (false≢true (sym other ∙ (sym (or-false (d == class)) ∙ b)))
    ]
  where
    itself-loaded : is_among class (loaded ++ class ∷ []) ≡ true
    itself-loaded =
        among-append class loaded (class ∷ []) ∙ or_right (is_among class loaded) (is_among class (class ∷ [])) (or_left (class == class) false (equals_itself class))

    of-all : (xs : List ℕ) → AllByRecursion (λ x. is_among x (loaded ++ class ∷ []) ≡ true) xs → is_among d xs ≡ true → is_among d (loaded ++ class ∷ []) ≡ true
    of-all [] each h = absurd (false≢true h)
    of-all (x ∷ xs) each h =
        elim (or_cases (d == x) (is_among d xs) h) [
          | inl same ↦ ap (λ y. is_among y (loaded ++ class ∷ [])) (eqb-true d x same) ∙ each.0
          | inr behind ↦ of-all xs each.1 behind
        ]

    in-all : is_among d (loaded ++ class ∷ []) ≡ true
    in-all =
        elim (or_cases (is_among d (interfaces_of p class)) (is_among d (superclass_of p class)) (sym (among-append d (interfaces_of p class) (superclass_of p class)) ∙ there)) [
          | inl a ↦ of-all (interfaces_of p class) (above.interfaces class itself-loaded) a
          | inr b ↦ of-all (superclass_of p class) (above.superclass class itself-loaded) b
        ]

-- closed over more it is closed over less
pub fewer-followed : (lower : ℕ) (uppers : List ℕ) (before after : List (List ℕ)) (classes : List ℕ) → IsNoted lower uppers before after
    → IsClosed after classes → IsClosed before classes
fewer-followed lower uppers before after classes is closed k x there within = closed k x there (is.more k x within)

-- where memory ran out nothing is loaded more
pub lineage-kept : (p : Program) (class : ℕ) (uppers : List ℕ) (before after : Lineage) → IsNoted class uppers before.below.items after.below.items
    → after.loaded ≡ before.loaded → IsLineage p before → IsLineage p after
lineage-kept p class uppers before after is same v = record {
  places = is.places ∙ v.places;
  whole = λ k x classes within there sub own closed. v.whole k x classes within (ap (is_among x) (sym same) ∙ there) sub own
      (fewer-followed class uppers before.below.items after.below.items classes is closed);
}

pub lineage-more : (p : Program) (class : ℕ) (uppers : List ℕ) (before after : Lineage) → LeadTo p before.loaded class uppers
    → IsNoted class uppers before.below.items after.below.items → after.below.items ≡ class_noted class before.below.items uppers
    → after.loaded ≡ with_class before.loaded class → IsLineage p before → IsLineage p after
lineage-more p class uppers before after lead is noted_is loaded v = record {
  places = is.places ∙ v.places;
  whole = λ k x classes within there sub own closed. elim (among-with x before.loaded class (ap (is_among x) (sym loaded) ∙ there)) [
    | inl old ↦ v.whole k x classes within old sub own (fewer-followed class uppers before.below.items after.below.items classes is closed)
    | inr new ↦ ap (λ y. is_among y classes) new ∙ came k classes within (ap (λ y. is_subtype p y k) (sym new) ∙ sub) own closed
  ];
}
  where
    stands : (k : ℕ) → k < length p.classes → is_among k uppers ≡ true → is_among class (list_at after.below.items k) ≡ true
    stands k within there =
        ap (λ l. is_among class (list_at l k)) noted_is
        ∙ noted-there class before.below.items uppers k (subst (λ n. k < n) (sym v.places) within) (inr there)

    came : (k : ℕ) (classes : List ℕ) → k < length p.classes → is_subtype p class k ≡ true → is_among k classes ≡ true → IsClosed after.below.items classes
        → is_among class classes ≡ true
    came k classes within sub own closed = by (lead k within sub)
      where
        led : IsLed p before.loaded uppers k → (s : ℕ) → is_among s classes ≡ true → s < length p.classes → is_among s uppers ≡ true → is_among class classes ≡ true
        led l s there small among = closed s class there (stands s small among)

        by : (class ≡ k) ⊎ IsLed p before.loaded uppers k → is_among class classes ≡ true
        by (inl same) = ap (λ y. is_among y classes) same ∙ own
        by (inr l) = elim l.leads [
          | inl it ↦ led l l.by (ap (λ y. is_among y classes) it ∙ own) l.within l.there
          | inr below ↦ led l l.by
              (v.whole k l.by classes within below.0 below.1 own (fewer-followed class uppers before.below.items after.below.items classes is closed))
              l.within l.there
        ]

-- all that stand above a class lead to it
pub all-lead : (p : Program) (loaded : List ℕ) (class : ℕ) (supertypes : List ℕ) → ((upper : ℕ) → is_among upper supertypes ≡ is_subtype p class upper)
    → LeadTo p loaded class supertypes
all-lead p loaded class supertypes are upper within sub = inr (record { by = upper; there = are upper ∙ sub; within = within; leads = inl refl })

pub nothing-noted : (p : Program) (items : List (List ℕ)) → items ≡ replicate (length p.classes) [] → length items ≡ length p.classes
nothing-noted p items empty = ap length empty ∙ length-replicate (length p.classes)

pub nothing-loaded : (p : Program) (v : Lineage) → v.loaded ≡ [] → v.below.items ≡ replicate (length p.classes) [] → IsLineage p v
nothing-loaded p v none empty = record {
  places = nothing-noted p v.below.items empty;
  whole = λ class lower classes within there sub own closed. absurd (false≢true (sym (ap (is_among lower) none) ∙ there));
}

-- ---- a walk down

take-next : (xs more : List ℕ) (at d class : ℕ) → at < length xs → is_among class (take (suc at) (xs ++ more)) ≡ true
    → (is_among class (take at xs) ≡ true) ⊎ (class ≡ get_or xs at d)
take-next [] more at d class within h = absurd (omega (arith, within))
take-next (x ∷ xs) more zero d class within h =
    elim (or_cases (class == x) false h) [
      | inl same ↦ inr (eqb-true class x same)
      | inr none ↦ absurd (false≢true none)
    ]
take-next (x ∷ xs) more (suc at) d class within h =
    elim (or_cases (class == x) (is_among class (take (suc at) (xs ++ more))) h) [
      | inl same ↦ inl (or_left (class == x) (is_among class (take at xs)) same)
      | inr behind ↦ elim (take-next xs more at d class (omega (arith, within)) behind) [
        | inl a ↦ inl (or_right (class == x) (is_among class (take at xs)) a)
        | inr b ↦ inr b
      ]
    ]

-- what stands in the list of the next one was added
pub followed-next : (below : List (List ℕ)) (found new : List ℕ) (at d next : ℕ) → at < length found → next ≡ get_or found at d → IsPrefix found new
    → Adds found new (list_at below next) → AreFollowed below (take at found) found → AreFollowed below (take (at + 1) new) new
followed-next below found new at d next small there front adds before class lower among within =
    elim (take-next found front.rest at d class small
    (sym (ap (λ l. is_among class (take (suc at) l)) front.is) ∙ (ap (λ n. is_among class (take n new)) (let e : suc at ≡ at + 1 = omega arith in e) ∙ among))) [
      | inl a ↦ front-among found new lower front (before class lower a within)
      | inr same ↦
          adds lower ∙ or_right (is_among lower found) (is_among lower (list_at below next))
          (ap (λ k. is_among lower (list_at below k)) (there ∙ sym same) ∙ within)
    ]
