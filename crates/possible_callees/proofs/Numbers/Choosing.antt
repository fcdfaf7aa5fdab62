-- What is made of loaded classes by a list that has all of them that are asked for, and others only that are not
-- loaded.
use Rattle.std.proofs.Common.{◌≡◌, ℕ, Bool, true, false, List, ap, sym, refl, ◌∙◌}
use Rattle.std.specs.Prelude.{filter, filter_map, flat_map, Option, None, if◌then◌else◌}
use Rattle.std.specs.Option.{option_to_list}
use Rattle.std.proofs.lemmas.Bool.{and_from, false≢true, and_parts}
use Rattle.jvm_model.specs.Classes.Load.{is_among}
use Rattle.possible_callees.proofs.Truths.{alike}
use Rattle.possible_callees.proofs.Numbers.Adding.{among-filter, from_flat, made-flat, to_flat}

module _ (loaded given : List ℕ) (asked : ℕ → Bool) (f : ℕ → Option ℕ) (h : ℕ → List ℕ) where
  -- of a class that is loaded
  abbrev of_loaded : ℕ → Option ℕ
  of_loaded x = if is_among x loaded then f x else None

  abbrev listed : ℕ → List ℕ
  listed x = option_to_list (of_loaded x)

  is-loaded : (x m : ℕ) → is_among m (listed x) ≡ true → is_among x loaded ≡ true
  is-loaded x m k = by (is_among x loaded) k
    where
      by : (b : Bool) → is_among m (option_to_list (if b then f x else None)) ≡ true → b ≡ true
      by true k = refl
      by false k = absurd (false≢true k)

  of-it : (x m : ℕ) → is_among x loaded ≡ true → is_among m (listed x) ≡ is_among m (option_to_list (f x))
  of-it x m k = ap (λ b. is_among m (option_to_list (if b then f x else None))) k

  module _ (same : (x : ℕ) → option_to_list (f x) ≡ h x) (sound : (x : ℕ) → is_among x given ≡ true → asked x ≡ true)
      (whole : (x : ℕ) → is_among x loaded ≡ true → asked x ≡ true → is_among x given ≡ true) where
    there : (m : ℕ) → is_among m (flat_map listed given) ≡ true → is_among m (flat_map h (filter asked loaded)) ≡ true
    there m k =
        let i = from_flat listed given m k in
        let known = is-loaded i.item m i.within in
        to_flat h (filter asked loaded) i.item m
        (among-filter asked loaded i.item ∙ and_from (is_among i.item loaded) (asked i.item) known (sound i.item i.there))
        (ap (is_among m) (sym (same i.item)) ∙ (sym (of-it i.item m known) ∙ i.within))

    back : (m : ℕ) → is_among m (flat_map h (filter asked loaded)) ≡ true → is_among m (flat_map listed given) ≡ true
    back m k =
        let i = from_flat h (filter asked loaded) m k in
        let in_both = sym (among-filter asked loaded i.item) ∙ i.there in
        let known = (and_parts (is_among i.item loaded) (asked i.item) in_both).0 in
        to_flat listed given i.item m (whole i.item known (and_parts (is_among i.item loaded) (asked i.item) in_both).1)
        (of-it i.item m known ∙ (ap (is_among m) (same i.item) ∙ i.within))

    pub chosen-alike : (m : ℕ) → is_among m (filter_map of_loaded given) ≡ is_among m (flat_map h (filter asked loaded))
    chosen-alike m =
        ap (is_among m) (made-flat of_loaded given)
        ∙ alike (is_among m (flat_map listed given)) (is_among m (flat_map h (filter asked loaded))) (there m) (back m)

-- the same where each is tested by itself
module _ (loaded given : List ℕ) (asked : ℕ → Bool) (f : ℕ → Option ℕ) (h : ℕ → List ℕ) where
  abbrev tested : ℕ → Option ℕ
  tested x = if asked x then f x else None

  abbrev of_tested : ℕ → Option ℕ
  of_tested x = if is_among x loaded then tested x else None

  module _ (same : (x : ℕ) → option_to_list (f x) ≡ h x) (whole : (x : ℕ) → is_among x loaded ≡ true → asked x ≡ true → is_among x given ≡ true) where
    is-there : (x m : ℕ) → is_among m (option_to_list (of_tested x)) ≡ true
        → (is_among x loaded ≡ true) × ((asked x ≡ true) × (is_among m (option_to_list (f x)) ≡ true))
    is-there x m k = by (is_among x loaded) (asked x) k
      where
        by : (a b : Bool) → is_among m (option_to_list (if a then (if b then f x else None) else None)) ≡ true
            → (a ≡ true) × ((b ≡ true) × (is_among m (option_to_list (f x)) ≡ true))
        by true true k = (refl, (refl, k))
        by true false k = absurd (false≢true k)
        by false b k = absurd (false≢true k)

    to-tested : (x m : ℕ) → is_among x loaded ≡ true → asked x ≡ true → is_among m (option_to_list (f x)) ≡ true → is_among m (option_to_list (of_tested x)) ≡ true
    to-tested x m a b k =
        ap (λ t. is_among m (option_to_list (if t then tested x else None))) a ∙ (ap (λ t. is_among m (option_to_list (if t then f x else None))) b ∙ k)

    tested-there : (m : ℕ) → is_among m (flat_map (λ x. option_to_list (of_tested x)) given) ≡ true → is_among m (flat_map h (filter asked loaded)) ≡ true
    tested-there m k =
        let i = from_flat (λ x. option_to_list (of_tested x)) given m k in
        let is = is-there i.item m i.within in
        to_flat h (filter asked loaded) i.item m (among-filter asked loaded i.item ∙ and_from (is_among i.item loaded) (asked i.item) is.0 is.1.0)
        (ap (is_among m) (sym (same i.item)) ∙ is.1.1)

    tested-back : (m : ℕ) → is_among m (flat_map h (filter asked loaded)) ≡ true → is_among m (flat_map (λ x. option_to_list (of_tested x)) given) ≡ true
    tested-back m k =
        let i = from_flat h (filter asked loaded) m k in
        let in_both = sym (among-filter asked loaded i.item) ∙ i.there in
        let known = (and_parts (is_among i.item loaded) (asked i.item) in_both).0 in
        let wanted = (and_parts (is_among i.item loaded) (asked i.item) in_both).1 in
        to_flat (λ x. option_to_list (of_tested x)) given i.item m (whole i.item known wanted)
        (to-tested i.item m known wanted (ap (is_among m) (same i.item) ∙ i.within))

    pub tested-alike : (m : ℕ) → is_among m (filter_map of_tested given) ≡ is_among m (flat_map h (filter asked loaded))
    tested-alike m =
        ap (is_among m) (made-flat of_tested given)
        ∙ alike (is_among m (flat_map (λ x. option_to_list (of_tested x)) given)) (is_among m (flat_map h (filter asked loaded))) (tested-there m) (tested-back m)
