-- Subtypes among loaded classes: they go on upwards, and never in a circle.
use Rattle.std.proofs.Common.{◌≡◌, ℕ, zero, suc, ◌<◌, ◌≤◌, Bool, true, false, List, [], ◌∷◌, ◌++◌, length, ap, sym, subst, refl, ◌∙◌, arith, length-append, inl, inr}
use Rattle.std.specs.Prelude.{flat_map, ◌⊎◌, ◌==◌, ◌||◌, ◌&&◌}
use Rattle.std.proofs.lemmas.List.Concat.{flat_map-append}
use Rattle.std.proofs.lemmas.Bool.{false≢true, or_cases, eqb-true}
use Rattle.std.proofs.Math.Bool.{or-true}
use Rattle.jf_bytes.proofs.Tests.{equals_itself}
use Rattle.jvm_model.specs.declared.program.Program.{Program}
use Rattle.jvm_model.specs.Classes.Load.{is_among}
use Rattle.jvm_model.specs.Classes.Lookup.{interfaces_of, is_subtype, superclass_of, supertypes, supertypes_within}
use Rattle.jvm_model.proofs.Loading.Among.{among-append, among-front}
use Rattle.class_linker.specs.LoadedClasses.{AreLoadedClasses, LoadedClassRows, holds_all, holds_class, supertypes_in}
use Rattle.class_linker.proofs.Walked.{bound, searched_among, supertypes_rows, supertypes_walked}

-- ---- lists of lists

-- one of the classes, and what stands in its list
pub record IsIn (f : ℕ → List ℕ) (ds : List ℕ) (x : ℕ) : Type 0 where
  pub class : ℕ
  pub there : is_among class ds ≡ true
  pub within : is_among x (f class) ≡ true

found_in_first : (f : ℕ → List ℕ) (d : ℕ) (ds : List ℕ) (x : ℕ) → is_among x (f d) ≡ true → IsIn f (d ∷ ds) x
found_in_first f d ds x h = record { class = d; there = ap (λ b. b || is_among d ds) (equals_itself d); within = h }

found_behind : (f : ℕ → List ℕ) (d : ℕ) (ds : List ℕ) (x : ℕ) → IsIn f ds x → IsIn f (d ∷ ds) x
found_behind f d ds x i =
    record { class = i.class; there = ap (λ b. (i.class == d) || b) i.there ∙ or-true (i.class == d); within = i.within }

pub among_flat : (f : ℕ → List ℕ) (ds : List ℕ) (x : ℕ) → is_among x (flat_map f ds) ≡ true → IsIn f ds x
among_flat f [] x h = absurd (false≢true h)
among_flat f (d ∷ ds) x h =
    by (or_cases (is_among x (f d)) (is_among x (flat_map f ds)) (sym (among-append x (f d) (flat_map f ds)) ∙ h)) (among_flat f ds x)
  where
    by : (is_among x (f d) ≡ true) ⊎ (is_among x (flat_map f ds) ≡ true) → (is_among x (flat_map f ds) ≡ true → IsIn f ds x) → IsIn f (d ∷ ds) x
    by (inl k) rest = found_in_first f d ds x k
    by (inr k) rest = found_behind f d ds x (rest k)

flat_among : (f : ℕ → List ℕ) (ds : List ℕ) (d x : ℕ) → is_among d ds ≡ true → is_among x (f d) ≡ true → is_among x (flat_map f ds) ≡ true
flat_among f [] d x there h = absurd (false≢true there)
flat_among f (e ∷ ds) d x there h = by (d == e) refl there (λ k. flat_among f ds d x k h)
  where
    by : (b : Bool) → (d == e) ≡ b → (b || is_among d ds) ≡ true → (is_among d ds ≡ true → is_among x (flat_map f ds) ≡ true)
        → is_among x (f e ++ flat_map f ds) ≡ true
    by true same k rest = among-front x (f e) (flat_map f ds) (ap (λ c. is_among x (f c)) (sym (eqb-true d e same)) ∙ h)
    by false other k rest =
        among-append x (f e) (flat_map f ds) ∙ (ap (λ b. is_among x (f e) || b) (rest k) ∙ or-true (is_among x (f e)))

flat_length : (f : ℕ → List ℕ) (ds : List ℕ) (d : ℕ) → is_among d ds ≡ true → length (f d) ≤ length (flat_map f ds)
flat_length f [] d there = absurd (false≢true there)
flat_length f (e ∷ ds) d there = by (d == e) refl there (flat_length f ds d)
  where
    by : (b : Bool) → (d == e) ≡ b → (b || is_among d ds) ≡ true → (is_among d ds ≡ true → length (f d) ≤ length (flat_map f ds))
        → length (f d) ≤ length (f e ++ flat_map f ds)
    by true same k rest = subst (λ c. length (f d) ≤ length (f c ++ flat_map f ds)) (eqb-true d e same) (omega (arith, length-append (f d) (flat_map f ds)))
    by false other k rest = omega (arith, length-append (f e) (flat_map f ds), rest k)

all_at : (rows : LoadedClassRows) (xs : List ℕ) (d : ℕ) → holds_all rows xs ≡ true → is_among d xs ≡ true → holds_class rows d ≡ true
all_at rows [] d all there = absurd (false≢true there)
all_at rows (x ∷ xs) d all there = by (d == x) refl there (λ k. all_at rows xs d (second all) k)
  where
    first : (a b : Bool) → (a && b) ≡ true → a ≡ true
    first true b h = refl
    first false b h = absurd (false≢true h)

    second : (holds_class rows x && holds_all rows xs) ≡ true → holds_all rows xs ≡ true
    second h = behind (holds_class rows x) h
      where
        behind : (a : Bool) → (a && holds_all rows xs) ≡ true → holds_all rows xs ≡ true
        behind true h = h
        behind false h = absurd (false≢true h)

    by : (b : Bool) → (d == x) ≡ b → (b || is_among d xs) ≡ true → (is_among d xs ≡ true → holds_class rows d ≡ true) → holds_class rows d ≡ true
    by true same k rest = ap (holds_class rows) (eqb-true d x same) ∙ first (holds_class rows x) (holds_all rows xs) all
    by false other k rest = rest k

-- ---- above a class that has a row

module _ (p : Program) (rows : LoadedClassRows) (are : AreLoadedClasses p rows) where
  abbrev directs : ℕ → List ℕ
  directs c = interfaces_of p c ++ superclass_of p c

  together : (n c : ℕ) → supertypes_within p (suc n) c ≡ c ∷ flat_map (supertypes_within p n) (interfaces_of p c ++ superclass_of p c)
  together n c = ap (λ l. c ∷ l) (sym (flat_map-append (supertypes_within p n) (interfaces_of p c) (superclass_of p c)))

  -- one step more gives the same
  stepped : (c : ℕ) → holds_class rows c ≡ true → supertypes p c ≡ c ∷ flat_map (supertypes p) (interfaces_of p c ++ superclass_of p c)
  stepped c has =
      are.ends c (length p.classes) has (bound p rows are)
      ∙ (sym (are.ends c (suc (length p.classes)) has (let most = bound p rows are in omega (arith, most)))
      ∙ together (length p.classes) c)

  pub itself : (c : ℕ) → holds_class rows c ≡ true → is_among c (supertypes p c) ≡ true
  itself c has = ap (is_among c) (stepped c has)
      ∙ ap (λ b. b || is_among c (flat_map (supertypes p) (interfaces_of p c ++ superclass_of p c))) (equals_itself c)

  pub above_has : (c x : ℕ) → holds_class rows c ≡ true → is_subtype p c x ≡ true → holds_class rows x ≡ true
  above_has c x has sub =
      all_at rows (supertypes_in rows c) x (supertypes_rows p rows are c has)
      (searched_among x (supertypes_in rows c) (supertypes p c) (supertypes_walked p rows are c has) ∙ sub)

  -- a direct supertype is above
  rows_nonempty : (rs : LoadedClassRows) (c : ℕ) → holds_class rs c ≡ true → 0 < length rs
  rows_nonempty [] c has = absurd (false≢true has)
  rows_nonempty (r ∷ rs) c has = omega arith

  among_own : (n d : ℕ) → 0 < n → is_among d (supertypes_within p n d) ≡ true
  among_own zero d some = absurd (omega arith)
  among_own (suc n) d some =
      ap (λ b. b || is_among d (flat_map (supertypes_within p n) (interfaces_of p d) ++ flat_map (supertypes_within p n) (superclass_of p d))) (equals_itself d)

  -- what stands above is the class, or has fewer above it, all of which stand above the class
  pub record IsBelow (c x : ℕ) : Type 0 where
    pub fewer : length (supertypes p x) < length (supertypes p c)
    pub more : (y : ℕ) → is_among y (supertypes p x) ≡ true → is_among y (supertypes p c) ≡ true

  nonempty : (c : ℕ) → holds_class rows c ≡ true → 0 < length p.classes
  nonempty c has = subst (λ n. 0 < n) are.places (rows_nonempty rows c has)

  pub above_direct : (c d x : ℕ) → holds_class rows c ≡ true → is_among d (interfaces_of p c ++ superclass_of p c) ≡ true
      → is_among x (supertypes p d) ≡ true → is_among x (supertypes p c) ≡ true
  above_direct c d x has there h =
      ap (is_among x) (stepped c has)
      ∙ (ap (λ b. (x == c) || b) (flat_among (supertypes p) (interfaces_of p c ++ superclass_of p c) d x there h) ∙ or-true (x == c))

  pub direct_has : (c d : ℕ) → holds_class rows c ≡ true → is_among d (interfaces_of p c ++ superclass_of p c) ≡ true → holds_class rows d ≡ true
  direct_has c d has there =
      above_has c d has (above_direct c d d has there (among_own (length p.classes) d (nonempty c has)))

  below_direct : (c d : ℕ) → holds_class rows c ≡ true → is_among d (interfaces_of p c ++ superclass_of p c) ≡ true → IsBelow c d
  below_direct c d has there = record {
    fewer = fewer;
    more = λ y h. above_direct c d y has there h;
  }
    where
      fewer : length (supertypes p d) < length (supertypes p c)
      fewer = omega (arith, ap length (stepped c has), flat_length (supertypes p) (interfaces_of p c ++ superclass_of p c) d there)

  further : (c d x : ℕ) → IsBelow c d → (x ≡ d) ⊎ IsBelow d x → IsBelow c x
  further c d x below (inl same) = subst (IsBelow c) (sym same) below
  further c d x below (inr above) = record {
    fewer = omega (arith, below.fewer, above.fewer);
    more = λ y h. below.more y (above.more y h);
  }

  climb : (n c x : ℕ) → holds_class rows c ≡ true → is_among x (supertypes_within p n c) ≡ true → (x ≡ c) ⊎ IsBelow c x
  climb zero c x has h = absurd (false≢true h)
  climb (suc n) c x has h =
      by (or_cases (x == c) (is_among x (flat_map (supertypes_within p n) (interfaces_of p c ++ superclass_of p c))) (ap (is_among x) (sym (together n c)) ∙ h))
      (climb n)
    where
      behind : IsIn (supertypes_within p n) (interfaces_of p c ++ superclass_of p c) x
          → ((d y : ℕ) → holds_class rows d ≡ true → is_among y (supertypes_within p n d) ≡ true → (y ≡ d) ⊎ IsBelow d y) → IsBelow c x
      behind i rest =
          further c i.class x (below_direct c i.class has i.there) (rest i.class x (direct_has c i.class has i.there) i.within)

      by : ((x == c) ≡ true) ⊎ (is_among x (flat_map (supertypes_within p n) (interfaces_of p c ++ superclass_of p c)) ≡ true)
          → ((d y : ℕ) → holds_class rows d ≡ true → is_among y (supertypes_within p n d) ≡ true → (y ≡ d) ⊎ IsBelow d y) → (x ≡ c) ⊎ IsBelow c x
      by (inl same) rest = inl (eqb-true x c same)
      by (inr k) rest = inr (behind (among_flat (supertypes_within p n) (interfaces_of p c ++ superclass_of p c) x k) rest)

  climbs : (c x : ℕ) → holds_class rows c ≡ true → is_subtype p c x ≡ true → (x ≡ c) ⊎ IsBelow c x
  climbs c x has sub = climb (length p.classes) c x has sub

  -- ---- what follows

  pub goes_on : (c x y : ℕ) → holds_class rows c ≡ true → is_subtype p c x ≡ true → is_subtype p x y ≡ true → is_subtype p c y ≡ true
  goes_on c x y has sub then = by (climbs c x has sub)
    where
      by : (x ≡ c) ⊎ IsBelow c x → is_subtype p c y ≡ true
      by (inl same) = ap (λ k. is_subtype p k y) (sym same) ∙ then
      by (inr below) = below.more y then

  -- proper supertypes have fewer above them
  pub fewer_above : (c x : ℕ) → holds_class rows c ≡ true → is_subtype p c x ≡ true → (c == x) ≡ false → length (supertypes p x) < length (supertypes p c)
  fewer_above c x has sub other = by (climbs c x has sub)
    where
      by : (x ≡ c) ⊎ IsBelow c x → length (supertypes p x) < length (supertypes p c)
      by (inl same) = absurd (false≢true (sym other ∙ (ap (λ k. c == k) same ∙ equals_itself c)))
      by (inr below) = below.fewer

  pub apart : (c x y : ℕ) → holds_class rows c ≡ true → is_subtype p c x ≡ true → (c == x) ≡ false → is_subtype p x y ≡ true → (x == y) ≡ false
      → (c == y) ≡ false
  apart c x y has sub other then another = by (c == y) refl
    where
      by : (b : Bool) → (c == y) ≡ b → (c == y) ≡ false
      by false e = e
      by true e =
          let more = fewer_above c x has sub other in
          let less = fewer_above x y (above_has c x has sub) then another in
          absurd (omega (arith, more, less, ap (λ k. length (supertypes p k)) (eqb-true c y e)))
