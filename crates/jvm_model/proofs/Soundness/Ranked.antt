-- Walks above loaded classes end within as many steps as there are classes: so they go on upwards, whatever bounds
-- them.
use Rattle.std.proofs.Common.{◌≡◌, ℕ, zero, suc, ◌+◌, ◌<◌, ◌≤◌, Bool, true, false, List, [], ◌∷◌, ◌++◌, length, ap, sym, subst, refl, ◌∙◌, eqb-true, inl, inr, arith}
use Rattle.std.proofs.lemmas.Bool.{eq-eqb, cases_eq, false≢true, or_right}
use Rattle.std.proofs.lemmas.List.{append-nil, append_assoc}
use Rattle.std.proofs.lemmas.Option.{slice_get_within, none-some}
use Rattle.std.specs.Prelude.{drop, filter_map, flat_map, nat_lt, unwrap_or, Option, Some, None, ◌==◌, ◌||◌, ◌⊎◌, if◌then◌else◌}
use Rattle.std.specs.List.{AllByRecursion, cons_option}
use Rattle.std.specs.Option.{option_and_then, option_map_or, option_to_list}
use Rattle.jf_bytes.proofs.Tests.{equals_itself}
use Rattle.const_pool.specs.declared.class.ClassFile.{ClassFile}
use Rattle.const_pool.specs.References.{named_class}
use Rattle.jvm_model.specs.Basis.Data.{Ending, Program, Entry, Active, Initializing, Frame, Shared, State, Local, Operation, Operands, Instruction, Turn, World}
use Rattle.jvm_model.specs.Basis.Data as operation
use Rattle.jvm_model.specs.Instructions.Does.{does, loads}
use Rattle.jvm_model.specs.Classes.Load.{is_among, load_of, needs_of}
use Rattle.jvm_model.specs.Classes.Lookup.{interface_names, interfaces_of, is_interface, superclass_of, superclasses_within, superinterfaces_within, supertypes_within}
use Rattle.jvm_model.specs.Instructions.SymbolicReference.{New, newly_loaded, resolved_name, resolves}
use Rattle.jvm_model.specs.Codes.Originals.{original}
use Rattle.jvm_model.specs.Basis.Programs.{class_at, class_named, has_name, name_at, super_of}
use Rattle.jvm_model.specs.Running.Run.{before, loads_if, main_class, main_loads, run, start, steps_at, steps_by, steps_on, turn_in-zero, turn_in-suc, with_classes_loaded}
use Rattle.jvm_model.specs.Basis.SharedState.{arguments_fit}
use Rattle.jvm_model.specs.Soundness.Sound.{IsFit, IsLoaded}
use Rattle.jvm_model.specs.Soundness.SoundListings.{IsSound, IsSoundEntry, RunsOriginal}
use Rattle.jvm_model.proofs.Running.Attempts.{loaded-after}
use Rattle.jvm_model.proofs.Loading.LoadsAgain.{newly-loaded}
use Rattle.jvm_model.proofs.Soundness.SoundKinds.{named-class}
use Rattle.jvm_model.proofs.Soundness.SoundRuns.{with-loaded-is}
use Rattle.jvm_model.proofs.Soundness.SoundListingRuns.{original-sound, at-goes}
use Rattle.jvm_model.proofs.Soundness.SoundClasses.{HasLoaded, among-either, directs, named-load}
use Rattle.jvm_model.specs.Soundness.Climbing.{Climbs}

-- ---- lists

abbrev In : ℕ → List ℕ → Type 0
In x xs = is_among x xs ≡ true

in-first : (x : ℕ) (xs ys : List ℕ) → In x xs → In x (xs ++ ys)
in-first x [] ys e = absurd (false≢true e)
in-first x (y ∷ xs) ys e = by (x == y) e (in-first x xs ys)
  where
    by : (b : Bool) → (b || is_among x xs) ≡ true → (In x xs → In x (xs ++ ys)) → (b || is_among x (xs ++ ys)) ≡ true
    by true e rest = refl
    by false e rest = rest e

in-second : (x : ℕ) (xs ys : List ℕ) → In x ys → In x (xs ++ ys)
in-second x [] ys e = e
in-second x (y ∷ xs) ys e = or_right (x == y) (is_among x (xs ++ ys)) (in-second x xs ys e)

in-either : (x : ℕ) (xs ys : List ℕ) → In x (xs ++ ys) → In x xs ⊎ In x ys
in-either x [] ys h = inr h
in-either x (y ∷ xs) ys h = by (x == y) h (in-either x xs ys)
  where
    by : (b : Bool) → (b || is_among x (xs ++ ys)) ≡ true → (In x (xs ++ ys) → In x xs ⊎ In x ys) → ((b || is_among x xs) ≡ true) ⊎ In x ys
    by true h rest = inl refl
    by false h rest = rest h

-- what stands in a list over these stands in a wider list over them
flat-wider : (f g : ℕ → List ℕ) (ds : List ℕ) (x : ℕ) → AllByRecursion (λ d. (y : ℕ) → In y (f d) → In y (g d)) ds → In x (flat_map f ds) → In x (flat_map g ds)
flat-wider f g [] x each h = h
flat-wider f g (d ∷ ds) x each h = by (in-either x (f d) (flat_map f ds) h) (flat-wider f g ds x each.1)
  where
    by : In x (f d) ⊎ In x (flat_map f ds) → (In x (flat_map f ds) → In x (flat_map g ds)) → In x (g d ++ flat_map g ds)
    by (inl a) rest = in-first x (g d) (flat_map g ds) (each.0 x a)
    by (inr b) rest = in-second x (g d) (flat_map g ds) (rest b)

all-of : (P : ℕ → Type 0) → ((d : ℕ) → P d) → (ds : List ℕ) → AllByRecursion P ds
all-of P each [] = tt
all-of P each (d ∷ ds) = (each d, all-of P each ds)

all-and : (P Q R : ℕ → Type 0) → ((d : ℕ) → P d → Q d → R d) → (ds : List ℕ) → AllByRecursion P ds → AllByRecursion Q ds → AllByRecursion R ds
all-and P Q R both [] first second = tt
all-and P Q R both (d ∷ ds) first second = (both d first.0 second.0, all-and P Q R both ds first.1 second.1)

-- two lists of supertypes behind the class itself
both-wider : (c x : ℕ) (a b cs ds : List ℕ) → (In x a → In x cs) → (In x b → In x ds) → In x (c ∷ (a ++ b)) → In x (c ∷ (cs ++ ds))
both-wider c x a b cs ds first second h = by (x == c) h
  where
    of : In x a ⊎ In x b → In x (cs ++ ds)
    of (inl k) = in-first x cs ds (first k)
    of (inr k) = in-second x cs ds (second k)

    by : (t : Bool) → (t || is_among x (a ++ b)) ≡ true → (t || is_among x (cs ++ ds)) ≡ true
    by true h = refl
    by false h = of (in-either x a b h)

-- ---- how many of the first so many are loaded

abbrev pub count_in : ℕ → List ℕ → ℕ
count_in zero loaded = 0
count_in (suc i) loaded = if is_among i loaded then suc (count_in i loaded) else count_in i loaded

count-most : (n : ℕ) (loaded : List ℕ) → count_in n loaded ≤ n
count-most zero loaded = omega arith
count-most (suc i) loaded = by (is_among i loaded) (count-most i loaded)
  where
    by : (b : Bool) → count_in i loaded ≤ i → (if b then suc (count_in i loaded) else count_in i loaded) ≤ suc i
    by true le = omega arith
    by false le = omega arith

count-more : (n : ℕ) (loaded : List ℕ) (class : ℕ) → count_in n loaded ≤ count_in n (loaded ++ class ∷ [])
count-more zero loaded class = omega arith
count-more (suc i) loaded class = by (is_among i loaded) refl (is_among i (loaded ++ class ∷ [])) refl (count-more i loaded class)
  where
    by : (a : Bool) → is_among i loaded ≡ a → (b : Bool) → is_among i (loaded ++ class ∷ []) ≡ b → count_in i loaded ≤ count_in i (loaded ++ class ∷ [])
        → (if a then suc (count_in i loaded) else count_in i loaded) ≤ (if b then suc (count_in i (loaded ++ class ∷ [])) else count_in i (loaded ++ class ∷ []))
    by true there true e le = omega arith
    by true there false e le = absurd (false≢true (sym e ∙ in-first i loaded (class ∷ []) there))
    by false none true e le = omega arith
    by false none false e le = omega arith

count-grows : (n : ℕ) (loaded : List ℕ) (class : ℕ) → class < n → is_among class loaded ≡ false → count_in n loaded < count_in n (loaded ++ class ∷ [])
count-grows zero loaded class less none = absurd (omega arith)
count-grows (suc i) loaded class less none = elim (cases_eq class i) [
  | inl same ↦
      let was : is_among i loaded ≡ false = ap (λ k. is_among k loaded) (sym same) ∙ none in
      let is : is_among i (loaded ++ class ∷ []) ≡ true = in-second i loaded (class ∷ []) (ap (λ b. b || false) (eq-eqb i class (sym same))) in
      let le = count-more i loaded class in
      subst (λ b. (if b then suc (count_in i loaded) else count_in i loaded) < (if is_among i (loaded ++ class ∷ []) then suc (count_in i (loaded ++ class ∷ [])) else count_in i (loaded ++ class ∷ []))) (sym was)
      (subst (λ b. count_in i loaded < (if b then suc (count_in i (loaded ++ class ∷ [])) else count_in i (loaded ++ class ∷ []))) (sym is) (omega (arith, le)))
  | inr other ↦ by (is_among i loaded) refl (is_among i (loaded ++ class ∷ [])) refl (count-grows i loaded class (omega arith) none)
]
  where
    by : (a : Bool) → is_among i loaded ≡ a → (b : Bool) → is_among i (loaded ++ class ∷ []) ≡ b → count_in i loaded < count_in i (loaded ++ class ∷ [])
        → (if a then suc (count_in i loaded) else count_in i loaded) < (if b then suc (count_in i (loaded ++ class ∷ [])) else count_in i (loaded ++ class ∷ []))
    by true there true e lt = omega arith
    by true there false e lt = absurd (false≢true (sym e ∙ in-first i loaded (class ∷ []) there))
    by false gone true e lt = omega arith
    by false gone false e lt = omega arith

module _ (p : Program) where
  abbrev W : ℕ → ℕ → List ℕ
  W n c = supertypes_within p n c

  -- ---- walks

  wider : (n c x : ℕ) → In x (W n c) → In x (W (suc n) c)
  wider zero c x h = absurd (false≢true h)
  wider (suc n) c x h =
      both-wider c x (flat_map (W n) (interfaces_of p c)) (flat_map (W n) (superclass_of p c)) (flat_map (W (suc n)) (interfaces_of p c)) (flat_map (W (suc n)) (superclass_of p c))
      (flat-wider (W n) (W (suc n)) (interfaces_of p c) x (all-of (λ d. (y : ℕ) → In y (W n d) → In y (W (suc n) d)) (wider n) (interfaces_of p c)))
      (flat-wider (W n) (W (suc n)) (superclass_of p c) x (all-of (λ d. (y : ℕ) → In y (W n d) → In y (W (suc n) d)) (wider n) (superclass_of p c))) h

  further-wider : (k n c x : ℕ) → In x (W n c) → In x (W (n + k) c)
  further-wider zero n c x h = subst (λ m. In x (W m c)) (let e : n ≡ n + 0 = omega arith in e) h
  further-wider (suc k) n c x h = subst (λ m. In x (W m c)) (let e : suc (n + k) ≡ n + suc k = omega arith in e) (wider (n + k) c x (further-wider k n c x h))

  within-more : (n m c x : ℕ) → n ≤ m → In x (W n c) → In x (W m c)
  within-more zero m c x le h = absurd (false≢true h)
  within-more (suc n) zero c x le h = absurd (omega arith)
  within-more (suc n) (suc m) c x le h =
      both-wider c x (flat_map (W n) (interfaces_of p c)) (flat_map (W n) (superclass_of p c)) (flat_map (W m) (interfaces_of p c)) (flat_map (W m) (superclass_of p c))
      (flat-wider (W n) (W m) (interfaces_of p c) x (all-of (λ d. (y : ℕ) → In y (W n d) → In y (W m d)) (λ d y. within-more n m d y (omega arith)) (interfaces_of p c)))
      (flat-wider (W n) (W m) (superclass_of p c) x (all-of (λ d. (y : ℕ) → In y (W n d) → In y (W m d)) (λ d y. within-more n m d y (omega arith)) (superclass_of p c))) h

  -- no walk from the class goes further than this
  abbrev Stable : ℕ → ℕ → Type 0
  Stable r c = (n x : ℕ) → In x (W n c) → In x (W r c)

  raised-stable : (r s c : ℕ) → r ≤ s → Stable r c → Stable s c
  raised-stable r s c le stable n x h = within-more r s c x le (stable n x h)

  next-stable : (r c : ℕ) → AllByRecursion (Stable r) (interfaces_of p c) → AllByRecursion (Stable r) (superclass_of p c) → Stable (suc r) c
  next-stable r c interfaces supers zero x h = absurd (false≢true h)
  next-stable r c interfaces supers (suc n) x h =
      both-wider c x (flat_map (W n) (interfaces_of p c)) (flat_map (W n) (superclass_of p c)) (flat_map (W r) (interfaces_of p c)) (flat_map (W r) (superclass_of p c))
      (flat-wider (W n) (W r) (interfaces_of p c) x (at n (interfaces_of p c) interfaces))
      (flat-wider (W n) (W r) (superclass_of p c) x (at n (superclass_of p c) supers)) h
    where
      at : (n : ℕ) (ds : List ℕ) → AllByRecursion (Stable r) ds → AllByRecursion (λ d. (y : ℕ) → In y (W n d) → In y (W r d)) ds
      at n [] each = tt
      at n (d ∷ ds) each = (λ y h. each.0 n y h, at n ds each.1)

  -- from a class above goes no walk that does not go from the class
  then-above : (a b c x y : ℕ) → In x (W a c) → In y (W b x) → In y (W (a + b) c)
  then-above zero b c x y first second = absurd (false≢true first)
  then-above (suc a) b c x y first second = by (x == c) refl first (λ d k. then-above a b d x y k second)
    where
      over : (ds : List ℕ) → ((d : ℕ) → In x (W a d) → In y (W (a + b) d)) → In x (flat_map (W a) ds) → In y (flat_map (W (a + b)) ds)
      over [] each h = absurd (false≢true h)
      over (d ∷ ds) each h = choose (in-either x (W a d) (flat_map (W a) ds) h) (over ds each)
        where
          choose : In x (W a d) ⊎ In x (flat_map (W a) ds) → (In x (flat_map (W a) ds) → In y (flat_map (W (a + b)) ds)) → In y (W (a + b) d ++ flat_map (W (a + b)) ds)
          choose (inl k) rest = in-first y (W (a + b) d) (flat_map (W (a + b)) ds) (each d k)
          choose (inr k) rest = in-second y (W (a + b) d) (flat_map (W (a + b)) ds) (rest k)

      behind : ((d : ℕ) → In x (W a d) → In y (W (a + b) d)) → In x (flat_map (W a) (interfaces_of p c)) ⊎ In x (flat_map (W a) (superclass_of p c)) → In y (W (suc (a + b)) c)
      behind each (inl h) =
          or_right (y == c) (is_among y (flat_map (W (a + b)) (interfaces_of p c) ++ flat_map (W (a + b)) (superclass_of p c)))
          (in-first y (flat_map (W (a + b)) (interfaces_of p c)) (flat_map (W (a + b)) (superclass_of p c)) (over (interfaces_of p c) each h))
      behind each (inr h) =
          or_right (y == c) (is_among y (flat_map (W (a + b)) (interfaces_of p c) ++ flat_map (W (a + b)) (superclass_of p c)))
          (in-second y (flat_map (W (a + b)) (interfaces_of p c)) (flat_map (W (a + b)) (superclass_of p c)) (over (superclass_of p c) each h))

      by : (t : Bool) → (x == c) ≡ t → (t || is_among x (flat_map (W a) (interfaces_of p c) ++ flat_map (W a) (superclass_of p c))) ≡ true
          → ((d : ℕ) → In x (W a d) → In y (W (a + b) d)) → In y (W (suc a + b) c)
      by true same h each =
          let there : In y (W b c) = ap (λ k. is_among y (W b k)) (sym (eqb-true x c same)) ∙ second in
          within-more b (suc a + b) c y (omega arith) there
      by false same h each =
          subst (λ m. In y (W m c)) (let e : suc (a + b) ≡ suc a + b = omega arith in e)
          (behind each (in-either x (flat_map (W a) (interfaces_of p c)) (flat_map (W a) (superclass_of p c)) h))

  -- ---- ranks

  abbrev size : ℕ
  size = length p.classes

  -- the classes that are loaded are stable from their number on
  abbrev pub IsRanked : List ℕ → Type 0
  IsRanked loaded = (c : ℕ) → c < size → IsLoaded loaded c → Stable (count_in size loaded) c

  -- what is named is a class of the program
  super-within : (c : ℕ) → AllByRecursion (λ d. d < size) (superclass_of p c)
  super-within c = by (super_of p c) refl
    where
      named : (o : Option (List ℕ)) (d : ℕ) → option_and_then (class_named p) o ≡ Some d → d < size
      named None d e = absurd (none-some d e)
      named (Some name) d e = named-class (has_name name) p.classes d e

      by : (o : Option ℕ) → super_of p c ≡ o → AllByRecursion (λ d. d < size) (option_to_list o)
      by None e = tt
      by (Some d) e = (of (class_at p c) e, tt)
        where
          of : (k : Option ClassFile) → option_and_then (class_named p) (option_and_then (λ (c : ClassFile). named_class c.pool c.super_class) k) ≡ Some d → d < size
          of None e = absurd (none-some d e)
          of (Some k) e = named (named_class k.pool k.super_class) d e

  names-within : (names : List (List ℕ)) → AllByRecursion (λ d. d < size) (filter_map (class_named p) names)
  names-within [] = tt
  names-within (name ∷ names) = by (class_named p name) refl (names-within names)
    where
      by : (o : Option ℕ) → class_named p name ≡ o → AllByRecursion (λ d. d < size) (filter_map (class_named p) names)
          → AllByRecursion (λ d. d < size) (cons_option o (filter_map (class_named p) names))
      by None e rest = rest
      by (Some d) e rest = (named-class (has_name name) p.classes d e, rest)

  -- one class more, behind what it needs
  pub one-more : (loaded : List ℕ) (class : ℕ) → AllByRecursion (HasLoaded p loaded) (needs_of p class) → IsRanked loaded → IsRanked (loaded ++ class ∷ [])
  one-more loaded class needs ranked c less there =
      among-either (λ k. k < size → Stable (count_in size (loaded ++ class ∷ [])) k) class loaded
      (λ k was small. raised-stable (count_in size loaded) (count_in size (loaded ++ class ∷ [])) k (count-more size loaded class) (ranked k small was))
      (λ small. by small (is_among class loaded) refl) c there less
    where
      above : AllByRecursion (IsLoaded loaded) (superclass_of p class) × AllByRecursion (IsLoaded loaded) (interfaces_of p class)
      above = directs p loaded (class_at p class) needs

      both : (ds : List ℕ) → AllByRecursion (IsLoaded loaded) ds → AllByRecursion (λ d. d < size) ds → AllByRecursion (Stable (count_in size loaded)) ds
      both ds = all-and (IsLoaded loaded) (λ d. d < size) (Stable (count_in size loaded)) (λ d was small. ranked d small was) ds

      by : class < size → (b : Bool) → is_among class loaded ≡ b → Stable (count_in size (loaded ++ class ∷ [])) class
      by small true was = raised-stable (count_in size loaded) (count_in size (loaded ++ class ∷ [])) class (count-more size loaded class) (ranked class small was)
      by small false new =
          raised-stable (suc (count_in size loaded)) (count_in size (loaded ++ class ∷ [])) class (count-grows size loaded class small new)
          (next-stable (count_in size loaded) class
          (both (interfaces_of p class) above.1 (names-within (option_map_or interface_names (class_at p class) [])))
          (both (superclass_of p class) above.0 (super-within class)))

  pub none-ranked : IsRanked []
  none-ranked c less there = absurd (false≢true there)

  pub load-ranked : (loaded name : List ℕ) → IsRanked loaded → IsRanked (load_of p loaded name).loaded
  load-ranked loaded name = (named-load p IsRanked one-more (length p.classes + 1) [] name loaded).kept

  -- classes that are loaded one behind the other, each behind what it needs
  abbrev pub AreInOrder : List ℕ → List ℕ → Type 0
  AreInOrder done [] = Unit {0}
  AreInOrder done (class ∷ rest) = AllByRecursion (HasLoaded p done) (needs_of p class) × AreInOrder (done ++ class ∷ []) rest

  pub order-ranked : (done rest : List ℕ) → AreInOrder done rest → IsRanked done → IsRanked (done ++ rest)
  order-ranked done [] order ranked = subst IsRanked (sym (append-nil done)) ranked
  order-ranked done (class ∷ rest) order ranked =
      subst IsRanked (append_assoc done (class ∷ []) rest) (order-ranked (done ++ class ∷ []) rest order.1 (one-more done class order.0 ranked))

  -- ---- what follows

  -- a class that is none has nothing above it
  past-stable : (c : ℕ) → size ≤ c → Stable 1 c
  past-stable c past zero x h = absurd (false≢true h)
  past-stable c past (suc n) x h =
      ap (λ (o : Option ClassFile). is_among x (c ∷ (flat_map (W 0) (filter_map (class_named p) (option_map_or interface_names o []))
      ++ flat_map (W 0) (option_to_list (option_and_then (class_named p) (option_and_then (λ (k : ClassFile). named_class k.pool k.super_class) o)))))) none
      ∙ (sym (ap (λ (o : Option ClassFile). is_among x (c ∷ (flat_map (W n) (filter_map (class_named p) (option_map_or interface_names o []))
      ++ flat_map (W n) (option_to_list (option_and_then (class_named p) (option_and_then (λ (k : ClassFile). named_class k.pool k.super_class) o)))))) none) ∙ h)
    where
      none : class_at p c ≡ None
      none = by (class_at p c) refl
        where
          by : (o : Option ClassFile) → class_at p c ≡ o → class_at p c ≡ None
          by None e = e
          by (Some k) e = absurd (let less : c < length p.classes = slice_get_within p.classes c k e in omega arith)

  module _ (some : 2 ≤ length p.classes) (loaded : List ℕ) (ranked : IsRanked loaded) where
    stable : (c : ℕ) → IsLoaded loaded c → Stable size c
    stable c there = by (nat_lt c size) refl
      where
        is-below : (a b : ℕ) → nat_lt a b ≡ true → a < b
        is-below a b e = grind (arith)

        is-past : (a b : ℕ) → nat_lt a b ≡ false → b ≤ a
        is-past a b e = grind (arith)

        by : (b : Bool) → nat_lt c size ≡ b → Stable size c
        by true e = raised-stable (count_in size loaded) size c (count-most size loaded) (ranked c (is-below c size e) there)
        by false e = raised-stable 1 size c (omega arith) (past-stable c (is-past c size e))

    own-in : (n c : ℕ) → 1 ≤ n → In c (W n c)
    own-in zero c le = absurd (omega arith)
    own-in (suc n) c le = ap (λ b. b || is_among c (flat_map (W n) (interfaces_of p c) ++ flat_map (W n) (superclass_of p c))) (equals_itself c)

    -- a direct superclass
    super-in : (n c d : ℕ) → 1 ≤ n → super_of p c ≡ Some d → In d (W (suc n) c)
    super-in n c d le e =
        or_right (d == c) (is_among d (flat_map (W n) (interfaces_of p c) ++ flat_map (W n) (superclass_of p c)))
        (in-second d (flat_map (W n) (interfaces_of p c)) (flat_map (W n) (superclass_of p c))
        (ap (λ o. is_among d (flat_map (W n) (option_to_list o))) e ∙ in-first d (W n d) [] (own-in n d le)))

    supers-in : (n c x : ℕ) → In x (superclasses_within p n c) → In x (W n c)
    supers-in zero c x h = absurd (false≢true h)
    supers-in (suc n) c x h = by (x == c) h (supers-in n)
      where
        over : ((d y : ℕ) → In y (superclasses_within p n d) → In y (W n d)) → (ds : List ℕ) → In x (flat_map (superclasses_within p n) ds) → In x (flat_map (W n) ds)
        over each ds = flat-wider (superclasses_within p n) (W n) ds x (all-of (λ d. (y : ℕ) → In y (superclasses_within p n d) → In y (W n d)) each ds)

        by : (t : Bool) → (t || is_among x (flat_map (superclasses_within p n) (superclass_of p c))) ≡ true → ((d y : ℕ) → In y (superclasses_within p n d) → In y (W n d))
            → (t || is_among x (flat_map (W n) (interfaces_of p c) ++ flat_map (W n) (superclass_of p c))) ≡ true
        by true h each = refl
        by false h each = in-second x (flat_map (W n) (interfaces_of p c)) (flat_map (W n) (superclass_of p c)) (over each (superclass_of p c) h)

    abbrev Deeper : ℕ → Type 0
    Deeper n = (d y : ℕ) → In y (superinterfaces_within p n d) → In y (W (suc n) d)

    interfaces-in : (n c x : ℕ) → In x (superinterfaces_within p n c) → In x (W (suc n) c)
    interfaces-in zero c x h = absurd (false≢true h)
    interfaces-in (suc n) c x h =
        or_right (x == c) (is_among x (flat_map (W (suc n)) (interfaces_of p c) ++ flat_map (W (suc n)) (superclass_of p c)))
        (by (interfaces-in n) (in-either x (flat_map (λ i. i ∷ superinterfaces_within p n i) (interfaces_of p c))
        (if is_interface p c then [] else flat_map (superinterfaces_within p n) (superclass_of p c)) h))
      where
        each : Deeper n → (d y : ℕ) → In y (d ∷ superinterfaces_within p n d) → In y (W (suc n) d)
        each deeper d y k = step (y == d) refl k
          where
            step : (t : Bool) → (y == d) ≡ t → (t || is_among y (superinterfaces_within p n d)) ≡ true → In y (W (suc n) d)
            step true e k = ap (λ b. b || is_among y (flat_map (W n) (interfaces_of p d) ++ flat_map (W n) (superclass_of p d))) e
            step false e k = deeper d y k

        supers : Deeper n → (t : Bool) → In x (if t then [] else flat_map (superinterfaces_within p n) (superclass_of p c)) → In x (flat_map (W (suc n)) (superclass_of p c))
        supers deeper true k = absurd (false≢true k)
        supers deeper false k =
            flat-wider (superinterfaces_within p n) (W (suc n)) (superclass_of p c) x
            (all-of (λ d. (y : ℕ) → In y (superinterfaces_within p n d) → In y (W (suc n) d)) deeper (superclass_of p c)) k

        by : Deeper n → In x (flat_map (λ i. i ∷ superinterfaces_within p n i) (interfaces_of p c)) ⊎ In x (if is_interface p c then [] else flat_map (superinterfaces_within p n) (superclass_of p c))
            → In x (flat_map (W (suc n)) (interfaces_of p c) ++ flat_map (W (suc n)) (superclass_of p c))
        by deeper (inl k) = in-first x (flat_map (W (suc n)) (interfaces_of p c)) (flat_map (W (suc n)) (superclass_of p c))
            (flat-wider (λ i. i ∷ superinterfaces_within p n i) (W (suc n)) (interfaces_of p c) x
            (all-of (λ d. (y : ℕ) → In y (d ∷ superinterfaces_within p n d) → In y (W (suc n) d)) (each deeper) (interfaces_of p c)) k)
        by deeper (inr k) = in-second x (flat_map (W (suc n)) (interfaces_of p c)) (flat_map (W (suc n)) (superclass_of p c)) (supers deeper (is_interface p c) k)

    pub ranked-climbs : Climbs p loaded
    ranked-climbs = record {
      own = λ c there. own-in size c (omega arith);
      further = λ c x y there first second. stable c there (size + size) y (then-above size size c x y first second);
      superclass = λ c d there e. stable c there (suc 1) d (super-in 1 c d (omega arith) e);
      superclasses = λ c x there h. supers-in size c x h;
      superinterfaces = λ c x there h. stable c there (suc size) x (interfaces-in size c x h);
    }

-- ---- the run

-- whatever each load keeps is kept
module _ (w : World) (fit : IsFit w.program) (P : List ℕ → Type 0)
    (load-keeps : (loaded name : List ℕ) → P loaded → P (load_of w.program loaded name).loaded) where
  loads-keep : (op : Operation Local) (s : Shared) (o : Operands) → P s.loaded → P (s.loaded ++ loads w op s o)
  loads-keep op s o h = by op
    where
      same : P (s.loaded ++ [])
      same = subst P (sym (append-nil s.loaded)) h

      by : (op : Operation Local) → P (s.loaded ++ loads w op s o)
      by (operation.Named n) = resolved (resolves n o) refl
        where
          resolved : (b : Bool) → resolves n o ≡ b → P (s.loaded ++ newly_loaded w.program s.loaded n o)
          resolved true does =
              subst P (sym (newly-loaded w.program s.loaded n o does)) (load-keeps s.loaded (resolved_name n) h)
          resolved false does =
              subst P
              (sym (ap (λ (b : Bool). s.loaded ++ (if b then drop (length s.loaded) (load_of w.program s.loaded (resolved_name n)).loaded else [])) does ∙ append-nil s.loaded)) h
      by (operation.Within i) = same
      by operation.Athrow = same
      by operation.Monitor = same
      by (operation.Newarray k) = same
      by operation.Arraylength = same
      by (operation.LoadElement k) = same
      by (operation.StoreElement k) = same
      by (operation.LdcString units) = same

  at-keeps : (s : State) (f : Frame) (found : Option Instruction) → IsSound RunsOriginal w.program s → IsSoundEntry RunsOriginal w.program s.shared.loaded (Active f)
      → (original w.program).at f.version f.place ≡ found → P s.shared.loaded → P (steps_at w (original w.program) s f found).after.shared.loaded
  at-keeps s f None is entry e h = h
  at-keeps s f (Some i) is entry e h =
      let classes = loads w i.operation s.shared f.operands in
      let ready : State = with_classes_loaded classes s in
      let turn : Turn = steps_by w (original w.program) i ready f (does w i.operation ready.shared f.locals f.operands) in
      subst P
      (sym (ap (λ (x : State). x.shared.loaded) (loaded-after classes turn) ∙ ((at-goes RunsOriginal w fit (original w.program) (original-sound w.program fit) s f i is entry e).same ∙ with-loaded-is classes s)))
      (loads-keep i.operation s.shared f.operands h)

  on-keeps : (s : State) (ending : Option Ending) (stack : List Entry) → IsSound RunsOriginal w.program s → AllByRecursion (IsSoundEntry RunsOriginal w.program s.shared.loaded) stack
      → P s.shared.loaded → P (steps_on w (original w.program) s ending stack).after.shared.loaded
  on-keeps s (Some e) [] is each h = h
  on-keeps s (Some e) (f ∷ below) is each h = h
  on-keeps s None [] is each h = h
  on-keeps s None (Initializing c part ∷ below) is each h = h
  on-keeps s None (Active f ∷ below) is each h =
      at-keeps (record s { stack = below }) f ((original w.program).at f.version f.place) (record { shared = is.shared; stack = each.1; main = is.main }) each.0 refl h

  main-keeps : (b : Bool) → P (before w).shared.loaded → P ((before w).shared.loaded ++ loads_if w b)
  main-keeps false h = subst P (sym (append-nil (before w).shared.loaded)) h
  main-keeps true h =
      let name = unwrap_or (name_at w.program (main_class w.program)) [] in
      subst P (sym (newly-loaded w.program (before w).shared.loaded (New name) [] refl)) (load-keeps (before w).shared.loaded name h)

  module _ (first : P (before w).shared.loaded) where
    pub run-keeps : (start_is : (start w (original w.program)).after.shared.loaded ≡ (before w).shared.loaded ++ main_loads w)
        → ((n : ℕ) → IsSound RunsOriginal w.program (run w n)) → (n : ℕ) → P (run w n).shared.loaded
    run-keeps start_is sound zero =
        subst (λ (a : Turn). P a.after.shared.loaded) (sym (turn_in-zero w (original w.program)))
        (subst P (sym start_is) (main-keeps (arguments_fit w.program) first))
    run-keeps start_is sound (suc n) =
        subst (λ (a : Turn). P a.after.shared.loaded) (sym (turn_in-suc w (original w.program) n))
        (on-keeps (run w n) (run w n).ending (run w n).stack (sound n) (sound n).stack (run-keeps start_is sound n))

pub run-ranked : (w : World) → IsFit w.program → IsRanked w.program (before w).shared.loaded
    → (start w (original w.program)).after.shared.loaded ≡ (before w).shared.loaded ++ main_loads w
    → ((n : ℕ) → IsSound RunsOriginal w.program (run w n)) → (n : ℕ) → IsRanked w.program (run w n).shared.loaded
run-ranked w fit = run-keeps w fit (IsRanked w.program) (load-ranked w.program)
