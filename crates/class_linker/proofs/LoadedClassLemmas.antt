-- The row of a class that was made of those of its direct supertypes gives what the walks give.
use Rattle.std.proofs.Common.{◌≡◌, ◌≢◌, ℕ, zero, suc, ◌+◌, ◌≤◌, ◌<◌, Bool, true, false, List, [], ◌∷◌, ◌++◌, length, ap, ap₂, sym, subst, refl, ◌∙◌, arith, slice_set}
use Rattle.std.specs.Prelude.{Option, Some, None, is_some, flat_map, ◌==◌, ◌&&◌, if◌then◌else◌}
use Rattle.std.specs.List.{list_all}
use Rattle.std.specs.Option.{option_map_or}
use Rattle.std.proofs.lemmas.List.{append_assoc, append-nil, length-set}
use Rattle.std.proofs.lemmas.List.Sums.{sum_by-cons}
use Rattle.std.proofs.lemmas.Bool.{false≢true, eqb-true, and_parts}
use Rattle.std.proofs.lemmas.Option.{same_Some}
use Rattle.jvm_model.specs.declared.program.Program.{Program}
use Rattle.jvm_model.specs.Classes.Layouts.{layout_within, own_kinds}
use Rattle.jvm_model.specs.Classes.Lookup.{interfaces_of, is_interface, superclass_of, superclasses_within, superinterfaces_within, supertypes_within}
use Rattle.jvm_model.specs.Basis.Programs.{class_at}
use Rattle.class_linker.specs.declared.loaded_classes.LoadedClass.{LoadedClass}
use Rattle.class_index.specs.Orders.{IsSearchedAs, with_class, with_classes}
use Rattle.jvm_model.specs.Classes.Load.{is_among}
use Rattle.class_linker.specs.LoadedClasses.{AreKept, AreLoadedClasses, IsClosed, IsLoadedClass, LoadedClassRows, holds_all, holds_class, layout_in, loaded_class_at, held_count, loaded_class_made, superclasses_in, superinterfaces_in, superinterfaces_made, supertypes_in, supertypes_made, with_interfaces, with_supertypes}
use Rattle.class_index.proofs.OrderLemmas.{both, equal_as, more, same, then_as}

-- ---- what is added is what stands behind

pub supertypes_more : (rows : LoadedClassRows) (xs ys : List ℕ) → IsSearchedAs (with_supertypes rows xs ys) (xs ++ flat_map (supertypes_in rows) ys)
supertypes_more rows xs [] = equal_as xs (xs ++ []) (sym (append-nil xs))
supertypes_more rows xs (y ∷ ys) =
    let own = supertypes_in rows y in
    let left = flat_map (supertypes_in rows) ys in
    then_as (with_supertypes rows (with_classes xs own) ys) (with_classes xs own ++ left) (xs ++ (own ++ left))
    (supertypes_more rows (with_classes xs own) ys)
    (then_as (with_classes xs own ++ left) ((xs ++ own) ++ left) (xs ++ (own ++ left))
    (both (with_classes xs own) (xs ++ own) left left (more xs own) (same left))
    (equal_as ((xs ++ own) ++ left) (xs ++ (own ++ left)) (append_assoc xs own left)))

pub interfaces_more : (rows : LoadedClassRows) (xs ys : List ℕ)
    → IsSearchedAs (with_interfaces rows xs ys) (xs ++ flat_map (λ i. i ∷ superinterfaces_in rows i) ys)
interfaces_more rows xs [] = equal_as xs (xs ++ []) (sym (append-nil xs))
interfaces_more rows xs (y ∷ ys) =
    let own : List ℕ = y ∷ superinterfaces_in rows y in
    let left = flat_map (λ i. i ∷ superinterfaces_in rows i) ys in
    then_as (with_interfaces rows (with_classes xs own) ys) (with_classes xs own ++ left) (xs ++ (own ++ left))
    (interfaces_more rows (with_classes xs own) ys)
    (then_as (with_classes xs own ++ left) ((xs ++ own) ++ left) (xs ++ (own ++ left))
    (both (with_classes xs own) (xs ++ own) left left (more xs own) (same left))
    (equal_as ((xs ++ own) ++ left) (xs ++ (own ++ left)) (append_assoc xs own left)))

-- ---- a list of classes that all pass a test

each_searched : (test : ℕ → Bool) (f g : ℕ → List ℕ) → ((c : ℕ) → test c ≡ true → IsSearchedAs (f c) (g c))
    → (xs : List ℕ) → list_all test xs ≡ true → IsSearchedAs (flat_map f xs) (flat_map g xs)
each_searched test f g h [] all = same []
each_searched test f g h (x ∷ xs) all =
    both (f x) (g x) (flat_map f xs) (flat_map g xs) (h x (and_parts (test x) (list_all test xs) all).0)
    (each_searched test f g h xs (and_parts (test x) (list_all test xs) all).1)

each_equal : {A : Type 0} (test : ℕ → Bool) (f g : ℕ → List A) → ((c : ℕ) → test c ≡ true → f c ≡ g c)
    → (xs : List ℕ) → list_all test xs ≡ true → flat_map f xs ≡ flat_map g xs
each_equal test f g h [] all = refl
each_equal test f g h (x ∷ xs) all =
    ap₂ (λ a b. a ++ b) (h x (and_parts (test x) (list_all test xs) all).0) (each_equal test f g h xs (and_parts (test x) (list_all test xs) all).1)

-- ---- a class that has a row

pub has_one : (o : Option LoadedClass) → is_some o ≡ true → (r : LoadedClass) × (o ≡ Some r)
has_one None h = absurd (false≢true h)
has_one (Some r) h = (r, refl)

module _ (p : Program) (rows : LoadedClassRows) (are : AreLoadedClasses p rows) (n : ℕ) (most : held_count rows ≤ n) where
  row_of : (c : ℕ) → holds_class rows c ≡ true → (r : LoadedClass) × (loaded_class_at rows c ≡ Some r) × IsLoadedClass p n c r
  row_of c h =
      let w = has_one (loaded_class_at rows c) h in
      (w.0, w.1, are.each c n w.0 w.1 most)

  pub superclasses_are : (c : ℕ) → holds_class rows c ≡ true → superclasses_in rows c ≡ superclasses_within p n c
  superclasses_are c h =
      let w = row_of c h in
      ap (λ o. option_map_or (λ (r : LoadedClass). r.superclasses) o []) w.1 ∙ w.2.superclasses

  pub layout_is : (c : ℕ) → holds_class rows c ≡ true → layout_in rows c ≡ layout_within p n c
  layout_is c h =
      let w = row_of c h in
      ap (λ o. option_map_or (λ (r : LoadedClass). r.layout) o []) w.1 ∙ w.2.layout

  pub superinterfaces_are : (c : ℕ) → holds_class rows c ≡ true → IsSearchedAs (superinterfaces_in rows c) (superinterfaces_within p n c)
  superinterfaces_are c h =
      let w = row_of c h in
      then_as (superinterfaces_in rows c) w.0.superinterfaces (superinterfaces_within p n c)
      (equal_as (superinterfaces_in rows c) w.0.superinterfaces (ap (λ o. option_map_or (λ (r : LoadedClass). r.superinterfaces) o []) w.1))
      w.2.superinterfaces

  pub supertypes_are : (c : ℕ) → holds_class rows c ≡ true → IsSearchedAs (supertypes_in rows c) (supertypes_within p n c)
  supertypes_are c h =
      let w = row_of c h in
      then_as (supertypes_in rows c) w.0.supertypes (supertypes_within p n c)
      (equal_as (supertypes_in rows c) w.0.supertypes (ap (λ o. option_map_or (λ (r : LoadedClass). r.supertypes) o []) w.1))
      w.2.supertypes

  with_own : (c : ℕ) → holds_class rows c ≡ true → IsSearchedAs (c ∷ superinterfaces_in rows c) (c ∷ superinterfaces_within p n c)
  with_own c h = both (c ∷ []) (c ∷ []) (superinterfaces_in rows c) (superinterfaces_within p n c) (same (c ∷ [])) (superinterfaces_are c h)

  -- ---- the row that is made, with one step more

  row_is : (class : ℕ) → holds_all rows (interfaces_of p class) ≡ true → holds_all rows (superclass_of p class) ≡ true
      → IsLoadedClass p (suc n) class (loaded_class_made p rows class)
  row_is class interfaces above = record {
    superclasses = ap (λ l. class ∷ l) (each_equal (holds_class rows) (superclasses_in rows) (superclasses_within p n) superclasses_are (superclass_of p class) above);
    superinterfaces = superinterfaces_are_made;
    supertypes = supertypes_are_made;
    layout = ap (λ l. l ++ option_map_or own_kinds (class_at p class) [])
        (each_equal (holds_class rows) (layout_in rows) (layout_within p n) layout_is (superclass_of p class) above);
  }
    where
      inherited : (b : Bool) → IsSearchedAs (if b then [] else flat_map (superinterfaces_in rows) (superclass_of p class))
          (if b then [] else flat_map (superinterfaces_within p n) (superclass_of p class))
      inherited true = same []
      inherited false = each_searched (holds_class rows) (superinterfaces_in rows) (superinterfaces_within p n) superinterfaces_are (superclass_of p class) above

      superinterfaces_are_made : IsSearchedAs (superinterfaces_made p rows class) (superinterfaces_within p (suc n) class)
      superinterfaces_are_made =
          let direct = with_interfaces rows [] (interfaces_of p class) in
          let behind : List ℕ = if is_interface p class then [] else flat_map (superinterfaces_in rows) (superclass_of p class) in
          let walked = flat_map (λ i. i ∷ superinterfaces_within p n i) (interfaces_of p class) in
          let above_walked : List ℕ = if is_interface p class then [] else flat_map (superinterfaces_within p n) (superclass_of p class) in
          then_as (with_classes direct behind) (direct ++ behind) (walked ++ above_walked) (more direct behind)
          (both direct walked behind above_walked
          (then_as direct (flat_map (λ i. i ∷ superinterfaces_in rows i) (interfaces_of p class)) walked
          (interfaces_more rows [] (interfaces_of p class))
          (each_searched (holds_class rows) (λ i. i ∷ superinterfaces_in rows i) (λ i. i ∷ superinterfaces_within p n i) with_own (interfaces_of p class) interfaces))
          (inherited (is_interface p class)))

      supertypes_are_made : IsSearchedAs (supertypes_made p rows class) (supertypes_within p (suc n) class)
      supertypes_are_made =
          let direct = with_supertypes rows (class ∷ []) (interfaces_of p class) in
          let own = flat_map (supertypes_in rows) (interfaces_of p class) in
          let behind = flat_map (supertypes_in rows) (superclass_of p class) in
          let walked = flat_map (supertypes_within p n) (interfaces_of p class) in
          let above_walked = flat_map (supertypes_within p n) (superclass_of p class) in
          then_as (with_supertypes rows direct (superclass_of p class)) (direct ++ behind) (class ∷ (walked ++ above_walked))
          (supertypes_more rows direct (superclass_of p class))
          (both direct (class ∷ walked) behind above_walked
          (then_as direct (class ∷ own) (class ∷ walked) (supertypes_more rows (class ∷ []) (interfaces_of p class))
          (both (class ∷ []) (class ∷ []) own walked (same (class ∷ []))
          (each_searched (holds_class rows) (supertypes_in rows) (supertypes_within p n) supertypes_are (interfaces_of p class) interfaces)))
          (each_searched (holds_class rows) (supertypes_in rows) (supertypes_within p n) supertypes_are (superclass_of p class) above))

-- ---- a row more

loaded_class_at-set_same : (rows : LoadedClassRows) (class : ℕ) (r : LoadedClass) → class < length rows → loaded_class_at (slice_set rows class (Some r)) class ≡ Some r
loaded_class_at-set_same [] class r within = absurd (omega arith)
loaded_class_at-set_same (x ∷ rows) zero r within = refl
loaded_class_at-set_same (x ∷ rows) (suc class) r within = loaded_class_at-set_same rows class r (omega arith)

loaded_class_at-set_other : (rows : LoadedClassRows) (class c : ℕ) (o : Option LoadedClass) → c ≢ class → loaded_class_at (slice_set rows class o) c ≡ loaded_class_at rows c
loaded_class_at-set_other [] class c o other = refl
loaded_class_at-set_other (x ∷ rows) zero zero o other = absurd (other refl)
loaded_class_at-set_other (x ∷ rows) zero (suc c) o other = refl
loaded_class_at-set_other (x ∷ rows) (suc class) zero o other = refl
loaded_class_at-set_other (x ∷ rows) (suc class) (suc c) o other = loaded_class_at-set_other rows class c o (λ e. other (ap suc e))

count-cons : (o : Option LoadedClass) (rows : LoadedClassRows) → held_count (o ∷ rows) ≡ (if is_some o then 1 else 0) + held_count rows
count-cons o rows = sum_by-cons (λ (r : Option LoadedClass). if is_some r then 1 else 0) o rows

held_count-set : (rows : LoadedClassRows) (class : ℕ) (r : LoadedClass) → loaded_class_at rows class ≡ None → class < length rows
    → held_count (slice_set rows class (Some r)) ≡ held_count rows + 1
held_count-set [] class r none within = absurd (omega arith)
held_count-set (None ∷ rows) zero r none within = omega (arith, count-cons (Some r) rows, count-cons None rows)
held_count-set (Some x ∷ rows) zero r none within = absurd (some_none none)
  where
    some_none : Some x ≡ None → ⊥
    some_none e = cc
held_count-set (o ∷ rows) (suc class) r none within =
    omega (arith, count-cons o rows, count-cons o (slice_set rows class (Some r)), held_count-set rows class r none (omega arith))

-- ---- classes that have rows

all_append : (f : ℕ → Bool) (xs ys : List ℕ) → list_all f xs ≡ true → list_all f ys ≡ true → list_all f (xs ++ ys) ≡ true
all_append f [] ys h k = k
all_append f (x ∷ xs) ys h k =
    ap₂ (λ a b. a && b) (and_parts (f x) (list_all f xs) h).0 (all_append f xs ys (and_parts (f x) (list_all f xs) h).1 k)

all_with_class : (f : ℕ → Bool) (xs : List ℕ) (c : ℕ) → list_all f xs ≡ true → f c ≡ true → list_all f (with_class xs c) ≡ true
all_with_class f xs c h k = by (is_among c xs)
  where
    by : (b : Bool) → list_all f (if b then xs else xs ++ c ∷ []) ≡ true
    by true = h
    by false = all_append f xs (c ∷ []) h (ap (λ b. b && true) k)

all_with_classes : (f : ℕ → Bool) (xs ys : List ℕ) → list_all f xs ≡ true → list_all f ys ≡ true → list_all f (with_classes xs ys) ≡ true
all_with_classes f xs [] h k = h
all_with_classes f xs (y ∷ ys) h k =
    all_with_classes f (with_class xs y) ys (all_with_class f xs y h (and_parts (f y) (list_all f ys) k).0) (and_parts (f y) (list_all f ys) k).1

all_with_supertypes : (f : ℕ → Bool) (rows : LoadedClassRows) → ((d : ℕ) → holds_class rows d ≡ true → list_all f (supertypes_in rows d) ≡ true)
    → (xs ys : List ℕ) → list_all f xs ≡ true → holds_all rows ys ≡ true → list_all f (with_supertypes rows xs ys) ≡ true
all_with_supertypes f rows g xs [] h k = h
all_with_supertypes f rows g xs (y ∷ ys) h k =
    all_with_supertypes f rows g (with_classes xs (supertypes_in rows y)) ys
    (all_with_classes f xs (supertypes_in rows y) h (g y (and_parts (holds_class rows y) (holds_all rows ys) k).0))
    (and_parts (holds_class rows y) (holds_all rows ys) k).1

all_flat : (f : ℕ → Bool) (rows : LoadedClassRows) (g : ℕ → List ℕ) → ((d : ℕ) → holds_class rows d ≡ true → list_all f (g d) ≡ true)
    → (xs : List ℕ) → holds_all rows xs ≡ true → list_all f (flat_map g xs) ≡ true
all_flat f rows g h [] k = refl
all_flat f rows g h (x ∷ xs) k =
    all_append f (g x) (flat_map g xs) (h x (and_parts (holds_class rows x) (holds_all rows xs) k).0)
    (all_flat f rows g h xs (and_parts (holds_class rows x) (holds_all rows xs) k).1)

all_kept : (before after : LoadedClassRows) → AreKept before after → (xs : List ℕ) → holds_all before xs ≡ true → holds_all after xs ≡ true
all_kept before after kept [] h = refl
all_kept before after kept (x ∷ xs) h =
    ap₂ (λ a b. a && b) (kept x (and_parts (holds_class before x) (holds_all before xs) h).0)
    (all_kept before after kept xs (and_parts (holds_class before x) (holds_all before xs) h).1)

module _ (p : Program) (rows : LoadedClassRows) (are : AreLoadedClasses p rows) (after : LoadedClassRows) (kept : AreKept rows after) where
  pub superclasses_have : (d : ℕ) → holds_class rows d ≡ true → holds_all after (superclasses_in rows d) ≡ true
  superclasses_have d has =
      let w = has_one (loaded_class_at rows d) has in
      all_kept rows after kept (superclasses_in rows d)
      (ap (λ o. holds_all rows (option_map_or (λ (r : LoadedClass). r.superclasses) o [])) w.1 ∙ (are.closed d w.0 w.1).superclasses)

  pub supertypes_have : (d : ℕ) → holds_class rows d ≡ true → holds_all after (supertypes_in rows d) ≡ true
  supertypes_have d has =
      let w = has_one (loaded_class_at rows d) has in
      all_kept rows after kept (supertypes_in rows d)
      (ap (λ o. holds_all rows (option_map_or (λ (r : LoadedClass). r.supertypes) o [])) w.1 ∙ (are.closed d w.0 w.1).supertypes)

  closed_made : (class : ℕ) → holds_class after class ≡ true → holds_all rows (interfaces_of p class) ≡ true → holds_all rows (superclass_of p class) ≡ true
      → IsClosed after (loaded_class_made p rows class)
  closed_made class has interfaces above = record {
    superclasses = ap₂ (λ a b. a && b) has (all_flat (holds_class after) rows (superclasses_in rows) superclasses_have (superclass_of p class) above);
    supertypes = all_with_supertypes (holds_class after) rows supertypes_have (with_supertypes rows (class ∷ []) (interfaces_of p class)) (superclass_of p class)
        (all_with_supertypes (holds_class after) rows supertypes_have (class ∷ []) (interfaces_of p class) (ap (λ b. b && true) has) interfaces) above;
  }

  closed_kept : (r : LoadedClass) → IsClosed rows r → IsClosed after r
  closed_kept r is = record {
    superclasses = all_kept rows after kept r.superclasses is.superclasses;
    supertypes = all_kept rows after kept r.supertypes is.supertypes;
  }

module _ (p : Program) (rows : LoadedClassRows) (class : ℕ) (are : AreLoadedClasses p rows) (without : holds_class rows class ≡ false) (within : class < length rows)
    (interfaces : holds_all rows (interfaces_of p class) ≡ true) (above : holds_all rows (superclass_of p class) ≡ true) where
  none : loaded_class_at rows class ≡ None
  none = by (loaded_class_at rows class) without
    where
      by : (o : Option LoadedClass) → is_some o ≡ false → o ≡ None
      by None h = refl
      by (Some r) h = absurd (false≢true (sym h))

  abbrev after : LoadedClassRows
  after = slice_set rows class (Some (loaded_class_made p rows class))

  own_loaded_class : (bound : ℕ) → held_count rows + 1 ≤ bound → IsLoadedClass p bound class (loaded_class_made p rows class)
  own_loaded_class zero most = absurd (omega arith)
  own_loaded_class (suc n) most = row_is p rows are n (omega arith) class interfaces above

  each_after : (b : Bool) (c bound : ℕ) (r : LoadedClass) → (c == class) ≡ b → loaded_class_at after c ≡ Some r → held_count rows + 1 ≤ bound → IsLoadedClass p bound c r
  each_after true c bound r is found most =
      let e = eqb-true c class is in
      let at_own : loaded_class_at after class ≡ Some r = ap (loaded_class_at after) (sym e) ∙ found in
      let made : loaded_class_made p rows class ≡ r = same_Some (loaded_class_made p rows class) r (sym (loaded_class_at-set_same rows class (loaded_class_made p rows class) within) ∙ at_own) in
      subst (λ k. IsLoadedClass p bound k r) (sym e) (subst (IsLoadedClass p bound class) made (own_loaded_class bound most))
  each_after false c bound r is found most =
      are.each c bound r (sym (loaded_class_at-set_other rows class c (Some (loaded_class_made p rows class)) (apart is)) ∙ found) (omega arith)
    where
      apart : (c == class) ≡ false → c ≢ class
      apart h e = grind (arith)

  kept_at : (b : Bool) (c : ℕ) → (c == class) ≡ b → holds_class rows c ≡ true → holds_class after c ≡ true
  kept_at true c is has = ap (λ k. holds_class after k) (eqb-true c class is) ∙ ap is_some (loaded_class_at-set_same rows class (loaded_class_made p rows class) within)
  kept_at false c is has = ap is_some (loaded_class_at-set_other rows class c (Some (loaded_class_made p rows class)) (apart is)) ∙ has
    where
      apart : (c == class) ≡ false → c ≢ class
      apart h e = grind (arith)

  pub added-kept : AreKept rows after
  added-kept c has = kept_at (c == class) c refl has

  pub added-there : holds_class after class ≡ true
  added-there = ap is_some (loaded_class_at-set_same rows class (loaded_class_made p rows class) within)

  closed_after : (b : Bool) (c : ℕ) (r : LoadedClass) → (c == class) ≡ b → loaded_class_at after c ≡ Some r → IsClosed after r
  closed_after true c r is found =
      let at_own : loaded_class_at after class ≡ Some r = ap (loaded_class_at after) (sym (eqb-true c class is)) ∙ found in
      subst (IsClosed after) (same_Some (loaded_class_made p rows class) r (sym (loaded_class_at-set_same rows class (loaded_class_made p rows class) within) ∙ at_own))
      (closed_made p rows are after added-kept class added-there interfaces above)
  closed_after false c r is found =
      closed_kept p rows are after added-kept r
      (are.closed c r (sym (loaded_class_at-set_other rows class c (Some (loaded_class_made p rows class)) (apart is)) ∙ found))
    where
      apart : (c == class) ≡ false → c ≢ class
      apart h e = grind (arith)

  -- the walk from the class ends within one step more
  walk_ends : (n : ℕ) → held_count rows ≤ n → supertypes_within p (suc n) class ≡ supertypes_within p (suc (held_count rows)) class
  walk_ends n most =
      let the_end : (d : ℕ) → holds_class rows d ≡ true → supertypes_within p n d ≡ supertypes_within p (held_count rows) d = λ d has. are.ends d n has most in
      ap₂ (λ a b. class ∷ (a ++ b))
      (each_equal (holds_class rows) (supertypes_within p n) (supertypes_within p (held_count rows)) the_end (interfaces_of p class) interfaces)
      (each_equal (holds_class rows) (supertypes_within p n) (supertypes_within p (held_count rows)) the_end (superclass_of p class) above)

  own_end : (bound : ℕ) → held_count rows + 1 ≤ bound → supertypes_within p bound class ≡ supertypes_within p (held_count rows + 1) class
  own_end zero most = absurd (omega arith)
  own_end (suc n) most = walk_ends n (omega arith) ∙ ap (λ k. supertypes_within p k class) one_more
    where
      one_more : suc (held_count rows) ≡ held_count rows + 1
      one_more = omega arith

  ends_after : (b : Bool) (c bound : ℕ) → (c == class) ≡ b → holds_class after c ≡ true → held_count rows + 1 ≤ bound
      → supertypes_within p bound c ≡ supertypes_within p (held_count rows + 1) c
  ends_after true c bound is has most =
      subst (λ k. supertypes_within p bound k ≡ supertypes_within p (held_count rows + 1) k) (sym (eqb-true c class is)) (own_end bound most)
  ends_after false c bound is has most =
      let before : holds_class rows c ≡ true = ap is_some (sym (loaded_class_at-set_other rows class c (Some (loaded_class_made p rows class)) (apart is))) ∙ has in
      are.ends c bound before (omega arith) ∙ sym (are.ends c (held_count rows + 1) before (omega arith))
    where
      apart : (c == class) ≡ false → c ≢ class
      apart h e = grind (arith)

  counted : held_count after ≡ held_count rows + 1
  counted = held_count-set rows class (loaded_class_made p rows class) none within

  pub added : AreLoadedClasses p after
  added = record {
    places = length-set rows class (Some (loaded_class_made p rows class)) ∙ are.places;
    each = λ c bound r found most. each_after (c == class) c bound r refl found (omega (arith, held_count-set rows class (loaded_class_made p rows class) none within));
    ends = λ c bound has most.
        subst (λ n. supertypes_within p bound c ≡ supertypes_within p n c) (sym counted)
        (ends_after (c == class) c bound refl has (subst (λ n. n ≤ bound) counted most));
    closed = λ c r found. closed_after (c == class) c r refl found;
  }

  -- the same, where the row and the rows are told by what they are

  pub put_loaded_classes : (r : LoadedClass) (new : LoadedClassRows) → r ≡ loaded_class_made p rows class → new ≡ slice_set rows class (Some r) → AreLoadedClasses p new
  put_loaded_classes r new made set = subst (AreLoadedClasses p) (sym (set ∙ ap (λ s. slice_set rows class (Some s)) made)) added

  pub put_kept : (r : LoadedClass) (new : LoadedClassRows) → r ≡ loaded_class_made p rows class → new ≡ slice_set rows class (Some r) → AreKept rows new
  put_kept r new made set = subst (AreKept rows) (sym (set ∙ ap (λ s. slice_set rows class (Some s)) made)) added-kept

  pub put_there : (r : LoadedClass) (new : LoadedClassRows) → r ≡ loaded_class_made p rows class → new ≡ slice_set rows class (Some r) → holds_class new class ≡ true
  put_there r new made set = ap (λ rs. holds_class rs class) (set ∙ ap (λ s. slice_set rows class (Some s)) made) ∙ added-there
