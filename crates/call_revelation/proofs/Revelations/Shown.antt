-- The classes whose marks differ from those that were shown, and marks that are shown.
use Rattle.std.proofs.Common.{◌≡◌, ℕ, zero, suc, ◌+◌, ◌<◌, ◌≤◌, Bool, true, false, List, [], ◌∷◌, length, map, ap, ap₂, sym, subst, refl, ◌∙◌, arith, inl, inr}
use Rattle.std.specs.Prelude.{Option, Some, None, ◌⊎◌, filter_map, not, slice_get, slice_set, unwrap_or, ◌==◌, ◌&&◌, if◌then◌else◌}
use Rattle.std.specs.List.{cons_option, enumerate_from, list_any}
use Rattle.std.specs.Option.{option_and_then, option_map_or}
use Rattle.std.proofs.lemmas.Bool.{and_from, false≢true, or_cases, or_left, or_right, eqb-true, and_parts}
use Rattle.std.proofs.lemmas.Option.{none-some, same_Some}
use Rattle.jf_bytes.proofs.Tests.{equals_itself}
use Rattle.jf_bytes.proofs.Lists.{slice_get-set_same}
use Rattle.jvm_model.specs.declared.event.Mark.{Mark}
use Rattle.jvm_model.specs.declared.event.Mark.TheVariants.{Off, Plain, Root}
use Rattle.jvm_model.specs.declared.program.MethodPlace.{MethodPlace}
use Rattle.jvm_model.specs.declared.program.Program.{Program}
use Rattle.jvm_model.specs.Classes.Load.{is_among}
use Rattle.jvm_model.specs.Profiling.Points.{is_target}
use Rattle.jvm_model.specs.Profiling.Revealed.{Revealed, changed_of, mark_of, marks_of, stand_of}
use Rattle.jvm_model.specs.Profiling.Swaps.{differs, same_mark}
use Rattle.jvm_model.specs.Profiling.Targets.{operations_of}
use Rattle.possible_callees.specs.Tables.{IsRising}
use Rattle.possible_callees.specs.Ranks.{AreDistinct, rank_of}
use Rattle.possible_callees.proofs.Truths.{alike}
use Rattle.possible_callees.proofs.Classes.RankLemmas.{rank-is, rank-there}
use Rattle.possible_callees.proofs.Numbers.TableLemmas.{set-length, set-other}
use Rattle.possible_callees.proofs.Classes.LineageLemmas.{below-or-past}
use Rattle.call_revelation.specs.declared.reveal.Reveal.{Reveal}
use Rattle.call_revelation.specs.Reveals.{IsRevelation, class_changed, mark_at, mark_by, mark_kept, now_of, rank_changed, with_marks}
use Rattle.call_revelation.proofs.Classes.InLoadOrder.{in-order}
use Rattle.call_revelation.proofs.Revelations.Marking.{mark-is}

pub same-itself : (a : Mark) → same_mark a a ≡ true
same-itself Off = refl
same-itself Plain = refl
same-itself Root = refl

-- ---- lists with their numbers

-- what stands at a number
listed : (f : ℕ → Mark) (k : ℕ) (xs : List MethodPlace) (i : ℕ) (x : MethodPlace) → slice_get xs i ≡ Some x
    → slice_get (map (λ (e : ℕ × MethodPlace). f e.0) (enumerate_from k xs)) i ≡ Some (f (k + i))
listed f k [] i x e = absurd (none-some x e)
listed f k (y ∷ ys) zero x e = ap (λ j. Some (f j)) (let z : k ≡ k + 0 = omega arith in z)
listed f k (y ∷ ys) (suc i) x e = listed f (k + 1) ys i x e ∙ ap (λ j. Some (f j)) (let z : k + 1 + i ≡ k + suc i = omega arith in z)

-- one of them, by its number
any-numbered : (test : ℕ × MethodPlace → Bool) (k : ℕ) (xs : List MethodPlace) (i : ℕ) (x : MethodPlace) → slice_get xs i ≡ Some x → test (k + i, x) ≡ true
    → list_any test (enumerate_from k xs) ≡ true
any-numbered test k [] i x e h = absurd (none-some x e)
any-numbered test k (y ∷ ys) zero x e h =
    or_left (test (k, y)) (list_any test (enumerate_from (k + 1) ys))
    (ap₂ (λ (j : ℕ) (z : MethodPlace). test (j, z)) (let z : k ≡ k + 0 = omega arith in z) (same_Some y x e) ∙ h)
any-numbered test k (y ∷ ys) (suc i) x e h =
    or_right (test (k, y)) (list_any test (enumerate_from (k + 1) ys))
    (any-numbered test (k + 1) ys i x e (ap (λ (j : ℕ). test (j, x)) (let z : k + 1 + i ≡ k + suc i = omega arith in z) ∙ h))

record IsNumbered (test : ℕ × MethodPlace → Bool) (k : ℕ) (xs : List MethodPlace) : Type 0 where
  index : ℕ
  item : MethodPlace
  there : slice_get xs index ≡ Some item
  holds : test (k + index, item) ≡ true

numbered-any : (test : ℕ × MethodPlace → Bool) (k : ℕ) (xs : List MethodPlace) → list_any test (enumerate_from k xs) ≡ true → IsNumbered test k xs
numbered-any test k [] h = absurd (false≢true h)
numbered-any test k (x ∷ xs) h =
    elim (or_cases (test (k, x)) (list_any test (enumerate_from (k + 1) xs)) h) [
      | inl a ↦ record { index = 0; item = x; there = refl; holds = ap (λ (j : ℕ). test (j, x)) (let z : k + 0 ≡ k = omega arith in z) ∙ a }
      | inr b ↦
          let i = numbered-any test (k + 1) xs b in
          record { index = suc i.index; item = i.item; there = i.there; holds = ap (λ (j : ℕ). test (j, i.item)) (let z : k + suc i.index ≡ k + 1 + i.index = omega arith in z) ∙ i.holds }
    ]

-- what is made of one that gives it
record IsMade (f : ℕ → Option ℕ) (xs : List ℕ) (y : ℕ) : Type 0 where
  item : ℕ
  there : is_among item xs ≡ true
  gives : f item ≡ Some y

made-from : (f : ℕ → Option ℕ) (xs : List ℕ) (y : ℕ) → is_among y (filter_map f xs) ≡ true → IsMade f xs y
made-from f [] y h = absurd (false≢true h)
made-from f (x ∷ xs) y h = by (f x) refl h (made-from f xs y)
  where
    behind : IsMade f xs y → IsMade f (x ∷ xs) y
    behind i = record { item = i.item; there = or_right (i.item == x) (is_among i.item xs) i.there; gives = i.gives }

    by : (o : Option ℕ) → f x ≡ o → is_among y (cons_option o (filter_map f xs)) ≡ true → (is_among y (filter_map f xs) ≡ true → IsMade f xs y) → IsMade f (x ∷ xs) y
    by None e h rest = behind (rest h)
    by (Some z) e h rest =
        elim (or_cases (y == z) (is_among y (filter_map f xs)) h) [
          | inl same ↦ record { item = x; there = or_left (x == x) (is_among x xs) (equals_itself x); gives = e ∙ ap (λ w. Some w) (sym (eqb-true y z same)) }
          | inr later ↦ behind (rest later)
        ]

made-to : (f : ℕ → Option ℕ) (xs : List ℕ) (x y : ℕ) → is_among x xs ≡ true → f x ≡ Some y → is_among y (filter_map f xs) ≡ true
made-to f [] x y there e = absurd (false≢true there)
made-to f (z ∷ zs) x y there e =
    elim (or_cases (x == z) (is_among x zs) there) [
      | inl same ↦ ap (λ o. is_among y (cons_option o (filter_map f zs))) (ap f (sym (eqb-true x z same)) ∙ e) ∙ or_left (y == y) (is_among y (filter_map f zs)) (equals_itself y)
      | inr later ↦ pushed (f z) (made-to f zs x y later e)
    ]
  where
    pushed : (o : Option ℕ) → is_among y (filter_map f zs) ≡ true → is_among y (cons_option o (filter_map f zs)) ≡ true
    pushed None h = h
    pushed (Some w) h = or_right (y == w) (is_among y (filter_map f zs)) h

-- ---- classes whose marks differ

module _ (p : Program) (r : Reveal) (is : IsRevelation p r) (before : Revealed) (shown : r.shown ≡ marks_of p before) (class : ℕ) where
  was-shown : (m : ℕ) (place : MethodPlace) → slice_get p.methods m ≡ Some place → mark_at r.shown m ≡ mark_of p before m
  was-shown m place e =
      ap (λ l. mark_at l m) shown
      ∙ ap (λ (o : Option Mark). unwrap_or o Off) (listed (mark_of p before) 0 p.methods m place e ∙ ap (λ j. Some (mark_of p before j)) (let z : 0 + m ≡ m = omega arith in z))

  abbrev test : ℕ × MethodPlace → Bool
  test e = e.1.class == class && not (same_mark (mark_of p before e.0) (mark_of p (now_of r) e.0))

  not-same : (m : ℕ) (place : MethodPlace) → slice_get p.methods m ≡ Some place → (b : Bool) → same_mark (mark_at r.shown m) (mark_kept p r m) ≡ b
      → same_mark (mark_of p before m) (mark_of p (now_of r) m) ≡ b
  not-same m place e b k = sym (ap₂ (λ x y. same_mark x y) (was-shown m place e) (mark-is p r is m)) ∙ k

  -- the class of a method that changed
  record IsChanged (m : ℕ) : Type 0 where
    place : MethodPlace
    there : slice_get p.methods m ≡ Some place
    is_class : place.class ≡ class
    other : same_mark (mark_at r.shown m) (mark_kept p r m) ≡ false

  is-changed : (m : ℕ) → class_changed p r m ≡ Some class → IsChanged m
  is-changed m e = by (same_mark (mark_at r.shown m) (mark_kept p r m)) refl e
    where
      at : (o : Option MethodPlace) → slice_get p.methods m ≡ o → same_mark (mark_at r.shown m) (mark_kept p r m) ≡ false
          → option_map_or (λ (place : MethodPlace). Some place.class) o None ≡ Some class → IsChanged m
      at None o k e = absurd (none-some class e)
      at (Some place) o k e = record { place = place; there = o; is_class = same_Some place.class class e; other = k }

      by : (b : Bool) → same_mark (mark_at r.shown m) (mark_kept p r m) ≡ b
          → (if b then None else option_map_or (λ (place : MethodPlace). Some place.class) (slice_get p.methods m) None) ≡ Some class → IsChanged m
      by true k e = absurd (none-some class e)
      by false k e = at (slice_get p.methods m) refl k e

  changed-to : is_among class (filter_map (class_changed p r) r.stale) ≡ true → list_any test (enumerate_from 0 p.methods) ≡ true
  changed-to h =
      let made = made-from (class_changed p r) r.stale class h in
      let c = is-changed made.item made.gives in
      any-numbered test 0 p.methods made.item c.place c.there
      (ap (λ (j : ℕ). test (j, c.place)) (let z : 0 + made.item ≡ made.item = omega arith in z)
      ∙ and_from (c.place.class == class) (not (same_mark (mark_of p before made.item) (mark_of p (now_of r) made.item)))
      (ap (λ k. k == class) c.is_class ∙ equals_itself class)
      (ap not (not-same made.item c.place c.there false c.other)))

  -- a method that is not stale was shown as it is
  is-stale : (m : ℕ) (place : MethodPlace) → slice_get p.methods m ≡ Some place → same_mark (mark_of p before m) (mark_of p (now_of r) m) ≡ false → is_among m r.stale ≡ true
  is-stale m place e other = by (is_among m r.stale) refl
    where
      by : (b : Bool) → is_among m r.stale ≡ b → is_among m r.stale ≡ true
      by true k = k
      by false k =
          absurd (false≢true (sym other ∙ (ap (λ x. same_mark x (mark_of p (now_of r) m)) (sym (was-shown m place e) ∙ is.shown m k) ∙ same-itself (mark_of p (now_of r) m))))

  changed-from : list_any test (enumerate_from 0 p.methods) ≡ true → is_among class (filter_map (class_changed p r) r.stale) ≡ true
  changed-from h =
      let i = numbered-any test 0 p.methods h in
      let holds : test (i.index, i.item) ≡ true = ap (λ (j : ℕ). test (j, i.item)) (let z : i.index ≡ 0 + i.index = omega arith in z) ∙ i.holds in
      let of_class = eqb-true i.item.class class (and_parts (i.item.class == class) (not (same_mark (mark_of p before i.index) (mark_of p (now_of r) i.index))) holds).0 in
      let other = is-not (same_mark (mark_of p before i.index) (mark_of p (now_of r) i.index))
      (and_parts (i.item.class == class) (not (same_mark (mark_of p before i.index) (mark_of p (now_of r) i.index))) holds).1 in
      made-to (class_changed p r) r.stale i.index class (is-stale i.index i.item i.there other)
      (ap (λ b. if b then None else option_map_or (λ (place : MethodPlace). Some place.class) (slice_get p.methods i.index) None)
      (ap₂ (λ x y. same_mark x y) (was-shown i.index i.item i.there) (mark-is p r is i.index) ∙ other)
      ∙ (ap (λ o. option_map_or (λ (place : MethodPlace). Some place.class) o None) i.there
      ∙ ap (λ c. Some c) of_class))
    where
      is-not : (b : Bool) → not b ≡ true → b ≡ false
      is-not false h = refl
      is-not true h = absurd (false≢true h)

  class-differs : is_among class (filter_map (class_changed p r) r.stale) ≡ differs p (operations_of p) (stand_of before) (stand_of (now_of r)) class
  class-differs = alike (is_among class (filter_map (class_changed p r) r.stale)) (list_any test (enumerate_from 0 p.methods)) changed-to changed-from

-- ---- and their places in load order

module _ (p : Program) (r : Reveal) (is : IsRevelation p r) (before : Revealed) (shown : r.shown ≡ marks_of p before) (alone : AreDistinct r.lineage.loaded) where
  abbrev is_changed : ℕ → Bool
  is_changed = differs p (operations_of p) (stand_of before) (stand_of (now_of r))

  abbrev changed_classes : List ℕ
  changed_classes = filter_map (class_changed p r) r.stale

  abbrev changed_ranks : List ℕ
  changed_ranks = filter_map (rank_changed p r) r.stale

  -- at the place of a class that changed
  rank-hit : (i : ℕ) → is_among i changed_ranks ≡ true → option_map_or is_changed (slice_get r.lineage.loaded i) false ≡ true
  rank-hit i h =
      let made = made-from (rank_changed p r) r.stale i h in
      by made.item made.there (class_changed p r made.item) refl made.gives
    where
      by : (m : ℕ) → is_among m r.stale ≡ true → (o : Option ℕ) → class_changed p r m ≡ o
          → option_and_then (λ class. rank_of class r.lineage.loaded) o ≡ Some i → option_map_or is_changed (slice_get r.lineage.loaded i) false ≡ true
      by m stale None e ranked = absurd (none-some i ranked)
      by m stale (Some class) e ranked =
          ap (λ o. option_map_or is_changed o false) (rank-there class r.lineage.loaded i ranked)
          ∙ (sym (class-differs p r is before shown class) ∙ made-to (class_changed p r) r.stale m class stale e)

  hit-rank : (i : ℕ) → option_map_or is_changed (slice_get r.lineage.loaded i) false ≡ true → is_among i changed_ranks ≡ true
  hit-rank i h = by (slice_get r.lineage.loaded i) refl h
    where
      by : (o : Option ℕ) → slice_get r.lineage.loaded i ≡ o → option_map_or is_changed o false ≡ true → is_among i changed_ranks ≡ true
      by None e h = absurd (false≢true h)
      by (Some class) e h =
          let made = made-from (class_changed p r) r.stale class (class-differs p r is before shown class ∙ h) in
          made-to (rank_changed p r) r.stale made.item i made.there
          (ap (option_and_then (λ c. rank_of c r.lineage.loaded)) made.gives ∙ rank-is class r.lineage.loaded i alone e)

  pub classes-changed : (ranks : List ℕ) → IsRising ranks → ((rank : ℕ) → is_among rank ranks ≡ is_among rank changed_ranks)
      → filter_map (slice_get r.lineage.loaded) ranks ≡ changed_of p before (now_of r)
  classes-changed ranks up same =
      in-order is_changed r.lineage.loaded ranks up
      (λ i. same i ∙ alike (is_among i changed_ranks) (option_map_or is_changed (slice_get r.lineage.loaded i) false) (rank-hit i) (hit-rank i))

-- ---- marks that are shown

marks-length : (p : Program) (r : Reveal) (methods : List ℕ) (shown : List Mark) → length (with_marks p r methods shown) ≡ length shown
marks-length p r [] shown = refl
marks-length p r (m ∷ rest) shown = marks-length p r rest (slice_set shown m (mark_kept p r m)) ∙ set-length shown m (mark_kept p r m)

-- a mark that is right stays so
mark-stays : (p : Program) (r : Reveal) (methods : List ℕ) (shown : List Mark) (m : ℕ) → m < length shown → mark_at shown m ≡ mark_kept p r m
    → mark_at (with_marks p r methods shown) m ≡ mark_kept p r m
mark-stays p r [] shown m within e = e
mark-stays p r (x ∷ rest) shown m within e =
    mark-stays p r rest (slice_set shown x (mark_kept p r x)) m (subst (λ n. m < n) (sym (set-length shown x (mark_kept p r x))) within) (by (m == x) refl)
  where
    by : (b : Bool) → (m == x) ≡ b → mark_at (slice_set shown x (mark_kept p r x)) m ≡ mark_kept p r m
    by true k =
        let same = eqb-true m x k in
        ap (λ j. mark_at (slice_set shown x (mark_kept p r x)) j) same
        ∙ (ap (λ (o : Option Mark). unwrap_or o Off) (slice_get-set_same shown x (mark_kept p r x) (subst (λ j. j < length shown) same within)) ∙ ap (mark_kept p r) (sym same))
    by false k = ap (λ (o : Option Mark). unwrap_or o Off) (set-other shown x m (mark_kept p r x) k) ∙ e

mark-set : (p : Program) (r : Reveal) (methods : List ℕ) (shown : List Mark) (m : ℕ) → m < length shown → is_among m methods ≡ true
    → mark_at (with_marks p r methods shown) m ≡ mark_kept p r m
mark-set p r [] shown m within h = absurd (false≢true h)
mark-set p r (x ∷ rest) shown m within h =
    let longer = subst (λ n. m < n) (sym (set-length shown x (mark_kept p r x))) within in
    elim (or_cases (m == x) (is_among m rest) h) [
      | inl k ↦
          let same = eqb-true m x k in
          mark-stays p r rest (slice_set shown x (mark_kept p r x)) m longer
          (ap (λ j. mark_at (slice_set shown x (mark_kept p r x)) j) same
          ∙ (ap (λ (o : Option Mark). unwrap_or o Off) (slice_get-set_same shown x (mark_kept p r x) (subst (λ j. j < length shown) same within)) ∙ ap (mark_kept p r) (sym same)))
      | inr later ↦ mark-set p r rest (slice_set shown x (mark_kept p r x)) m longer later
    ]

module _ (p : Program) (r : Reveal) (is : IsRevelation p r) where
  abbrev now_shown : List Mark
  now_shown = with_marks p r r.stale r.shown

  pub shown-now : (m : ℕ) → m < length p.methods → mark_at now_shown m ≡ mark_of p (now_of r) m
  shown-now m within = by (is_among m r.stale) refl
    where
      less : m < length r.shown
      less = subst (λ n. m < n) (sym is.kept.marked) within

      by : (b : Bool) → is_among m r.stale ≡ b → mark_at now_shown m ≡ mark_of p (now_of r) m
      by true e = mark-set p r r.stale r.shown m less e ∙ mark-is p r is m
      by false e = mark-stays p r r.stale r.shown m less (is.shown m e ∙ sym (mark-is p r is m)) ∙ mark-is p r is m

  past : (xs : List Mark) (m : ℕ) → length xs ≤ m → mark_at xs m ≡ Off
  past [] m h = refl
  past (x ∷ xs) zero h = absurd (omega (arith, h))
  past (x ∷ xs) (suc m) h = past xs m (omega (arith, h))

  nowhere : (ms : List MethodPlace) (m : ℕ) → length ms ≤ m → slice_get ms m ≡ None
  nowhere [] m h = refl
  nowhere (x ∷ ms) zero h = absurd (omega (arith, h))
  nowhere (x ∷ ms) (suc m) h = nowhere ms m (omega (arith, h))

  pub shown-each : (m : ℕ) → mark_at now_shown m ≡ mark_of p (now_of r) m
  shown-each m = by (below-or-past m (length p.methods))
    where
      by : (m < length p.methods) ⊎ (length p.methods ≤ m) → mark_at now_shown m ≡ mark_of p (now_of r) m
      by (inl within) = shown-now m within
      by (inr beyond) =
          past now_shown m (subst (λ n. n ≤ m) (sym (marks-length p r r.stale r.shown ∙ is.kept.marked)) beyond)
          ∙ sym (ap (λ (o : Option MethodPlace). mark_by (option_map_or (λ (place : MethodPlace). is_among place.class r.lineage.loaded) o false)
          (is_among m r.selected) (is_target p (operations_of p) r.lineage.loaded r.entered m)) (nowhere p.methods m beyond))

  same-marks : (f : ℕ → Mark) (k : ℕ) (xs : List Mark) (ms : List MethodPlace) → length xs ≡ length ms → ((i : ℕ) → i < length ms → mark_at xs i ≡ f (k + i))
      → xs ≡ map (λ (e : ℕ × MethodPlace). f e.0) (enumerate_from k ms)
  same-marks f k [] [] long each = refl
  same-marks f k [] (y ∷ ms) long each = absurd (omega (arith, long))
  same-marks f k (x ∷ xs) [] long each = absurd (omega (arith, long))
  same-marks f k (x ∷ xs) (y ∷ ms) long each =
      ap₂ (λ z l. z ∷ l) (each 0 (omega arith) ∙ ap f (let z : k + 0 ≡ k = omega arith in z))
      (same-marks f (k + 1) xs ms (omega (arith, long)) (λ i within. each (suc i) (omega (arith, within)) ∙ ap f (let z : k + suc i ≡ k + 1 + i = omega arith in z)))

  pub all-shown : now_shown ≡ marks_of p (now_of r)
  all-shown =
      same-marks (mark_of p (now_of r)) 0 now_shown p.methods (marks-length p r r.stale r.shown ∙ is.kept.marked)
      (λ i within. shown-now i within ∙ ap (mark_of p (now_of r)) (let z : i ≡ 0 + i = omega arith in z))

  pub reshown : IsRevelation p (record r { shown = now_shown; stale = [] })
  reshown = record {
    kept = record {
      fit = is.kept.fit;
      short = is.kept.short;
      numbers = is.kept.numbers;
      own = is.kept.own;
      lineage = is.kept.lineage;
      book = is.kept.book;
      flags = is.kept.flags;
      flagged = is.kept.flagged;
      marked = marks-length p r r.stale r.shown ∙ is.kept.marked;
      booked = is.kept.booked;
      callers = is.kept.callers;
      named = is.kept.named;
      called = is.kept.called;
    };
    targets = is.targets;
    shown = λ m none. shown-each m;
  }
