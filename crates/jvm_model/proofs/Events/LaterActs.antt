-- A later action changes nothing of what was before: what stands, what is marked, what is told and what is projected up
-- to its moment.
use Rattle.std.proofs.Common.{◌≡◌, ℕ, zero, suc, ◌<◌, ◌≤◌, Bool, true, false, not, ◌||◌, ◌&&◌, List, [], ◌∷◌, ◌++◌, Option, Some, None, option_and_then, slice_get, slice_set, if◌then◌else◌, refl, sym, ap, ap₂, subst, ◌∙◌, arith}
use Rattle.std.specs.Prelude.{fold, filter, nat_le, ◌-◌, ◌==◌}
use Rattle.std.specs.List.{AllByRecursion}
use Rattle.std.specs.Option.{option_map_or}
use Rattle.std.proofs.lemmas.Bool.{ne_eqb, eq-eqb, false≢true, lt-leb}
use Rattle.std.proofs.lemmas.List.{append_assoc}
use Rattle.jvm_model.specs.declared.event.Act.{Act}
use Rattle.jvm_model.specs.declared.event.Event.{Event}
use Rattle.jvm_model.specs.declared.event.EventKind.{EventKind}
use Rattle.jvm_model.specs.declared.event.EventKind.TheVariants as kind
use Rattle.jvm_model.specs.Profiling.Activations.{Activation, Trace, no_trace, current, without_current, with_end, trace_changed, all_changed, trace, trace_in-zero, trace_in-suc}
use Rattle.jvm_model.specs.Basis.Data.{Change, Loads, Began, Left, Unwound, Local, Operation, Listing, World}
use Rattle.jvm_model.specs.Profiling.EventLists.{Marking, all_told, begin_events, end_events, end_of, events_of, events_of-zero, events_of-suc, events_told}
use Rattle.jvm_model.specs.Codes.Originals.{original}
use Rattle.jvm_model.specs.Profiling.Paths.{contexts_of, is_inside}
use Rattle.jvm_model.specs.Profiling.Projection.{selection_acted, is_root, is_selected, paths_made, paths_made-zero, paths_made-suc, paths_of, projection, who}
use Rattle.jvm_model.specs.Running.Run.{turn, turn_in}
use Rattle.jvm_model.proofs.Events.Chains.{path_below, path_in, paths_after, paths_of-recursion}
use Rattle.jvm_model.specs.Profiling.Swaps.{Point, point, act_points, change_point, change_points, points_in, points_in-zero, points_in-suc, step_points}
use Rattle.jvm_model.specs.Profiling.Points.{Standing, nothing, has_root, is_empty, is_quiet, standing_settled, methods_selected, after_act, after_acts, acts_at, acts_behind, is_profiled, with_entered, after_change, after_changes, after_step, standing_in, standing_in-zero, standing_in-suc, mark_in, before_begin, marking_in}

pub fold-push : (f : Bool → Act → Bool) (now : Bool) (acts : List Act) (x : Act) → fold f now (acts ++ x ∷ []) ≡ f (fold f now acts) x
fold-push f now [] x = refl
fold-push f now (a ∷ acts) x = fold-push f (f now a) acts x

pub filter-push : (test : Act → Bool) (acts : List Act) (x : Act) → test x ≡ false → filter test (acts ++ x ∷ []) ≡ filter test acts
filter-push test [] x e = ap (λ b. if b then x ∷ [] else []) e
filter-push test (a ∷ acts) x e = by (test a) (filter-push test acts x e)
  where
    by : (b : Bool) → filter test (acts ++ x ∷ []) ≡ filter test acts
        → (if b then a ∷ filter test (acts ++ x ∷ []) else filter test (acts ++ x ∷ [])) ≡ (if b then a ∷ filter test acts else filter test acts)
    by true e = ap (λ l. a ∷ l) e
    by false e = e

pub filter-last : (test : Act → Bool) (acts : List Act) (x : Act) → test x ≡ true → filter test (acts ++ x ∷ []) ≡ filter test acts ++ x ∷ []
filter-last test [] x e = ap (λ b. if b then x ∷ [] else []) e
filter-last test (a ∷ acts) x e = by (test a) (filter-last test acts x e)
  where
    by : (b : Bool) → filter test (acts ++ x ∷ []) ≡ filter test acts ++ x ∷ []
        → (if b then a ∷ filter test (acts ++ x ∷ []) else filter test (acts ++ x ∷ [])) ≡ (if b then a ∷ filter test acts else filter test acts) ++ x ∷ []
    by true e = ap (λ l. a ∷ l) e
    by false e = e

-- ---- activations that began by a moment

abbrev pub AllBegunBy : ℕ → List Activation → Type 0
AllBegunBy n activations = AllByRecursion (λ (a : Activation). a.begin ≤ n) activations

pub all_begun-push : (n : ℕ) (activations : List Activation) (a : Activation) → AllBegunBy n activations → a.begin ≤ n → AllBegunBy n (activations ++ a ∷ [])
all_begun-push n [] a each is = (is, tt)
all_begun-push n (b ∷ rest) a each is = (each.0, all_begun-push n rest a each.1 is)

pub all_begun-set : (n : ℕ) (activations : List Activation) (at : ℕ) (a : Activation) → AllBegunBy n activations → a.begin ≤ n → AllBegunBy n (slice_set activations at a)
all_begun-set n [] at a each is = tt
all_begun-set n (b ∷ rest) zero a each is = (is, each.1)
all_begun-set n (b ∷ rest) (suc at) a each is = (each.0, all_begun-set n rest at a each.1 is)

pub all_begun-at : (n : ℕ) (activations : List Activation) (at : ℕ) (a : Activation) → AllBegunBy n activations → slice_get activations at ≡ Some a → a.begin ≤ n
all_begun-at n [] at a each found = absurd (let no : None ≡ Some a → ⊥ = λ e. cc in no found)
all_begun-at n (b ∷ rest) zero a each found = subst (λ (x : Activation). x.begin ≤ n) (let one : Some b ≡ Some a → b ≡ a = λ e. cc in one found) each.0
all_begun-at n (b ∷ rest) (suc at) a each found = all_begun-at n rest at a each.1 found

pub all_begun-end : (n step : ℕ) (t : Trace) → AllBegunBy n t.activations → AllBegunBy n (with_end step t).activations
all_begun-end n step t each = by t.live
  where
    set : (number : ℕ) (o : Option Activation) → slice_get t.activations number ≡ o
        → AllBegunBy n (option_map_or (λ (a : Activation). slice_set t.activations number (record a { «end» = Some step })) o t.activations)
    set number None found = each
    set number (Some a) found = all_begun-set n t.activations number (record a { «end» = Some step }) each (all_begun-at n t.activations number a each found)

    by : (live : List ℕ) → AllBegunBy n (without_current step live t).activations
    by [] = each
    by (number ∷ rest) = set number (slice_get t.activations number) refl

pub all_begun-change : (n step : ℕ) (t : Trace) (c : Change) → step ≤ n → AllBegunBy n t.activations → AllBegunBy n (trace_changed step t c).activations
all_begun-change n step t (Loads classes) le each = each
all_begun-change n step t (Began method) le each = all_begun-push n t.activations (record { method = method; parent = current t.live; begin = step; «end» = None }) each le
all_begun-change n step t Left le each = all_begun-end n step t each
all_begun-change n step t Unwound le each = all_begun-end n step t each

pub all_begun-changes : (n step : ℕ) (t : Trace) (changes : List Change) → step ≤ n → AllBegunBy n t.activations → AllBegunBy n (all_changed step t changes).activations
all_begun-changes n step t [] le each = each
all_begun-changes n step t (c ∷ more) le each = all_begun-changes n step (trace_changed step t c) more le (all_begun-change n step t c le each)

pub trace-all_begun : (w : World) (n k : ℕ) → k ≤ n → AllBegunBy n (trace w k).activations
trace-all_begun w n zero le = subst (λ (t : Trace). AllBegunBy n t.activations) (sym (trace_in-zero w (original w.program))) (all_begun-changes n 0 no_trace (turn w 0).changes le tt)
trace-all_begun w n (suc k) le =
    subst (λ (t : Trace). AllBegunBy n t.activations) (sym (trace_in-suc w (original w.program) k))
    (all_begun-changes n (suc k) (trace w k) (turn w (suc k)).changes le (trace-all_begun w n k (omega arith)))

module _ (acts : List Act) (x : Act) (behind : 1 ≤ x.moment) where
  abbrev pub more : List Act
  more = acts ++ x ∷ []

  pub same-selected : (k method : ℕ) → k ≤ x.moment → is_selected more k method ≡ is_selected acts k method
  same-selected k method le = fold-push (selection_acted k method) false acts x ∙ by (x.method == method) (nat_le x.moment (k - 1)) (lt-leb x.moment (k - 1) (omega arith))
    where
      by : (a b : Bool) → b ≡ false → (if a && b then x.select else is_selected acts k method) ≡ is_selected acts k method
      by true false e = refl
      by false b e = refl
      by true true e = absurd (false≢true (sym e))

  pub same-root : (a : Activation) → a.begin ≤ x.moment → is_root more a ≡ is_root acts a
  same-root a le = same-selected a.begin a.method le

  -- ---- paths

  same-paths_after : (paths : List (List ℕ)) (activations : List Activation) → AllBegunBy x.moment activations → paths_after more paths activations ≡ paths_after acts paths activations
  same-paths_after paths [] each = refl
  same-paths_after paths (a ∷ rest) each =
      let path = path_in paths a.parent in
      let same : path_below more a path ≡ path_below acts a path = ap (λ b. if b || is_inside path then path ++ a.method ∷ [] else []) (same-root a each.0) in
      ap (λ q. paths_after more (paths ++ q ∷ []) rest) same ∙ same-paths_after (paths ++ path_below acts a path ∷ []) rest each.1

  pub same-paths : (activations : List Activation) → AllBegunBy x.moment activations → paths_of more activations ≡ paths_of acts activations
  same-paths activations each =
      paths_of-recursion more activations ∙ (same-paths_after [] activations each ∙ sym (paths_of-recursion acts activations))

  pub same-has_root : (activations : List Activation) (live : List ℕ) → AllBegunBy x.moment activations → has_root more activations live ≡ has_root acts activations live
  same-has_root activations [] each = refl
  same-has_root activations (number ∷ rest) each =
      ap₂ (λ a b. a || b) (by (slice_get activations number) refl) (same-has_root activations rest each)
    where
      by : (o : Option Activation) → slice_get activations number ≡ o → option_map_or (is_root more) o false ≡ option_map_or (is_root acts) o false
      by None found = refl
      by (Some a) found = same-root a (all_begun-at x.moment activations number a each found)

  -- ---- what stands

  pub same-settled : (s : Standing) → AllBegunBy x.moment s.trace.activations → standing_settled more s ≡ standing_settled acts s
  same-settled s each =
      ap (λ b. let r : Standing = if is_empty s.selected && not b then record s { entered = [] } else s in r) (same-has_root s.trace.activations s.trace.live each)

  pub settled-trace : (acts : List Act) (s : Standing) → (standing_settled acts s).trace ≡ s.trace
  settled-trace acts s = by (is_quiet acts s)
    where
      by : (b : Bool) → (let r : Standing = if b then record s { entered = [] } else s in r).trace ≡ s.trace
      by true = refl
      by false = refl

  pub acts-trace : (acts todo : List Act) (s : Standing) → (after_acts acts s todo).trace ≡ s.trace
  acts-trace acts [] s = refl
  acts-trace acts (act ∷ todo) s = acts-trace acts todo (after_act acts s act) ∙ settled-trace acts (record s { selected = methods_selected act s.selected })

  pub same-acts : (todo : List Act) (s : Standing) → AllBegunBy x.moment s.trace.activations → after_acts more s todo ≡ after_acts acts s todo
  same-acts [] s each = refl
  same-acts (act ∷ todo) s each =
      let one : after_act more s act ≡ after_act acts s act = same-settled (record s { selected = methods_selected act s.selected }) each in
      ap (λ r. after_acts more r todo) one
      ∙ same-acts todo (after_act acts s act)
      (subst (λ (t : Trace). AllBegunBy x.moment t.activations) (sym (settled-trace acts (record s { selected = methods_selected act s.selected }))) each)

  same-change : (step : ℕ) (s : Standing) (c : Change) → step ≤ x.moment → AllBegunBy x.moment s.trace.activations → after_change more step s c ≡ after_change acts step s c
  same-change step s (Loads classes) le each = refl
  same-change step s (Began method) le each =
      let t = trace_changed step s.trace (Began method) in
      let paths : paths_of more t.activations ≡ paths_of acts t.activations = same-paths t.activations (all_begun-change x.moment step s.trace (Began method) le each) in
      ap (λ q. let r : Standing = record s { entered = if is_inside (path_in q (current t.live)) then with_entered method s.entered else s.entered; trace = t } in r) paths
  same-change step s Left le each = refl
  same-change step s Unwound le each = refl

  change-trace : (acts : List Act) (step : ℕ) (s : Standing) (c : Change) → (after_change acts step s c).trace ≡ trace_changed step s.trace c
  change-trace acts step s (Loads classes) = refl
  change-trace acts step s (Began method) = refl
  change-trace acts step s Left = refl
  change-trace acts step s Unwound = refl

  -- all activations that stand at a time have begun by the moment
  abbrev HasBegunBy : Standing → Type 0
  HasBegunBy s = AllBegunBy x.moment s.trace.activations

  all_begun-after : (acts : List Act) (step : ℕ) (s : Standing) (c : Change) → step ≤ x.moment → HasBegunBy s → HasBegunBy (after_change acts step s c)
  all_begun-after acts step s c le each = subst (λ (t : Trace). AllBegunBy x.moment t.activations) (sym (change-trace acts step s c)) (all_begun-change x.moment step s.trace c le each)

  same-changes : (step : ℕ) (s : Standing) (changes : List Change) → step ≤ x.moment → HasBegunBy s → after_changes more step s changes ≡ after_changes acts step s changes
  same-changes step s [] le each = refl
  same-changes step s (c ∷ rest) le each =
      ap (λ r. after_changes more step r rest) (same-change step s c le each) ∙ same-changes step (after_change acts step s c) rest le (all_begun-after acts step s c le each)

  changes-all_begun : (acts : List Act) (step : ℕ) (s : Standing) (changes : List Change) → step ≤ x.moment → HasBegunBy s → HasBegunBy (after_changes acts step s changes)
  changes-all_begun acts step s [] le each = each
  changes-all_begun acts step s (c ∷ rest) le each = changes-all_begun acts step (after_change acts step s c) rest le (all_begun-after acts step s c le each)

  ended-all_begun : (acts todo : List Act) (step : ℕ) (s : Standing) (changes : List Change) → step ≤ x.moment → HasBegunBy s
      → HasBegunBy (after_acts acts (standing_settled acts (after_changes acts step s changes)) todo)
  ended-all_begun acts todo step s changes le each =
      subst (λ (t : Trace). AllBegunBy x.moment t.activations)
      (sym (acts-trace acts todo (standing_settled acts (after_changes acts step s changes)) ∙ settled-trace acts (after_changes acts step s changes)))
      (changes-all_begun acts step s changes le each)

  module _ (w : World) (t : Listing) where
    pub standing-all_begun : (k : ℕ) → k ≤ suc x.moment → HasBegunBy (standing_in acts w t k)
    standing-all_begun zero le =
        subst HasBegunBy (sym (standing_in-zero acts w t)) (subst (λ (r : Trace). AllBegunBy x.moment r.activations) (sym (acts-trace acts (acts_at 0 acts) (nothing w))) tt)
    standing-all_begun (suc k) le =
        subst HasBegunBy (sym (standing_in-suc acts w t k))
        (ended-all_begun acts (acts_behind k acts) k (standing_in acts w t k) (turn_in w t k).changes (omega arith) (standing-all_begun k (omega arith)))

    pub same-behind : (k : ℕ) → k < x.moment → acts_behind k more ≡ acts_behind k acts
    same-behind zero less = refl
    same-behind (suc k) less = filter-push (λ (act : Act). act.moment == suc k) acts x (ne_eqb x.moment (suc k) (λ same. omega arith))

    -- before its moment all stands as before
    pub same-standing : (k : ℕ) → k ≤ x.moment → standing_in more w t k ≡ standing_in acts w t k
    same-standing zero le =
        standing_in-zero more w t
        ∙ (ap (after_acts more (nothing w)) (filter-push (λ (act : Act). act.moment == 0) acts x (ne_eqb x.moment 0 (λ same. omega arith)))
        ∙ (same-acts (acts_at 0 acts) (nothing w) tt ∙ sym (standing_in-zero acts w t)))
    same-standing (suc k) le =
        let s = standing_in acts w t k in
        let changes = (turn_in w t k).changes in
        let each = standing-all_begun k (omega arith) in
        let less : k < x.moment = omega arith in
        let after : after_changes more k s changes ≡ after_changes acts k s changes = same-changes k s changes (omega arith) each in
        let ended : standing_settled more (after_changes more k s changes) ≡ standing_settled acts (after_changes acts k s changes) =
        ap (standing_settled more) after ∙ same-settled (after_changes acts k s changes) (changes-all_begun acts k s changes (omega arith) each) in
        standing_in-suc more w t k
        ∙ (ap (λ r. after_step more k r changes) (same-standing k (omega arith))
        ∙ (ap₂ (λ r todo. after_acts more r todo) ended (same-behind k less)
        ∙ (same-acts (acts_behind k acts) (standing_settled acts (after_changes acts k s changes)) (ended-all_begun acts [] k s changes (omega arith) each)
        ∙ sym (standing_in-suc acts w t k))))

    pub acts-last : (acts todo : List Act) (s : Standing) (y : Act) → after_acts acts s (todo ++ y ∷ []) ≡ after_act acts (after_acts acts s todo) y
    acts-last acts [] s y = refl
    acts-last acts (a ∷ todo) s y = acts-last acts todo (after_act acts s a) y

    -- Behind its moment it is applied to what stood there.
    pub next-standing : standing_in more w t (suc x.moment) ≡ after_act acts (standing_in acts w t (suc x.moment)) x
    next-standing = by x.moment refl
      where
        by : (n : ℕ) → x.moment ≡ n → standing_in more w t (suc x.moment) ≡ after_act acts (standing_in acts w t (suc x.moment)) x
        by zero e = absurd (omega (arith, behind, e))
        by (suc k) e =
            let n = x.moment in
            let s = standing_in acts w t n in
            let changes = (turn_in w t n).changes in
            let le : n ≤ x.moment = omega arith in
            let each = standing-all_begun n (omega arith) in
            let after : after_changes more n s changes ≡ after_changes acts n s changes = same-changes n s changes le each in
            let ended : standing_settled more (after_changes more n s changes) ≡ standing_settled acts (after_changes acts n s changes) =
            ap (standing_settled more) after ∙ same-settled (after_changes acts n s changes) (changes-all_begun acts n s changes le each) in
            let todo : acts_behind n more ≡ acts_behind n acts ++ x ∷ [] =
            ap (λ k. acts_behind k more) e ∙ (filter-last (λ (act : Act). act.moment == suc k) acts x (eq-eqb x.moment (suc k) e) ∙ ap (λ k. acts_behind k acts ++ x ∷ []) (sym e)) in
            let before_x = after_acts acts (standing_settled acts (after_changes acts n s changes)) (acts_behind n acts) in
            standing_in-suc more w t n
            ∙ (ap (λ r. after_step more n r changes) (same-standing n le)
            ∙ (ap₂ (λ r l. after_acts more r l) ended todo
            ∙ (acts-last more (acts_behind n acts) (standing_settled acts (after_changes acts n s changes)) x
            ∙ (ap (λ r. after_act more r x) (same-acts (acts_behind n acts) (standing_settled acts (after_changes acts n s changes)) (ended-all_begun acts [] n s changes le each))
            ∙ (same-settled (record before_x { selected = methods_selected x before_x.selected }) (ended-all_begun acts (acts_behind n acts) n s changes le each)
            ∙ ap (λ r. after_act acts r x) (sym (standing_in-suc acts w t n)))))))

    -- ---- marks

    same-before : (step : ℕ) (s : Standing) (changes : List Change) → before_begin more step s changes ≡ before_begin acts step s changes
    same-before step s [] = refl
    same-before step s (Began method ∷ rest) = refl
    same-before step s (Loads classes ∷ rest) = same-before step (after_change acts step s (Loads classes)) rest
    same-before step s (Left ∷ rest) = same-before step (after_change acts step s Left) rest
    same-before step s (Unwound ∷ rest) = same-before step (after_change acts step s Unwound) rest

    pub same-marking : (code : ℕ → List (Operation Local)) (step method : ℕ) → step ≤ x.moment → marking_in more w t code step method ≡ marking_in acts w t code step method
    same-marking code step method le =
        ap (λ s. mark_in w.program code (before_begin more step s (turn_in w t step).changes) method) (same-standing step le)
        ∙ ap (λ s. mark_in w.program code s method) (same-before step (standing_in acts w t step) (turn_in w t step).changes)

  -- ---- events, and the projection

  module _ (w : World) (code : ℕ → List (Operation Local)) where
    abbrev pub after : Marking
    after = marking_in more w (original w.program) code

    abbrev pub before : Marking
    before = marking_in acts w (original w.program) code

    pub same-mark : (step method : ℕ) → step ≤ x.moment → after step method ≡ before step method
    same-mark step method le = same-marking w (original w.program) code step method le

    pub same-end : (k : EventKind) (step : ℕ) (t : Trace) → AllBegunBy x.moment t.activations → end_of after k step t ≡ end_of before k step t
    same-end k step t each = by t.live
      where
        at : (number : ℕ) (o : Option Activation) → slice_get t.activations number ≡ o
            → option_map_or (λ (a : Activation). end_events k step a.method (after a.begin a.method)) o []
            ≡ option_map_or (λ (a : Activation). end_events k step a.method (before a.begin a.method)) o []
        at number None found = refl
        at number (Some a) found = ap (end_events k step a.method) (same-mark a.begin a.method (all_begun-at x.moment t.activations number a each found))

        by : (live : List ℕ) → option_map_or (λ (a : Activation). end_events k step a.method (after a.begin a.method)) (option_and_then (slice_get t.activations) (current live)) []
            ≡ option_map_or (λ (a : Activation). end_events k step a.method (before a.begin a.method)) (option_and_then (slice_get t.activations) (current live)) []
        by [] = refl
        by (number ∷ rest) = at number (slice_get t.activations number) refl

    pub same-told : (step : ℕ) (t : Trace) (c : Change) → step ≤ x.moment → AllBegunBy x.moment t.activations → events_told after step t c ≡ events_told before step t c
    same-told step t (Loads classes) le each = refl
    same-told step t (Began method) le each = ap (begin_events step method) (same-mark step method le)
    same-told step t Left le each = same-end kind.Leave step t each
    same-told step t Unwound le each = same-end kind.Unwind step t each

    pub same-all : (step : ℕ) (t : Trace) (changes : List Change) → step ≤ x.moment → AllBegunBy x.moment t.activations → all_told after step t changes ≡ all_told before step t changes
    same-all step t [] le each = refl
    same-all step t (c ∷ rest) le each =
        ap₂ (λ (a b : List Event). a ++ b) (same-told step t c le each) (same-all step (trace_changed step t c) rest le (all_begun-change x.moment step t c le each))

    -- What was told up to its moment stays told.
    pub same-events : (n : ℕ) → n ≤ x.moment → events_of after w n ≡ events_of before w n
    same-events zero le = events_of-zero after w ∙ (same-all 0 no_trace (turn w 0).changes le tt ∙ sym (events_of-zero before w))
    same-events (suc n) le =
        events_of-suc after w n
        ∙ (ap₂ (λ (a b : List Event). a ++ b) (same-events n (omega arith)) (same-all (suc n) (trace w n) (turn w (suc n)).changes le (trace-all_begun w x.moment n (omega arith)))
        ∙ sym (events_of-suc before w n))

  same-made : (w : World) (n : ℕ) → n ≤ x.moment → paths_made more w n ≡ paths_made acts w n
  same-made w zero le = paths_made-zero more w ∙ sym (paths_made-zero acts w)
  same-made w (suc n) le =
      paths_made-suc more w n
      ∙ (ap₂ (λ (a : List (List ℕ)) (b : List (List ℕ)). a ++ path_in b (who w (suc n)) ∷ []) (same-made w n (omega arith))
      (same-paths (trace w (suc n)).activations (trace-all_begun w x.moment (suc n) le))
      ∙ sym (paths_made-suc acts w n))

  pub same-projection : (w : World) (n : ℕ) → n ≤ x.moment → projection more w n ≡ projection acts w n
  same-projection w n le = ap₂ contexts_of (same-paths (trace w n).activations (trace-all_begun w x.moment n le)) (same-made w n le)

  -- ---- points

  same-profiled : (t : Trace) → AllBegunBy x.moment t.activations → is_profiled more t ≡ is_profiled acts t
  same-profiled t each = ap (λ q. is_inside (path_in q (current t.live))) (same-paths t.activations each)

  same-change_point : (step : ℕ) (c : Change) (s : Standing) → HasBegunBy s → change_point more step c s ≡ change_point acts step c s
  same-change_point step (Loads classes) s each = refl
  same-change_point step (Began method) s each = ap (λ b. let r : List Point = if b then point step s ∷ [] else [] in r) (same-profiled s.trace each)
  same-change_point step Left s each = refl
  same-change_point step Unwound s each = refl

  same-change_points : (step : ℕ) (s : Standing) (changes : List Change) → step ≤ x.moment → HasBegunBy s → change_points more step s changes ≡ change_points acts step s changes
  same-change_points step s [] le each = refl
  same-change_points step s (c ∷ rest) le each =
      let next = after_change acts step s c in
      let begun = all_begun-after acts step s c le each in
      ap (λ r. change_point more step c r ++ change_points more step r rest) (same-change step s c le each)
      ∙ ap₂ (λ (a b : List Point). a ++ b) (same-change_point step c next begun) (same-change_points step next rest le begun)

  same-act_points : (step : ℕ) (s : Standing) (todo : List Act) → HasBegunBy s → act_points more step s todo ≡ act_points acts step s todo
  same-act_points step s [] each = refl
  same-act_points step s (act ∷ todo) each =
      let chosen_s : Standing = record s { selected = methods_selected act s.selected } in
      ap (λ r. point step r ∷ act_points more step r todo) (same-settled chosen_s each)
      ∙ ap (λ l. point step (after_act acts s act) ∷ l)
      (same-act_points step (after_act acts s act) todo (subst (λ (t : Trace). AllBegunBy x.moment t.activations) (sym (settled-trace acts chosen_s)) each))

  act_points-last : (step : ℕ) (s : Standing) (todo : List Act) (y : Act)
      → act_points acts step s (todo ++ y ∷ []) ≡ act_points acts step s todo ++ point step (after_act acts (after_acts acts s todo) y) ∷ []
  act_points-last step s [] y = refl
  act_points-last step s (act ∷ todo) y = ap (λ l. point step (after_act acts s act) ∷ l) (act_points-last step (after_act acts s act) todo y)

  module _ (w : World) (t : Listing) where
    -- what ends a step, and the points of its changes
    ended-same : (n : ℕ) → n ≤ x.moment
        → standing_settled more (after_changes more n (standing_in acts w t n) (turn_in w t n).changes) ≡ standing_settled acts (after_changes acts n (standing_in acts w t n) (turn_in w t n).changes)
    ended-same n le =
        let s = standing_in acts w t n in
        let each = standing-all_begun w t n (omega arith) in
        ap (standing_settled more) (same-changes n s (turn_in w t n).changes le each)
        ∙ same-settled (after_changes acts n s (turn_in w t n).changes) (changes-all_begun acts n s (turn_in w t n).changes le each)

    -- with these actions behind the step
    step-points-same : (n : ℕ) (todo : List Act) → n ≤ x.moment
        → change_points more n (standing_in acts w t n) (turn_in w t n).changes
        ++ point n (standing_settled more (after_changes more n (standing_in acts w t n) (turn_in w t n).changes))
        ∷ act_points more n (standing_settled more (after_changes more n (standing_in acts w t n) (turn_in w t n).changes)) todo
        ≡ change_points acts n (standing_in acts w t n) (turn_in w t n).changes
        ++ point n (standing_settled acts (after_changes acts n (standing_in acts w t n) (turn_in w t n).changes))
        ∷ act_points acts n (standing_settled acts (after_changes acts n (standing_in acts w t n) (turn_in w t n).changes)) todo
    step-points-same n todo le =
        let s = standing_in acts w t n in
        let changes = (turn_in w t n).changes in
        let each = standing-all_begun w t n (omega arith) in
        let ended = standing_settled acts (after_changes acts n s changes) in
        ap (λ r. change_points more n s changes ++ point n r ∷ act_points more n r todo) (ended-same n le)
        ∙ ap₂ (λ (a b : List Point). a ++ point n ended ∷ b) (same-change_points n s changes le each)
        (same-act_points n ended todo (ended-all_begun acts [] n s changes le each))

    pub same-points : (n : ℕ) → n < x.moment → points_in more w t n ≡ points_in acts w t n
    same-points zero less =
        points_in-zero more w t
        ∙ (ap₂ (λ (a b : List Point). a ++ b)
        (ap (act_points more 0 (nothing w)) (filter-push (λ (act : Act). act.moment == 0) acts x (ne_eqb x.moment 0 (λ same. omega arith)))
        ∙ same-act_points 0 (nothing w) (acts_at 0 acts) tt)
        (ap (λ s. step_points more 0 s (turn_in w t 0).changes) (same-standing w t 0 (omega arith)) ∙ step-points-same 0 [] (omega arith))
        ∙ sym (points_in-zero acts w t))
    same-points (suc n) less =
        points_in-suc more w t n
        ∙ (ap₂ (λ (a b : List Point). a ++ b) (same-points n (omega arith))
        (ap (λ s. step_points more (suc n) s (turn_in w t (suc n)).changes) (same-standing w t (suc n) (omega arith))
        ∙ (ap (λ todo. change_points more (suc n) (standing_in acts w t (suc n)) (turn_in w t (suc n)).changes
        ++ point (suc n) (standing_settled more (after_changes more (suc n) (standing_in acts w t (suc n)) (turn_in w t (suc n)).changes))
        ∷ act_points more (suc n) (standing_settled more (after_changes more (suc n) (standing_in acts w t (suc n)) (turn_in w t (suc n)).changes)) todo) (same-behind w t (suc n) less)
        ∙ step-points-same (suc n) (acts_behind (suc n) acts) (omega arith)))
        ∙ sym (points_in-suc acts w t n))

    -- Behind its moment it adds one point.
    pub next-points : points_in more w t x.moment ≡ points_in acts w t x.moment ++ point x.moment (after_act acts (standing_in acts w t (suc x.moment)) x) ∷ []
    next-points = by x.moment refl
      where
        joined : (a b c : List Point) (e d : Point) → b ≡ c ++ e ∷ [] → d ≡ e → a ++ b ≡ (a ++ c) ++ d ∷ []
        joined a b c e d is same = ap (λ l. a ++ l) is ∙ (sym (append_assoc a c (e ∷ [])) ∙ ap (λ q. (a ++ c) ++ q ∷ []) (sym same))

        by : (n : ℕ) → x.moment ≡ n → points_in more w t n ≡ points_in acts w t n ++ point n (after_act acts (standing_in acts w t (suc n)) x) ∷ []
        by zero e = absurd (omega (arith, behind, e))
        by (suc k) e =
            let n = suc k in
            let s = standing_in acts w t n in
            let changes = (turn_in w t n).changes in
            let ended = standing_settled acts (after_changes acts n s changes) in
            let todo = acts_at n acts in
            let last : acts_at n more ≡ todo ++ x ∷ [] = filter-last (λ (act : Act). act.moment == n) acts x (eq-eqb x.moment n e) in
            let stepped : step_points more n s changes ≡ (change_points acts n s changes ++ point n ended ∷ act_points acts n ended todo) ++ point n (after_act acts (after_acts acts ended todo) x) ∷ [] =
            ap (λ l. change_points more n s changes ++ point n (standing_settled more (after_changes more n s changes)) ∷ act_points more n (standing_settled more (after_changes more n s changes)) l) last
            ∙ (step-points-same n (todo ++ x ∷ []) (omega (arith, e))
            ∙ (ap (λ l. change_points acts n s changes ++ point n ended ∷ l) (act_points-last n ended todo x)
            ∙ sym (append_assoc (change_points acts n s changes) (point n ended ∷ act_points acts n ended todo) (point n (after_act acts (after_acts acts ended todo) x) ∷ [])))) in
            points_in-suc more w t k
            ∙ (ap₂ (λ (a b : List Point). a ++ b) (same-points k (omega (arith, e)))
            (ap (λ r. step_points more n r changes) (same-standing w t n (omega (arith, e))))
            ∙ (joined (points_in acts w t k) (step_points more n s changes) (step_points acts n s changes) (point n (after_act acts (after_acts acts ended todo) x))
            (point n (after_act acts (standing_in acts w t (suc n)) x)) stepped
            (ap (λ r. point n (after_act acts r x)) (standing_in-suc acts w t n))
            ∙ ap (λ l. l ++ point n (after_act acts (standing_in acts w t (suc n)) x) ∷ []) (sym (points_in-suc acts w t k))))
