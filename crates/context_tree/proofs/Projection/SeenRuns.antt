-- What a session sees is enough: what it keeps by its actions, by loads and by events is what stands at the points.
use Rattle.std.proofs.Common.{◌≡◌, ℕ, zero, suc, Bool, true, false, not, ◌&&◌, List, [], ◌∷◌, ◌++◌, length, Option, Some, None, option_and_then, slice_get, if◌then◌else◌, refl, sym, ap, ap₂, subst, ◌∙◌}
use Rattle.std.specs.Prelude.{fold}
use Rattle.std.specs.Option.{option_map_or}
use Rattle.std.proofs.lemmas.Bool.{cond-true}
use Rattle.std.proofs.lemmas.List.{append-nil}
use Rattle.jvm_model.specs.declared.event.Act.{Act}
use Rattle.jvm_model.specs.declared.event.Event.{Event}
use Rattle.jvm_model.specs.declared.event.EventKind.{EventKind}
use Rattle.jvm_model.specs.declared.event.EventKind.TheVariants as kind
use Rattle.jvm_model.specs.declared.event.Mark.{Mark}
use Rattle.jvm_model.specs.declared.event.Mark.TheVariants.{Off, Plain, Root}
use Rattle.jvm_model.specs.Profiling.Activations.{Activation, Trace, current, trace_changed, all_changed, trace_before}
use Rattle.jvm_model.specs.Running.Changes.{EndThenBegin, AreOrdered}
use Rattle.jvm_model.specs.Basis.Data.{Change, Loads, Began, Left, Unwound, World}
use Rattle.jvm_model.specs.Profiling.EventLists.{Marking, all_told, begin_events, end_events, end_of, step_events, events_told}
use Rattle.jvm_model.specs.Codes.Originals.{original}
use Rattle.jvm_model.specs.Profiling.Paths.{is_inside}
use Rattle.jvm_model.specs.Profiling.Projection.{is_selected}
use Rattle.jvm_model.specs.Running.Run.{turn}
use Rattle.jvm_model.proofs.Events.Chains.{slice_get_at, is_inside-cons, path_at-last}
use Rattle.jvm_model.proofs.Events.Order.{run-ordered}
use Rattle.jvm_model.proofs.Events.Traces.{IsTrace, changed-keeps, trace_in-is, no_trace-is}
use Rattle.jvm_model.proofs.Events.Marked.{rooted}
use Rattle.context_tree.proofs.Projection.Projected.{SuitsRun, Telling, in_full, outside, changed-follows, gone_on, is_inside-push, telling}
use Rattle.jvm_model.specs.Soundness.Calls.{loads_of}
use Rattle.context_tree.specs.Counts.{opens, path_after}
use Rattle.jvm_model.specs.Profiling.Points.{Standing, nothing, has_root, is_empty, standing_settled, methods_selected, after_act, after_acts, acts_at, acts_behind, after_change, after_changes, with_entered, standing_in, standing_in-zero, standing_in-suc}
use Rattle.context_tree.specs.Seen.{Matches, Seen, open_of, first_seen, seen_act, seen_acts, seen_before, seen_before-zero, seen_before-suc, seen_end, seen_event, seen_load, seen_step}
use Rattle.jvm_model.specs.Soundness.Suited.{Suits, AreSuited, StaySuited}

-- ---- points

pub end-matches : (acts : List Act) (seen : Seen) (s : Standing) → IsTrace s.trace → Matches acts seen s → Matches acts (seen_end seen) (standing_settled acts s)
end-matches acts seen s is m = by (is_empty s.selected && not (has_root acts s.trace.activations s.trace.live)) test
  where
    test : (is_empty seen.selected && not (is_inside seen.open)) ≡ (is_empty s.selected && not (has_root acts s.trace.activations s.trace.live))
    test = ap₂ (λ a b. is_empty a && not b) m.selected (ap is_inside m.path ∙ sym (rooted acts s.trace.activations s.trace.live is))

    by : (b : Bool) → (is_empty seen.selected && not (is_inside seen.open)) ≡ b
        → Matches acts (if is_empty seen.selected && not (is_inside seen.open) then record seen { entered = [] } else seen) (if b then record s { entered = [] } else s)
    by true e = subst (λ b. Matches acts (if b then record seen { entered = [] } else seen) (record s { entered = [] })) (sym e)
        (record { selected = m.selected; entered = refl; loaded = m.loaded; path = m.path })
    by false e = subst (λ b. Matches acts (if b then record seen { entered = [] } else seen) s) (sym e) m

pub settled-trace : (acts : List Act) (s : Standing) → (standing_settled acts s).trace ≡ s.trace
settled-trace acts s = by (is_empty s.selected && not (has_root acts s.trace.activations s.trace.live))
  where
    by : (b : Bool) → (if b then record s { entered = [] } else s).trace ≡ s.trace
    by true = refl
    by false = refl

pub acts-match : (acts todo : List Act) (seen : Seen) (s : Standing) → IsTrace s.trace → Matches acts seen s → Matches acts (seen_acts seen todo) (after_acts acts s todo)
acts-match acts [] seen s is m = m
acts-match acts (act ∷ todo) seen s is m =
    let chosen_seen : Seen = record seen { selected = methods_selected act seen.selected } in
    let chosen_s : Standing = record s { selected = methods_selected act s.selected } in
    acts-match acts todo (seen_act seen act) (after_act acts s act) (subst IsTrace (sym (settled-trace acts chosen_s)) is)
    (end-matches acts chosen_seen chosen_s is (record { selected = ap (methods_selected act) m.selected; entered = m.entered; loaded = m.loaded; path = m.path }))

-- ---- events

-- an end enters nothing
end-enters : (k : EventKind) → ((path : List ℕ) → opens path k ≡ false) → (step method : ℕ) (mark : Mark) (seen : Seen)
    → (fold seen_event seen (end_events k step method mark)).entered ≡ seen.entered
end-enters k never step method Root seen = ap (λ b. if b then with_entered method seen.entered else seen.entered) (never seen.open)
end-enters k never step method Plain seen = ap (λ b. if b then with_entered method seen.entered else seen.entered) (never seen.open)
end-enters k never step method Off seen = refl

end_of-enters : (marking : Marking) (k : EventKind) → ((path : List ℕ) → opens path k ≡ false) → (step : ℕ) (t : Trace) (seen : Seen)
    → (fold seen_event seen (end_of marking k step t)).entered ≡ seen.entered
end_of-enters marking k never step t seen = by (option_and_then (slice_get t.activations) (current t.live))
  where
    by : (o : Option Activation) → (fold seen_event seen (option_map_or (λ (a : Activation). end_events k step a.method (marking a.begin a.method)) o [])).entered ≡ seen.entered
    by None = refl
    by (Some a) = end-enters k never step a.method (marking a.begin a.method) seen

-- events move the open path, and neither the selection nor what is loaded
pub record Moves (seen after : Seen) (events : List Event) : Type 0 where
  pub selected : after.selected ≡ seen.selected
  pub loaded : after.loaded ≡ seen.loaded
  pub path : after.open ≡ fold path_after seen.open events

pub events-move : (events : List Event) (seen : Seen) → Moves seen (fold seen_event seen events) events
events-move [] seen = record { selected = refl; loaded = refl; path = refl }
events-move (e ∷ rest) seen =
    let next = events-move rest (seen_event seen e) in record { selected = next.selected; loaded = next.loaded; path = next.path }

-- a begin enters its method exactly where it is profiled
pub begin-enters : (step method : ℕ) (root : Bool) (path : List ℕ) (mark : Mark) → Telling method root path mark → (seen : Seen) → seen.open ≡ path
    → (fold seen_event seen (begin_events step method mark)).entered ≡ (if is_inside (gone_on method root path) then with_entered method seen.entered else seen.entered)
begin-enters step method root path mark (in_full e) seen at = subst (λ m. Enters m) (sym e) (by root path at)
  where
    Enters : Mark → Type 0
    Enters m = (fold seen_event seen (begin_events step method m)).entered ≡ (if is_inside (gone_on method root path) then with_entered method seen.entered else seen.entered)

    by : (root : Bool) (path : List ℕ) → seen.open ≡ path
        → (fold seen_event seen (begin_events step method (if root then Root else Plain))).entered
        ≡ (if is_inside (gone_on method root path) then with_entered method seen.entered else seen.entered)
    by true path at = ap (λ b. if b then with_entered method seen.entered else seen.entered) (sym (is_inside-push path method))
    by false [] at = ap (λ q. if is_inside q then with_entered method seen.entered else seen.entered) at
    by false (n ∷ rest) at =
        ap (λ q. if is_inside q then with_entered method seen.entered else seen.entered) at
        ∙ ap (λ b. if b then with_entered method seen.entered else seen.entered)
        (is_inside-cons n rest ∙ sym (ap is_inside (cond-true (is_inside (n ∷ rest)) ((n ∷ rest) ++ method ∷ []) [] (is_inside-cons n rest)) ∙ is_inside-push (n ∷ rest) method))
begin-enters step method root path mark (outside e gone empty) seen at =
    ap (λ m. (fold seen_event seen (begin_events step method m)).entered) e ∙ sym (ap (λ q. if is_inside q then with_entered method seen.entered else seen.entered) gone)

module _ (acts : List Act) (marking : Marking) (step : ℕ) where
  -- ---- one change that is no load

  pub change-matches : (seen : Seen) (s : Standing) (c : Change) → ((classes : List ℕ) → c ≡ Loads classes → ⊥) → IsTrace s.trace → AreSuited acts marking s.trace.activations
      → AreSuited acts marking (trace_changed step s.trace c).activations → Matches acts seen s
      → Matches acts (fold seen_event seen (events_told marking step s.trace c)) (after_change acts step s c)
  change-matches seen s (Loads classes) other is suited then_suited m = absurd (other classes refl)
  change-matches seen s (Began method) other is suited then_suited m =
      let a : Activation = record { method = method; parent = current s.trace.live; begin = step; «end» = None } in
      let moves = events-move (events_told marking step s.trace (Began method)) seen in
      let last = path_at-last acts s.trace.activations a in
      let suits : Suits (is_selected acts step method) (gone_on method (is_selected acts step method) (open_of acts s.trace)) (marking step method) =
      subst (λ q. Suits (is_selected acts step method) q (marking step method)) last (then_suited (length s.trace.activations) a (slice_get_at s.trace.activations a [])) in
      record {
        selected = moves.selected ∙ m.selected;
        entered = begin-enters step method (is_selected acts step method) (open_of acts s.trace) (marking step method)
            (telling method (is_selected acts step method) (open_of acts s.trace) (marking step method) suits) seen m.path
            ∙ (ap (λ l. if is_inside (gone_on method (is_selected acts step method) (open_of acts s.trace)) then with_entered method l else l) m.entered
            ∙ ap (λ q. if is_inside q then with_entered method s.entered else s.entered) (sym last));
        loaded = moves.loaded ∙ m.loaded;
        path = moves.path ∙ (ap (λ q. fold path_after q (events_told marking step s.trace (Began method))) m.path
            ∙ (changed-follows acts marking step s.trace (Began method) is suited then_suited).path);
      }
  change-matches seen s Left other is suited then_suited m =
      let moves = events-move (events_told marking step s.trace Left) seen in
      record {
        selected = moves.selected ∙ m.selected;
        entered = end_of-enters marking kind.Leave (λ path. refl) step s.trace seen ∙ m.entered;
        loaded = moves.loaded ∙ m.loaded;
        path = moves.path ∙ (ap (λ q. fold path_after q (events_told marking step s.trace Left)) m.path ∙ (changed-follows acts marking step s.trace Left is suited then_suited).path);
      }
  change-matches seen s Unwound other is suited then_suited m =
      let moves = events-move (events_told marking step s.trace Unwound) seen in
      record {
        selected = moves.selected ∙ m.selected;
        entered = end_of-enters marking kind.Unwind (λ path. refl) step s.trace seen ∙ m.entered;
        loaded = moves.loaded ∙ m.loaded;
        path = moves.path ∙ (ap (λ q. fold path_after q (events_told marking step s.trace Unwound)) m.path ∙ (changed-follows acts marking step s.trace Unwound is suited then_suited).path);
      }

  pub first-suited : (t : Trace) (changes : List Change) → StaySuited acts marking step t changes → AreSuited acts marking t.activations
  first-suited t [] stay = stay
  first-suited t (c ∷ more) stay = stay.0

  fold-append : (xs ys : List Event) (seen : Seen) → fold seen_event seen (xs ++ ys) ≡ fold seen_event (fold seen_event seen xs) ys
  fold-append [] ys seen = refl
  fold-append (e ∷ xs) ys seen = fold-append xs ys (seen_event seen e)

  pub change-trace : (s : Standing) (c : Change) → (after_change acts step s c).trace ≡ trace_changed step s.trace c
  change-trace s (Loads classes) = refl
  change-trace s (Began method) = refl
  change-trace s Left = refl
  change-trace s Unwound = refl

  pub then-match : (seen : Seen) (s : Standing) (c : Change) (more : List Change) → ((classes : List ℕ) → c ≡ Loads classes → ⊥) → IsTrace s.trace
      → StaySuited acts marking step s.trace (c ∷ more) → Matches acts seen s
      → ((seen : Seen) (s : Standing) → IsTrace s.trace → StaySuited acts marking step s.trace more → Matches acts seen s
      → Matches acts (fold seen_event seen (all_told marking step s.trace more)) (after_changes acts step s more))
      → Matches acts (fold seen_event seen (all_told marking step s.trace (c ∷ more))) (after_changes acts step s (c ∷ more))
  then-match seen s c more other is stay m rest =
      let next = after_change acts step s c in
      let same = change-trace s c in
      let behind = rest (fold seen_event seen (events_told marking step s.trace c)) next (subst IsTrace (sym same) (changed-keeps step s.trace c is))
      (subst (λ t. StaySuited acts marking step t more) (sym same) stay.1)
      (change-matches seen s c other is stay.0 (first-suited (trace_changed step s.trace c) more stay.1) m) in
      subst (λ r. Matches acts r (after_changes acts step next more))
      (sym (fold-append (events_told marking step s.trace c) (all_told marking step (trace_changed step s.trace c) more) seen))
      (subst (λ t. Matches acts (fold seen_event (fold seen_event seen (events_told marking step s.trace c)) (all_told marking step t more)) (after_changes acts step next more)) same behind)

  ends-match : (changes : List Change) → EndThenBegin changes → (seen : Seen) (s : Standing) → IsTrace s.trace → StaySuited acts marking step s.trace changes → Matches acts seen s
      → Matches acts (fold seen_event seen (all_told marking step s.trace changes)) (after_changes acts step s changes)
  ends-match [] order seen s is stay m = m
  ends-match (Left ∷ more) order seen s is stay m = then-match seen s Left more (λ classes e. cc) is stay m (ends-match more order)
  ends-match (Unwound ∷ more) order seen s is stay m = then-match seen s Unwound more (λ classes e. cc) is stay m (ends-match more order)
  ends-match (Began method ∷ []) order seen s is stay m = then-match seen s (Began method) [] (λ classes e. cc) is stay m (λ seen s is stay m. m)
  ends-match (Began method ∷ c ∷ more) order seen s is stay m = absurd order
  ends-match (Loads classes ∷ more) order seen s is stay m = absurd order

  pub no-loads : (changes : List Change) → EndThenBegin changes → loads_of changes ≡ []
  no-loads [] order = refl
  no-loads (Left ∷ more) order = no-loads more order
  no-loads (Unwound ∷ more) order = no-loads more order
  no-loads (Began method ∷ []) order = refl
  no-loads (Began method ∷ c ∷ more) order = absurd order
  no-loads (Loads classes ∷ more) order = absurd order

  -- without a load
  unloaded-match : (changes : List Change) → EndThenBegin changes → (seen : Seen) (s : Standing) → IsTrace s.trace → StaySuited acts marking step s.trace changes → Matches acts seen s
      → Matches acts (fold seen_event (seen_load seen (loads_of changes)) (all_told marking step s.trace changes)) (after_changes acts step s changes)
  unloaded-match changes order seen s is stay m =
      let same : seen_load seen (loads_of changes) ≡ seen =
      ap (λ l. let r : Seen = record seen { loaded = l } in r) (ap (λ l. seen.loaded ++ l) (no-loads changes order) ∙ append-nil seen.loaded) in
      subst (λ r. Matches acts (fold seen_event r (all_told marking step s.trace changes)) (after_changes acts step s changes)) (sym same)
      (ends-match changes order seen s is stay m)

  changes-match : (changes : List Change) → AreOrdered changes → (seen : Seen) (s : Standing) → IsTrace s.trace → StaySuited acts marking step s.trace changes → Matches acts seen s
      → Matches acts (fold seen_event (seen_load seen (loads_of changes)) (all_told marking step s.trace changes)) (after_changes acts step s changes)
  changes-match (Loads classes ∷ more) order seen s is stay m =
      let whole : classes ++ loads_of more ≡ classes = ap (λ l. classes ++ l) (no-loads more order) ∙ append-nil classes in
      let next : Standing = record s { loaded = s.loaded ++ classes } in
      subst (λ l. Matches acts (fold seen_event (seen_load seen l) (all_told marking step s.trace more)) (after_changes acts step next more)) (sym whole)
      (ends-match more order (seen_load seen classes) next is stay.1
      (record { selected = m.selected; entered = m.entered; loaded = ap (λ l. l ++ classes) m.loaded; path = m.path }))
  changes-match [] order seen s is stay m = unloaded-match [] order seen s is stay m
  changes-match (Left ∷ more) order seen s is stay m = unloaded-match (Left ∷ more) order seen s is stay m
  changes-match (Unwound ∷ more) order seen s is stay m = unloaded-match (Unwound ∷ more) order seen s is stay m
  changes-match (Began method ∷ more) order seen s is stay m = unloaded-match (Began method ∷ more) order seen s is stay m

  pub after-trace : (changes : List Change) (s : Standing) → (after_changes acts step s changes).trace ≡ all_changed step s.trace changes
  after-trace [] s = refl
  after-trace (c ∷ more) s = after-trace more (after_change acts step s c) ∙ ap (λ t. all_changed step t more) (change-trace s c)

-- ---- the run

module _ (acts : List Act) (w : World) (marking : Marking) (suited : SuitsRun acts marking w)
    (traced : (n : ℕ) → (standing_in acts w (original w.program) n).trace ≡ trace_before w n) where
  before-is : (n : ℕ) → IsTrace (trace_before w n)
  before-is zero = no_trace-is
  before-is (suc n) = trace_in-is w (original w.program) n

  -- What the session keeps is what stands at the points.
  pub seen-stands : (n : ℕ) → Matches acts (seen_before acts w marking n) (standing_in acts w (original w.program) n)
  seen-stands zero =
      subst (λ r. Matches acts r (standing_in acts w (original w.program) 0)) (sym (seen_before-zero acts w marking))
      (subst (Matches acts (seen_acts (first_seen w) (acts_at 0 acts))) (sym (standing_in-zero acts w (original w.program)))
      (acts-match acts (acts_at 0 acts) (first_seen w) (nothing w) no_trace-is (record { selected = refl; entered = refl; loaded = refl; path = refl })))
  seen-stands (suc n) =
      let s = standing_in acts w (original w.program) n in
      let seen = seen_before acts w marking n in
      let changes = (turn w n).changes in
      let is : IsTrace s.trace = subst IsTrace (sym (traced n)) (before-is n) in
      let told_same : all_told marking n s.trace changes ≡ step_events marking w n = ap (λ t. all_told marking n t changes) (traced n) in
      let after = after_changes acts n s changes in
      let keeps : IsTrace after.trace =
      subst IsTrace (sym (after-trace acts marking n changes s ∙ (ap (λ t. all_changed n t changes) (traced n)))) (all-keeps changes (trace_before w n) (before-is n)) in
      let stepped : Matches acts (fold seen_event (seen_load seen (loads_of changes)) (step_events marking w n)) after =
      subst (λ events. Matches acts (fold seen_event (seen_load seen (loads_of changes)) events) after) told_same
      (changes-match acts marking n changes (run-ordered w (original w.program) n) seen s is
      (subst (λ t. StaySuited acts marking n t changes) (sym (traced n)) (suited n)) (seen-stands n)) in
      let ended = end-matches acts (fold seen_event (seen_load seen (loads_of changes)) (step_events marking w n)) after keeps stepped in
      subst (λ r. Matches acts r (standing_in acts w (original w.program) (suc n))) (sym (seen_before-suc acts w marking n))
      (subst (Matches acts (seen_step seen (loads_of changes) (step_events marking w n) (acts_behind n acts))) (sym (standing_in-suc acts w (original w.program) n))
      (acts-match acts (acts_behind n acts) (seen_end (fold seen_event (seen_load seen (loads_of changes)) (step_events marking w n))) (standing_settled acts after)
      (subst IsTrace (sym (settled-trace acts after)) keeps) ended))
    where
      all-keeps : (changes : List Change) (t : Trace) → IsTrace t → IsTrace (all_changed n t changes)
      all-keeps [] t is = is
      all-keeps (c ∷ more) t is = all-keeps more (trace_changed n t c) (changed-keeps n t c is)
