-- The tree of a run's events is the projection of its activations, under each marking that suits them: what the events
-- tell, one change after another, comes to the paths of the activations and to the path of each step. It holds for any
-- changes of any step.
use Rattle.std.proofs.Common.{◌≡◌, ℕ, zero, suc, ◌<◌, ◌≤◌, Bool, true, false, ◌||◌, List, [], ◌∷◌, ◌++◌, length, filter, Option, Some, None, option_and_then, is_some, slice_get, slice_set, if◌then◌else◌, refl, sym, ap, ap₂, subst, ◌∙◌, arith}
use Rattle.std.specs.Option.{option_map_or}
use Rattle.std.proofs.lemmas.Bool.{cond-true, cond-false, ne_eqb}
use Rattle.std.proofs.lemmas.List.{append-nil, append_assoc, length_push, length-set}
use Rattle.std.proofs.lemmas.List.Elements.{filter-append}
use Rattle.jvm_model.specs.declared.event.Act.{Act}
use Rattle.jvm_model.specs.declared.event.Event.{Event}
use Rattle.jvm_model.specs.declared.event.EventKind.{EventKind}
use Rattle.jvm_model.specs.declared.event.EventKind.TheVariants as kind
use Rattle.jvm_model.specs.declared.event.Mark.{Mark}
use Rattle.jvm_model.specs.declared.event.Mark.TheVariants.{Off, Plain, Root}
use Rattle.jvm_model.specs.Profiling.Paths.{is_outside, is_inside, contexts_of}
use Rattle.jvm_model.specs.Basis.Data.{World, Change, Loads, Began, Left, Unwound}
use Rattle.jvm_model.specs.Running.Run.{turn, run}
use Rattle.jvm_model.specs.Codes.Originals.{original}
use Rattle.jvm_model.specs.Profiling.Activations.{Activation, Trace, no_trace, current, with_begin, without_current, with_end, trace_changed, all_changed, trace, trace_before, trace_in-zero, trace_in-suc}
use Rattle.jvm_model.specs.Profiling.Projection.{is_root, is_selected, paths_of, path_at, who, paths_made, paths_made-zero, paths_made-suc, projection}
use Rattle.jvm_model.specs.Profiling.EventLists.{Marking, begin_events, end_events, end_of, events_told, all_told, step_events, events_of, events_of-zero, events_of-suc, full_marking}
use Rattle.jvm_model.proofs.Events.Chains.{slice_get_at, IsBelow, is_inside-cons, path_in, paths_of-push, paths_of-ended, path_at-push, path_at-last, path_at-found}
use Rattle.jvm_model.proofs.Events.Traces.{IsLive, AreLive, IsTrace, no_trace-is, trace_in-is, changed-keeps, current-below, ended_in, ended_at-found}
use Rattle.context_tree.specs.Profiles.{parent_path}
use Rattle.jvm_model.specs.Soundness.Suited.{Suits, AreSuited, StaySuited}
use Rattle.context_tree.specs.Counts.{path_by, path_after, opens, paths_opened, paths_stepped, contexts_counted, AreInOrder}
use Rattle.context_tree.proofs.Projection.ProjectedCounts.{open_after, AllAt, open_after-append, paths_opened-append, AreInOrder-later, AreInOrder-append, stepped-at, stepped-same, stepped-more, contexts_of-inside}

-- ---- one event

-- the path, gone on by a method, goes back by the end
parent_path-push : (path : List ℕ) (m : ℕ) → parent_path (path ++ m ∷ []) ≡ path
parent_path-push [] m = refl
parent_path-push (n ∷ []) m = refl
parent_path-push (n ∷ k ∷ path) m = ap (λ rest. n ∷ rest) (parent_path-push (k ∷ path) m)

pub is_inside-push : (path : List ℕ) (m : ℕ) → is_inside (path ++ m ∷ []) ≡ true
is_inside-push [] m = is_inside-cons m []
is_inside-push (n ∷ path) m = is_inside-cons n (path ++ m ∷ [])

is_outside-cons : (m : ℕ) (path : List ℕ) → is_outside (m ∷ path) ≡ false
is_outside-cons m path = ne_eqb (length (m ∷ path)) 0 (λ none. omega arith)

-- the events of a begin and of an end, where each selected method is a root and the others are marked plain
abbrev entry : ℕ → ℕ → Bool → List Event
entry step method root = begin_events step method (if root then Root else Plain)

-- the path of an activation by its parent's, where it is a root or not
abbrev pub gone_on : ℕ → Bool → List ℕ → List ℕ
gone_on method root path = if root || is_inside path then path ++ method ∷ [] else []

entry-at : (step method : ℕ) (root : Bool) → AllAt step (entry step method root)
entry-at step method true = (refl, tt)
entry-at step method false = (refl, tt)

entry-opens : (step method : ℕ) (root : Bool) (path : List ℕ) → open_after path (entry step method root) ≡ gone_on method root path
entry-opens step method true path = refl
entry-opens step method false [] = refl
entry-opens step method false (m ∷ path) = cond-false (is_outside (m ∷ path)) (m ∷ path) ((m ∷ path) ++ method ∷ []) (is_outside-cons m path)
    ∙ sym (cond-true (is_inside (m ∷ path)) ((m ∷ path) ++ method ∷ []) [] (is_inside-cons m path))

entry-paths : (step method : ℕ) (root : Bool) (path : List ℕ) → filter is_inside (gone_on method root path ∷ []) ≡ paths_opened path (entry step method root)
entry-paths step method true path = cond-true (is_inside (path ++ method ∷ [])) ((path ++ method ∷ []) ∷ []) [] (is_inside-push path method)
entry-paths step method false [] = refl
entry-paths step method false (m ∷ path) =
    let on = (m ∷ path) ++ method ∷ [] in
    let entered = cond-false (is_outside (m ∷ path)) (m ∷ path) on (is_outside-cons m path) in
    ap (λ q. filter is_inside (q ∷ [])) (cond-true (is_inside (m ∷ path)) on [] (is_inside-cons m path))
    ∙ (cond-true (is_inside on) (on ∷ []) [] (is_inside-cons m (path ++ method ∷ []))
    ∙ (ap (λ q. q ∷ []) (sym entered)
    ∙ sym (cond-true (is_inside (m ∷ path)) (path_after (m ∷ path) (record { kind = kind.Enter; method = method; clock = step }) ∷ []) [] (is_inside-cons m path))))

exit-is : (k : EventKind) (step method : ℕ) (root : Bool) → end_events k step method (if root then Root else Plain) ≡ record { kind = k; method = method; clock = step } ∷ []
exit-is k step method true = refl
exit-is k step method false = refl

gone_back : (method : ℕ) (root : Bool) (path : List ℕ) → parent_path (gone_on method root path) ≡ path
gone_back method true path = parent_path-push path method
gone_back method false [] = refl
gone_back method false (m ∷ path) = ap parent_path (cond-true (is_inside (m ∷ path)) ((m ∷ path) ++ method ∷ []) [] (is_inside-cons m path)) ∙ parent_path-push (m ∷ path) method

-- ---- one event under any marking

-- It tells as under the full marking, or is outside and tells nothing.
pub data Telling (method : ℕ) (root : Bool) (path : List ℕ) (mark : Mark) : Type 0 where
  in_full : mark ≡ (if root then Root else Plain) → Telling method root path mark
  outside : mark ≡ Off → gone_on method root path ≡ [] → path ≡ [] → Telling method root path mark

off_root : Off ≡ Root → ⊥
off_root e = cc

plain_root : Plain ≡ Root → ⊥
plain_root e = cc

pub telling : (method : ℕ) (root : Bool) (path : List ℕ) (mark : Mark) → Suits root (gone_on method root path) mark → Telling method root path mark
telling method true path mark suits = in_full (suits.roots refl)
telling method false path Root suits = absurd (let no : false ≡ true → ⊥ = λ e. cc in no (suits.only refl))
telling method false path Plain suits = in_full refl
telling method false [] Off suits = outside refl refl refl
telling method false (m ∷ path) Off suits =
    let on = (m ∷ path) ++ method ∷ [] in
    let goes_on : gone_on method false (m ∷ path) ≡ on = cond-true (is_inside (m ∷ path)) on [] (is_inside-cons m path) in
    absurd (suits.inside (ap is_inside goes_on ∙ is_inside-push (m ∷ path) method) refl)

-- ---- one change

-- the open path after these events: that of the current activation
abbrev pub open_of : List Act → Trace → List ℕ
open_of acts t = path_at acts t.activations (current t.live)

-- The events of a step lead from one trace to another.
pub record Follows (acts : List Act) (step : ℕ) (t after : Trace) (events : List Event) : Type 0 where
  at : AllAt step events
  pub path : open_after (open_of acts t) events ≡ open_of acts after
  opened : filter is_inside (paths_of acts after.activations) ≡ filter is_inside (paths_of acts t.activations) ++ paths_opened (open_of acts t) events
  longer : length t.activations ≤ length after.activations
  kept : (number : Option ℕ) → IsBelow (length t.activations) number → path_at acts after.activations number ≡ path_at acts t.activations number

same-follows : (acts : List Act) (step : ℕ) (t : Trace) → Follows acts step t t []
same-follows acts step t = record {
  at = tt;
  path = refl;
  opened = sym (append-nil (filter is_inside (paths_of acts t.activations)));
  longer = omega arith;
  kept = λ number below. refl;
}

begin-follows : (acts : List Act) (step method : ℕ) (t : Trace) → Follows acts step t (with_begin step method t) (entry step method (is_selected acts step method))
begin-follows acts step method t =
    let a : Activation = record { method = method; parent = current t.live; begin = step; «end» = None } in
    let root = is_selected acts step method in
    let path = gone_on method root (open_of acts t) in
    record {
      at = entry-at step method root;
      path = entry-opens step method root (open_of acts t) ∙ sym (path_at-last acts t.activations a);
      opened = ap (filter is_inside) (paths_of-push acts t.activations a) ∙ (filter-append is_inside (paths_of acts t.activations) (path ∷ [])
          ∙ ap (λ rest. filter is_inside (paths_of acts t.activations) ++ rest) (entry-paths step method root (open_of acts t)));
      longer = omega (arith, length_push t.activations a);
      kept = path_at-push acts t.activations a;
    }

-- nothing is told outside
begin_outside-follows : (acts : List Act) (step method : ℕ) (t : Trace) → gone_on method (is_selected acts step method) (open_of acts t) ≡ [] → open_of acts t ≡ []
    → Follows acts step t (with_begin step method t) []
begin_outside-follows acts step method t none empty =
    let a : Activation = record { method = method; parent = current t.live; begin = step; «end» = None } in
    let paths = paths_of acts t.activations in
    record {
      at = tt;
      path = empty ∙ (sym none ∙ sym (path_at-last acts t.activations a));
      opened = ap (filter is_inside) (paths_of-push acts t.activations a) ∙ (filter-append is_inside paths (gone_on method (is_selected acts step method) (open_of acts t) ∷ [])
          ∙ ap (λ path. filter is_inside paths ++ filter is_inside (path ∷ [])) none);
      longer = omega (arith, length_push t.activations a);
      kept = path_at-push acts t.activations a;
    }

begins-follows : (acts : List Act) (step method : ℕ) (t : Trace) (mark : Mark) → Suits (is_selected acts step method) (gone_on method (is_selected acts step method) (open_of acts t)) mark
    → Follows acts step t (with_begin step method t) (begin_events step method mark)
begins-follows acts step method t mark suits = by (telling method (is_selected acts step method) (open_of acts t) mark suits) where
  by : Telling method (is_selected acts step method) (open_of acts t) mark → Follows acts step t (with_begin step method t) (begin_events step method mark)
  by (in_full e) = subst (λ m. Follows acts step t (with_begin step method t) (begin_events step method m)) (sym e) (begin-follows acts step method t)
  by (outside e none empty) =
      subst (λ m. Follows acts step t (with_begin step method t) (begin_events step method m)) (sym e) (begin_outside-follows acts step method t none empty)

-- An event of this kind goes back to the path before.
record GoesBack (k : EventKind) : Type 0 where
  back : (method : ℕ) (path : List ℕ) → path_by k method path ≡ parent_path path
  none : (path : List ℕ) → opens path k ≡ false

leave-back : GoesBack kind.Leave
leave-back = record { back = λ method path. refl; none = λ path. refl }

unwind-back : GoesBack kind.Unwind
unwind-back = record { back = λ method path. refl; none = λ path. refl }

-- the open path is the current activation's own, gone on from that of the one that invoked it
own-path : (acts : List Act) (t : Trace) (number : ℕ) (rest : List ℕ) → t.live ≡ number ∷ rest → (is : IsLive t.activations number rest)
    → open_of acts t ≡ gone_on is.activation.method (is_selected acts is.activation.begin is.activation.method) (path_at acts t.activations (current rest))
own-path acts t number rest live one =
    let a = one.activation in
    ap (λ numbers. path_at acts t.activations (current numbers)) live
    ∙ (path_at-found acts t.activations number a one.found (subst (IsBelow number) (sym one.invoked) one.earlier)
    ∙ ap (gone_on a.method (is_selected acts a.begin a.method)) (ap (path_at acts t.activations) one.invoked))

end_at-follows : (acts : List Act) (k : EventKind) → GoesBack k → (step : ℕ) (t : Trace) (number : ℕ) (rest : List ℕ) → t.live ≡ number ∷ rest → (is : IsLive t.activations number rest)
    → Follows acts step t (record { activations = slice_set t.activations number (ended_in step is.activation); live = rest }) (record { kind = k; method = is.activation.method; clock = step } ∷ [])
end_at-follows acts k goes step t number rest live one =
    let a = one.activation in
    let root = is_selected acts a.begin a.method in
    let before = open_of acts t in
    let same : paths_of acts (slice_set t.activations number (ended_in step a)) ≡ paths_of acts t.activations = paths_of-ended acts t.activations number a (Some step) one.found in
    let parent : path_at acts t.activations a.parent ≡ path_at acts t.activations (current rest) = ap (path_at acts t.activations) one.invoked in
    let on : before ≡ gone_on a.method root (path_at acts t.activations (current rest)) = ap (λ numbers. path_at acts t.activations (current numbers)) live
    ∙ (path_at-found acts t.activations number a one.found (subst (IsBelow number) (sym one.invoked) one.earlier) ∙ ap (gone_on a.method root) parent) in
    record {
      at = (refl, tt);
      path = goes.back a.method before ∙ (ap parent_path on ∙ (gone_back a.method root (path_at acts t.activations (current rest)) ∙ ap (λ paths. path_in paths (current rest)) (sym same)));
      opened = ap (filter is_inside) same ∙ (sym (append-nil (filter is_inside (paths_of acts t.activations)))
          ∙ ap (λ (test : Bool). filter is_inside (paths_of acts t.activations) ++ (if test then path_by k a.method before ∷ [] else [])) (sym (goes.none before)));
      longer = omega (arith, length-set t.activations number (ended_in step a));
      kept = λ index below. ap (λ paths. path_in paths index) same;
    }

end_outside-follows : (acts : List Act) (k : EventKind) (step : ℕ) (t : Trace) (number : ℕ) (rest : List ℕ) → t.live ≡ number ∷ rest → (is : IsLive t.activations number rest)
    → gone_on is.activation.method (is_selected acts is.activation.begin is.activation.method) (path_at acts t.activations (current rest)) ≡ []
    → path_at acts t.activations (current rest) ≡ []
    → Follows acts step t (record { activations = slice_set t.activations number (ended_in step is.activation); live = rest }) []
end_outside-follows acts k step t number rest live one none empty =
    let a = one.activation in
    let same : paths_of acts (slice_set t.activations number (ended_in step a)) ≡ paths_of acts t.activations = paths_of-ended acts t.activations number a (Some step) one.found in
    let on : open_of acts t ≡ gone_on a.method (is_selected acts a.begin a.method) (path_at acts t.activations (current rest)) = own-path acts t number rest live one in
    record {
      at = tt;
      path = on ∙ (none ∙ (sym empty ∙ ap (λ paths. path_in paths (current rest)) (sym same)));
      opened = ap (filter is_inside) same ∙ sym (append-nil (filter is_inside (paths_of acts t.activations)));
      longer = omega (arith, length-set t.activations number (ended_in step a));
      kept = λ index below. ap (λ paths. path_in paths index) same;
    }

end-follows : (acts : List Act) (marking : Marking) (k : EventKind) → GoesBack k → (step : ℕ) (t : Trace) → IsTrace t → AreSuited acts marking t.activations
    → Follows acts step t (with_end step t) (end_of marking k step t)
end-follows acts marking k goes step t is suited = ends t.live refl is where
  told_of : Option Activation → List Event
  told_of found = option_map_or (λ (a : Activation). end_events k step a.method (marking a.begin a.method)) found []

  ends : (live : List ℕ) → t.live ≡ live → AreLive t.activations live → Follows acts step t (without_current step live t) (told_of (option_and_then (slice_get t.activations) (current live)))
  ends [] e are = same-follows acts step t
  ends (number ∷ rest) e are =
      let a = are.0.activation in
      let root = is_selected acts a.begin a.method in
      let path = path_at acts t.activations (current rest) in
      let mark = marking a.begin a.method in
      let after : Trace = record { activations = slice_set t.activations number (ended_in step a); live = rest } in
      let own : path_at acts t.activations (Some number) ≡ gone_on a.method root path = ap (λ numbers. path_at acts t.activations (current numbers)) (sym e) ∙ own-path acts t number rest e are.0 in
      let suits : Suits root (gone_on a.method root path) mark = subst (λ q. Suits root q mark) own (suited number a are.0.found) in
      subst (Follows acts step t (without_current step (number ∷ rest) t)) (sym (ap told_of are.0.found))
      (subst (λ (activations : List Activation). Follows acts step t (record { activations = activations; live = rest }) (end_events k step a.method mark))
      (sym (ended_at-found step number t.activations a are.0.found)) (by a root path mark after (telling a.method root path mark suits)
      (end_at-follows acts k goes step t number rest e are.0) (λ none empty. end_outside-follows acts k step t number rest e are.0 none empty)))
    where
      by : (a : Activation) (root : Bool) (path : List ℕ) (mark : Mark) (after : Trace) → Telling a.method root path mark
          → Follows acts step t after (record { kind = k; method = a.method; clock = step } ∷ [])
          → (gone_on a.method root path ≡ [] → path ≡ [] → Follows acts step t after [])
          → Follows acts step t after (end_events k step a.method mark)
      by a root path mark after (in_full e) events_told none =
          subst (λ m. Follows acts step t after (end_events k step a.method m)) (sym e) (subst (Follows acts step t after) (sym (exit-is k step a.method root)) events_told)
      by a root path mark after (outside e gone empty) events_told none = subst (λ m. Follows acts step t after (end_events k step a.method m)) (sym e) (none gone empty)

pub changed-follows : (acts : List Act) (marking : Marking) (step : ℕ) (t : Trace) (c : Change) → IsTrace t → AreSuited acts marking t.activations
    → AreSuited acts marking (trace_changed step t c).activations → Follows acts step t (trace_changed step t c) (events_told marking step t c)
changed-follows acts marking step t (Loads classes) is suited then_suited = same-follows acts step t
changed-follows acts marking step t (Began method) is suited then_suited =
    let a : Activation = record { method = method; parent = current t.live; begin = step; «end» = None } in
    begins-follows acts step method t (marking step method)
    (subst (λ q. Suits (is_selected acts step method) q (marking step method)) (path_at-last acts t.activations a)
    (then_suited (length t.activations) a (slice_get_at t.activations a [])))
changed-follows acts marking step t Left is suited then_suited = end-follows acts marking kind.Leave leave-back step t is suited
changed-follows acts marking step t Unwound is suited then_suited = end-follows acts marking kind.Unwind unwind-back step t is suited

-- ---- all changes of a step

AllAt-append : (clock : ℕ) (xs ys : List Event) → AllAt clock xs → AllAt clock ys → AllAt clock (xs ++ ys)
AllAt-append clock [] ys first second = second
AllAt-append clock (e ∷ xs) ys first second = (first.0, AllAt-append clock xs ys first.1 second)

IsBelow-longer : (n k : ℕ) (number : Option ℕ) → n ≤ k → IsBelow n number → IsBelow k number
IsBelow-longer n k None le below = tt
IsBelow-longer n k (Some i) le below = omega arith

then-follows : (acts : List Act) (step : ℕ) (t middle after : Trace) (events more : List Event) → Follows acts step t middle events → Follows acts step middle after more
    → Follows acts step t after (events ++ more)
then-follows acts step t middle after events more first second = record {
  at = AllAt-append step events more first.at second.at;
  path = open_after-append (open_of acts t) events more ∙ (ap (λ path. open_after path more) first.path ∙ second.path);
  opened = second.opened ∙ (ap (λ paths. paths ++ paths_opened (open_of acts middle) more) first.opened
      ∙ (append_assoc (filter is_inside (paths_of acts t.activations)) (paths_opened (open_of acts t) events) (paths_opened (open_of acts middle) more)
      ∙ ap (λ rest. filter is_inside (paths_of acts t.activations) ++ rest)
      (ap (λ path. paths_opened (open_of acts t) events ++ paths_opened path more) (sym first.path) ∙ sym (paths_opened-append (open_of acts t) events more))));
  longer = omega (arith, first.longer, second.longer);
  kept = λ number below. second.kept number (IsBelow-longer (length t.activations) (length middle.activations) number first.longer below) ∙ first.kept number below;
}

first_suited : (acts : List Act) (marking : Marking) (step : ℕ) (t : Trace) (changes : List Change) → StaySuited acts marking step t changes → AreSuited acts marking t.activations
first_suited acts marking step t [] stay = stay
first_suited acts marking step t (c ∷ more) stay = stay.0

all_changed-follows : (acts : List Act) (marking : Marking) (step : ℕ) (t : Trace) (changes : List Change) → IsTrace t → StaySuited acts marking step t changes
    → Follows acts step t (all_changed step t changes) (all_told marking step t changes)
all_changed-follows acts marking step t [] is stay = same-follows acts step t
all_changed-follows acts marking step t (c ∷ more) is stay =
    let next = trace_changed step t c in
    then-follows acts step t next (all_changed step next more) (events_told marking step t c) (all_told marking step next more)
    (changed-follows acts marking step t c is stay.0 (first_suited acts marking step next more stay.1))
    (all_changed-follows acts marking step next more (changed-keeps step t c is) stay.1)

-- ---- all steps so far

-- What the events of a run come to, up to a step.
record Agrees (acts : List Act) (n : ℕ) (t : Trace) (events : List Event) : Type 0 where
  path : open_after [] events ≡ open_of acts t
  opened : paths_opened [] events ≡ filter is_inside (paths_of acts t.activations)
  order : AreInOrder 0 events n

start-agrees : (acts : List Act) (t : Trace) (events : List Event) → Follows acts 0 no_trace t events → Agrees acts 0 t events
start-agrees acts t events follows = record {
  path = follows.path;
  opened = sym follows.opened;
  order = AreInOrder-append 0 [] events 0 (omega arith) follows.at;
}

step-agrees : (acts : List Act) (n : ℕ) (t after : Trace) (events more : List Event) → Agrees acts n t events → Follows acts (suc n) t after more → Agrees acts (suc n) after (events ++ more)
step-agrees acts n t after events more agrees follows = record {
  path = open_after-append [] events more ∙ (ap (λ path. open_after path more) agrees.path ∙ follows.path);
  opened = paths_opened-append [] events more ∙ (ap₂ (λ paths path. paths ++ paths_opened path more) agrees.opened agrees.path ∙ sym follows.opened);
  order = AreInOrder-append 0 events more (suc n) (AreInOrder-later 0 events n agrees.order) follows.at;
}

-- behind each change of each step
abbrev pub SuitsRun : List Act → Marking → World → Type 0
SuitsRun acts marking w = (n : ℕ) → StaySuited acts marking n (trace_before w n) (turn w n).changes

module _ (acts : List Act) (marking : Marking) (w : World) (suited : SuitsRun acts marking w) where
  start-follows : Follows acts 0 no_trace (trace w 0) (step_events marking w 0)
  start-follows = subst (λ after. Follows acts 0 no_trace after (step_events marking w 0)) (sym (trace_in-zero w (original w.program)))
      (all_changed-follows acts marking 0 no_trace (turn w 0).changes no_trace-is (suited 0))

  step-follows : (n : ℕ) → Follows acts (suc n) (trace w n) (trace w (suc n)) (step_events marking w (suc n))
  step-follows n = subst (λ after. Follows acts (suc n) (trace w n) after (step_events marking w (suc n))) (sym (trace_in-suc w (original w.program) n))
      (all_changed-follows acts marking (suc n) (trace w n) (turn w (suc n)).changes (trace_in-is w (original w.program) n) (suited (suc n)))

  run-agrees : (n : ℕ) → Agrees acts n (trace w n) (events_of marking w n)
  run-agrees zero = subst (Agrees acts 0 (trace w 0)) (sym (events_of-zero marking w))
      (start-agrees acts (trace w 0) (step_events marking w 0) (start-follows))
  run-agrees (suc n) = subst (Agrees acts (suc n) (trace w (suc n))) (sym (events_of-suc marking w n))
      (step-agrees acts n (trace w n) (trace w (suc n)) (events_of marking w n) (step_events marking w (suc n))
      (run-agrees n) (step-follows n))

  -- While the run goes on, each step is made in the path that is open before it.
  stepped-made : (n : ℕ) → ((m : ℕ) → m < n → is_some (run w m).ending ≡ false)
      → paths_stepped [] 0 (events_of marking w n) n ≡ paths_made acts w n
  stepped-made zero on = ap (λ events. paths_stepped [] 0 events 0) (events_of-zero marking w)
      ∙ (stepped-at [] 0 (step_events marking w 0) 0 (start-follows).at ∙ sym (paths_made-zero acts w))
  stepped-made (suc n) on =
      let before = events_of marking w n in
      let t = trace w n in
      let after = trace w (suc n) in
      let agrees = run-agrees n in
      let follows = step-follows n in
      let made : who w (suc n) ≡ current t.live = cond-false (is_some (run w n).ending) None (current t.live) (on n (omega arith)) in
      let mover : path_at acts after.activations (who w (suc n)) ≡ open_of acts t = ap (path_at acts after.activations) made
      ∙ follows.kept (current t.live) (current-below t.activations t.live (trace_in-is w (original w.program) n)) in
      ap (λ events. paths_stepped [] 0 events (suc n)) (events_of-suc marking w n)
      ∙ (stepped-same [] 0 before (step_events marking w (suc n)) (suc n) follows.at
      ∙ (stepped-more [] 0 before n agrees.order
      ∙ (ap₂ (λ paths path. paths ++ path ∷ []) (stepped-made n (λ m le. on m (omega arith))) (agrees.path ∙ sym mover)
      ∙ sym (paths_made-suc acts w n))))

  -- ---- the theorem

  -- The clocks of a run's events do not fall, and none is above the number of steps.
  pub in_order : (n : ℕ) → AreInOrder 0 (events_of marking w n) n
  in_order n = (run-agrees n).order

  -- The contexts that are counted from the events of a run are the projection of its activations, as long as the run
  -- has not ended before these steps.
  pub projected : (n : ℕ) → ((m : ℕ) → m < n → is_some (run w m).ending ≡ false)
      → contexts_counted (events_of marking w n) n ≡ projection acts w n
  projected n on =
      ap₂ contexts_of (run-agrees n).opened (stepped-made n on)
      ∙ contexts_of-inside (paths_of acts (trace w n).activations) (paths_made acts w n)

-- ---- the full marking is one that suits

full-suits : (acts : List Act) (root : Bool) (path : List ℕ) → Suits root path (if root then Root else Plain)
full-suits acts true path = record { roots = λ e. refl; only = λ e. refl; inside = λ within off. let no : Root ≡ Off → ⊥ = λ e. cc in no off }
full-suits acts false path = record {
  roots = λ e. absurd (let no : false ≡ true → ⊥ = λ e. cc in no e);
  only = λ e. absurd (plain_root e);
  inside = λ within off. let no : Plain ≡ Off → ⊥ = λ e. cc in no off;
}

full-stays : (acts : List Act) (step : ℕ) (t : Trace) (changes : List Change) → StaySuited acts (full_marking acts) step t changes
full-stays acts step t [] = λ number a found. full-suits acts (is_root acts a) (path_at acts t.activations (Some number))
full-stays acts step t (c ∷ more) = ((λ number a found. full-suits acts (is_root acts a) (path_at acts t.activations (Some number))), full-stays acts step (trace_changed step t c) more)

-- where every selected method is a root and every other method is marked too
pub projected-full : (acts : List Act) (w : World) (n : ℕ) → ((m : ℕ) → m < n → is_some (run w m).ending ≡ false)
    → contexts_counted (events_of (full_marking acts) w n) n ≡ projection acts w n
projected-full acts w n on = projected acts (full_marking acts) w (λ k. full-stays acts k (trace_before w k) (turn w k).changes) n on

pub in_order-full : (acts : List Act) (w : World) (n : ℕ) → AreInOrder 0 (events_of (full_marking acts) w n) n
in_order-full acts w n = in_order acts (full_marking acts) w (λ k. full-stays acts k (trace_before w k) (turn w k).changes) n
