-- The swaps that a session keeps are those of the points: how each point, and each change that is none, goes into both
-- lists.
use Rattle.std.proofs.Common.{◌≡◌, ℕ, Bool, true, false, List, [], ◌∷◌, ◌++◌, map, if◌then◌else◌, refl, sym, ap, ap₂, subst, ◌∙◌, append_assoc}
use Rattle.std.specs.Prelude.{fold, filter}
use Rattle.std.proofs.lemmas.List.{append-nil}
use Rattle.jvm_model.specs.declared.event.Act.{Act}
use Rattle.jvm_model.specs.declared.event.Event.{Event}
use Rattle.jvm_model.specs.declared.event.EventKind.{EventKind}
use Rattle.jvm_model.specs.declared.event.EventKind.TheVariants as kind
use Rattle.jvm_model.specs.declared.event.Mark.{Mark}
use Rattle.jvm_model.specs.declared.event.Mark.TheVariants.{Off, Plain, Root}
use Rattle.jvm_model.specs.declared.program.Program.{Program}
use Rattle.std.proofs.Common.{Option, Some, None, length, zero, suc, ◌==◌}
use Rattle.std.specs.List.{AllByRecursion}
use Rattle.std.proofs.lemmas.Bool.{eqb-true}
use Rattle.jvm_model.specs.Codes.Originals.{original}
use Rattle.jvm_model.specs.Running.Run.{turn}
use Rattle.jvm_model.proofs.Events.Order.{run-ordered}
use Rattle.jvm_model.specs.Soundness.Whole.{IsWhole}
use Rattle.jvm_model.proofs.Revealing.Revealable.{calls-told, revealable}
use Rattle.jvm_model.proofs.Events.Marked as marked
use Rattle.jvm_model.proofs.Events.Marked.{suits-run}
use Rattle.jvm_model.specs.Soundness.Calls.{AreFrom, IsTold}
use Rattle.std.specs.Option.{option_map_or}
use Rattle.jvm_model.specs.Profiling.Activations.{Activation, Trace, all_changed, current, trace_changed, trace_before}
use Rattle.jvm_model.specs.Basis.Data.{Change, Loads, Began, Left, Unwound, World}
use Rattle.jvm_model.specs.Profiling.EventLists.{Marking, all_told, begin_events, current_activation, end_events, end_of, step_events, events_told}
use Rattle.jvm_model.specs.Running.Changes.{EndThenBegin, AreOrdered}
use Rattle.jvm_model.specs.Profiling.Projection.{is_selected}
use Rattle.jvm_model.specs.Soundness.Calls.{loads_of}
use Rattle.jvm_model.proofs.Events.Chains.{path_at-last, slice_get_at}
use Rattle.jvm_model.proofs.Events.Traces.{IsTrace, changed-keeps, no_trace-is, trace_in-is}
use Rattle.jvm_model.specs.Profiling.Paths.{is_inside}
use Rattle.context_tree.proofs.Projection.Projected.{Telling, in_full, outside, gone_on, is_inside-push, telling}
use Rattle.context_tree.proofs.Projection.SeenRuns.{acts-match, after-trace, change-matches, end-matches, settled-trace, first-suited}
use Rattle.jvm_model.specs.Soundness.Suited.{Suits, AreSuited, StaySuited}
use Rattle.context_tree.specs.Counts.{opens}
use Rattle.jvm_model.specs.Profiling.Points.{Standing, acts_at, acts_behind, after_act, after_acts, methods_selected, marking_of, standing_settled, standing_in, standing_in-zero, standing_in-suc, after_change, after_changes, is_profiled, nothing, with_entered}
use Rattle.context_tree.specs.Seen.{Matches, Seen, open_of, seen_act, seen_end, seen_event}
use Rattle.jvm_model.specs.Profiling.Swaps.{Point, Swapped, act_points, points_before, points_in, points_in-zero, points_in-suc, step_points, change_point, change_points, point, last_standing, swapped_at, swaps_from}
use Rattle.jvm_model.specs.Profiling.Targets.{operations_of}
use Rattle.jvm_model.specs.Profiling.Revealed.{Revealed, changed_of, revealed_in}
use Rattle.profile_session.specs.Images.{marks_for}
use Rattle.profile_session.specs.Keeping.{Kept, at_point, first_kept, is_idle, kept_act, kept_acts, kept_before, kept_by-zero, kept_by-suc, kept_end, kept_event, kept_load, kept_told, methods_revealed, swap_of, swapped_now}
use Rattle.profile_session.proofs.Points.Joins.{ends-load, events-seen}
use Rattle.profile_session.proofs.Turns.Passing.{none-changed}

swaps-push : (p : Program) (b : Standing) (ps : List Point) (q : Point)
    → swaps_from p (operations_of p) b (ps ++ q ∷ []) ≡ swaps_from p (operations_of p) b ps ++ swapped_at p (operations_of p) (last_standing b ps) q
swaps-push p b [] q = append-nil (swapped_at p (operations_of p) b q)
swaps-push p b (x ∷ ps) q =
    ap (λ l. swapped_at p (operations_of p) b x ++ l) (swaps-push p x.standing ps q)
    ∙ sym (append_assoc (swapped_at p (operations_of p) b x) (swaps_from p (operations_of p) x.standing ps) (swapped_at p (operations_of p) (last_standing x.standing ps) q))

last-push : (b : Standing) (ps : List Point) (q : Point) → last_standing b (ps ++ q ∷ []) ≡ q.standing
last-push b [] q = refl
last-push b (x ∷ ps) q = last-push x.standing ps q

map-both : (p : Program) (a b : List Swapped) → map (swap_of p) (a ++ b) ≡ map (swap_of p) a ++ map (swap_of p) b
map-both p [] b = refl
map-both p (x ∷ a) b = ap (λ l. swap_of p x ∷ l) (map-both p a b)

abbrev entry_now : Program → ℕ → Revealed → ℕ → Swapped
entry_now p clock r class = record { clock = clock; class = class; marks = marks_for p r class }

map-now : (p : Program) (clock : ℕ) (r : Revealed) (classes : List ℕ) → swapped_now p clock r classes ≡ map (swap_of p) (map (entry_now p clock r) classes)
map-now p clock r [] = refl
map-now p clock r (c ∷ more) = ap (λ l. swap_of p (entry_now p clock r c) ∷ l) (map-now p clock r more)

matched : (acts : List Act) (seen : Seen) (s : Standing) → Matches acts seen s → methods_revealed seen ≡ revealed_in s
matched acts seen s m =
    ap (λ l. let r : Revealed = record (methods_revealed seen) { selected = l } in r) m.selected
    ∙ (ap (λ l. let r : Revealed = record { selected = s.selected; entered = l; loaded = seen.loaded } in r) m.entered
    ∙ ap (λ l. let r : Revealed = record { selected = s.selected; entered = s.entered; loaded = l } in r) m.loaded)

module _ (acts : List Act) (w : World) where
  abbrev p : Program
  p = w.program

  -- what is kept, what stands, and the points so far
  pub record Tracks (k : Kept) (s : Standing) (ps : List Point) : Type 0 where
    pub matches : Matches acts k.seen s
    pub last : revealed_in (last_standing (nothing w) ps) ≡ revealed_in s
    pub swaps : k.swaps ≡ map (swap_of p) (swaps_from p (operations_of p) (nothing w) ps)

  -- a point
  pub at-point : (k later : Kept) (s after : Standing) (ps : List Point) (clock : ℕ) → Tracks k s ps → Matches acts later.seen after
      → later.swaps ≡ k.swaps ++ swapped_now p clock (methods_revealed later.seen) (changed_of p (methods_revealed k.seen) (methods_revealed later.seen)) → Tracks later after (ps ++ point clock after ∷ [])
  at-point k later s after ps clock t m is =
      let before = last_standing (nothing w) ps in
      let was : methods_revealed k.seen ≡ revealed_in before = matched acts k.seen s t.matches ∙ sym t.last in
      let now : methods_revealed later.seen ≡ revealed_in after = matched acts later.seen after m in
      let mine : changed_of p (methods_revealed k.seen) (methods_revealed later.seen) ≡ changed_of p (revealed_in before) (revealed_in after) = ap₂ (changed_of p) was now in
      record {
        matches = m;
        last = ap revealed_in (last-push (nothing w) ps (point clock after));
        swaps = is
            ∙ (ap₂ (λ a b. a ++ b) t.swaps
            (ap₂ (swapped_now p clock) now mine ∙ map-now p clock (revealed_in after) (changed_of p (revealed_in before) (revealed_in after)))
            ∙ (sym (map-both p (swaps_from p (operations_of p) (nothing w) ps) (map (entry_now p clock (revealed_in after)) (changed_of p (revealed_in before) (revealed_in after))))
            ∙ ap (map (swap_of p)) (sym (swaps-push p (nothing w) ps (point clock after)))));
      }

  -- a point at which nothing is other than before
  pub at-same : (k later : Kept) (s after : Standing) (ps : List Point) (clock : ℕ) → Tracks k s ps → Matches acts later.seen after → later.swaps ≡ k.swaps
      → methods_revealed later.seen ≡ methods_revealed k.seen → Tracks later after (ps ++ point clock after ∷ [])
  at-same k later s after ps clock t m is same =
      at-point k later s after ps clock t m
      (is ∙ (sym (append-nil k.swaps) ∙ ap (λ l. k.swaps ++ swapped_now p clock (methods_revealed later.seen) l) (sym (none-changed p (methods_revealed k.seen)) ∙ ap (changed_of p (methods_revealed k.seen)) (sym same))))

  -- no point
  pub at-none : (k later : Kept) (s after : Standing) (ps : List Point) → Tracks k s ps → Matches acts later.seen after → later.swaps ≡ k.swaps → revealed_in after ≡ revealed_in s → Tracks later after ps
  at-none k later s after ps t m is same = record { matches = m; last = t.last ∙ sym same; swaps = is ∙ t.swaps }

-- ---- which events are points

-- an end is none
pub end-swaps : (p : Program) (k_ : EventKind) → ((path : List ℕ) → opens path k_ ≡ false) → (step method : ℕ) (mark : Mark) (k : Kept) → (fold (kept_event p) k (end_events k_ step method mark)).swaps ≡ k.swaps
end-swaps p k_ never step method Off k = refl
end-swaps p k_ never step method Plain k = ap (λ b. let e : Event = record { kind = k_; method = method; clock = step } in let r : Kept = if b then at_point p step k (seen_event k.seen e) else record k { seen = seen_event k.seen e } in r.swaps) (never k.seen.open)
end-swaps p k_ never step method Root k = ap (λ b. let e : Event = record { kind = k_; method = method; clock = step } in let r : Kept = if b then at_point p step k (seen_event k.seen e) else record k { seen = seen_event k.seen e } in r.swaps) (never k.seen.open)

-- a begin is one exactly where it is profiled
pub begin-swaps : (p : Program) (step method : ℕ) (root : Bool) (path : List ℕ) (mark : Mark) → Telling method root path mark → (k : Kept) → k.seen.open ≡ path
    → (let later : Kept = fold (kept_event p) k (begin_events step method mark) in
    later.swaps ≡ (if is_inside (gone_on method root path) then k.swaps ++ swapped_now p step (methods_revealed later.seen) (changed_of p (methods_revealed k.seen) (methods_revealed later.seen)) else k.swaps))
begin-swaps p step method root path mark (outside e gone empty) k at =
    subst (λ m. let later : Kept = fold (kept_event p) k (begin_events step method m) in
    later.swaps ≡ (if is_inside (gone_on method root path) then k.swaps ++ swapped_now p step (methods_revealed later.seen) (changed_of p (methods_revealed k.seen) (methods_revealed later.seen)) else k.swaps)) (sym e)
    (sym (ap (λ q. if is_inside q then k.swaps ++ swapped_now p step (methods_revealed k.seen) (changed_of p (methods_revealed k.seen) (methods_revealed k.seen)) else k.swaps) gone))
begin-swaps p step method root path mark (in_full e) k at =
    subst (λ m. let later : Kept = fold (kept_event p) k (begin_events step method m) in
    later.swaps ≡ (if is_inside (gone_on method root path) then k.swaps ++ swapped_now p step (methods_revealed later.seen) (changed_of p (methods_revealed k.seen) (methods_revealed later.seen)) else k.swaps)) (sym e)
    (by root)
  where
    same : (event : Event) → (b c : Bool) → b ≡ c → event.clock ≡ step
        → (let later : Kept = if b then at_point p event.clock k (seen_event k.seen event) else record k { seen = seen_event k.seen event } in
        later.swaps ≡ (if c then k.swaps ++ swapped_now p step (methods_revealed later.seen) (changed_of p (methods_revealed k.seen) (methods_revealed later.seen)) else k.swaps))
    same event true true q clock = ap (λ n. k.swaps ++ swapped_now p n (methods_revealed (seen_event k.seen event)) (changed_of p (methods_revealed k.seen) (methods_revealed (seen_event k.seen event)))) clock
    same event false false q clock = refl
    same event true false q clock = absurd (let h : true ≡ false = q in cc)
    same event false true q clock = absurd (let h : false ≡ true = q in cc)

    goes : (b : Bool) → b ≡ is_inside (if b then path ++ method ∷ [] else [])
    goes true = sym (is_inside-push path method)
    goes false = refl

    by : (root : Bool) → (let later : Kept = fold (kept_event p) k (begin_events step method (if root then Root else Plain)) in
        later.swaps ≡ (if is_inside (gone_on method root path) then k.swaps ++ swapped_now p step (methods_revealed later.seen) (changed_of p (methods_revealed k.seen) (methods_revealed later.seen)) else k.swaps))
    by true = same (record { kind = kind.Root; method = method; clock = step }) true (is_inside (path ++ method ∷ [])) (sym (is_inside-push path method)) refl
    by false = same (record { kind = kind.Enter; method = method; clock = step }) (is_inside k.seen.open) (is_inside (gone_on method false path)) (ap is_inside at ∙ goes (is_inside path)) refl

-- ---- the walk over the changes of a step

fold-both : (p : Program) (a b : List Event) (k : Kept) → fold (kept_event p) k (a ++ b) ≡ fold (kept_event p) (fold (kept_event p) k a) b
fold-both p [] b k = refl
fold-both p (e ∷ a) b k = fold-both p a b (kept_event p k e)

module _ (acts : List Act) (w : World) (marking : Marking) (step : ℕ) where
  abbrev heard : Kept → Trace → Change → Kept
  heard k t c = fold (kept_event w.program) k (events_told marking step t c)

  abbrev Goes : Kept → Standing → List Point → Change → Type 0
  Goes k s ps c = Tracks acts w (heard k s.trace c) (after_change acts step s c) (ps ++ change_point acts step c (after_change acts step s c))

  no-point : (k later : Kept) (s after : Standing) (ps : List Point) → Tracks acts w k s ps → Matches acts later.seen after → later.swaps ≡ k.swaps → revealed_in after ≡ revealed_in s
      → Tracks acts w later after (ps ++ [])
  no-point k later s after ps t m is same = subst (Tracks acts w later after) (sym (append-nil ps)) (at-none acts w k later s after ps t m is same)

  ends-none : (k_ : EventKind) → ((path : List ℕ) → opens path k_ ≡ false) → (t : Trace) (k : Kept) → (fold (kept_event w.program) k (end_of marking k_ step t)).swaps ≡ k.swaps
  ends-none k_ never t k = by (current_activation t) where
    by : (o : Option Activation) → (fold (kept_event w.program) k (option_map_or (λ (a : Activation). end_events k_ step a.method (marking a.begin a.method)) o [])).swaps ≡ k.swaps
    by None = refl
    by (Some a) = end-swaps w.program k_ never step a.method (marking a.begin a.method) k

  one-change : (k : Kept) (s : Standing) (ps : List Point) (c : Change) → ((classes : List ℕ) → c ≡ Loads classes → ⊥) → IsTrace s.trace → AreSuited acts marking s.trace.activations
      → AreSuited acts marking (trace_changed step s.trace c).activations → Tracks acts w k s ps → Goes k s ps c
  one-change k s ps (Loads classes) other is suited then_suited t = absurd (other classes refl)
  one-change k s ps Left other is suited then_suited t =
      no-point k (heard k s.trace Left) s (after_change acts step s Left) ps t
      (subst (λ x. Matches acts x (after_change acts step s Left)) (sym (events-seen w.program (events_told marking step s.trace Left) k))
      (change-matches acts marking step k.seen s Left other is suited then_suited t.matches))
      (ends-none kind.Leave (λ path. refl) s.trace k) refl
  one-change k s ps Unwound other is suited then_suited t =
      no-point k (heard k s.trace Unwound) s (after_change acts step s Unwound) ps t
      (subst (λ x. Matches acts x (after_change acts step s Unwound)) (sym (events-seen w.program (events_told marking step s.trace Unwound) k))
      (change-matches acts marking step k.seen s Unwound other is suited then_suited t.matches))
      (ends-none kind.Unwind (λ path. refl) s.trace k) refl
  one-change k s ps (Began method) other is suited then_suited t =
      let a : Activation = record { method = method; parent = current s.trace.live; begin = step; «end» = None } in
      let root = is_selected acts step method in
      let path = open_of acts s.trace in
      let last = path_at-last acts s.trace.activations a in
      let suits : Suits root (gone_on method root path) (marking step method) =
      subst (λ q. Suits root q (marking step method)) last (then_suited (length s.trace.activations) a (slice_get_at s.trace.activations a [])) in
      let swaps = begin-swaps w.program step method root path (marking step method) (telling method root path (marking step method) suits) k t.matches.path in
      let m : Matches acts (heard k s.trace (Began method)).seen (after_change acts step s (Began method)) =
      subst (λ x. Matches acts x (after_change acts step s (Began method))) (sym (events-seen w.program (events_told marking step s.trace (Began method)) k))
      (change-matches acts marking step k.seen s (Began method) other is suited then_suited t.matches) in
      by (is_profiled acts (trace_changed step s.trace (Began method))) refl (swaps ∙ ap (λ q. if is_inside q then
      k.swaps ++ swapped_now w.program step (methods_revealed (heard k s.trace (Began method)).seen) (changed_of w.program (methods_revealed k.seen) (methods_revealed (heard k s.trace (Began method)).seen)) else k.swaps) (sym last)) m
    where
      by : (b : Bool) → is_profiled acts (trace_changed step s.trace (Began method)) ≡ b
          → (heard k s.trace (Began method)).swaps ≡ (if is_profiled acts (trace_changed step s.trace (Began method)) then
          k.swaps ++ swapped_now w.program step (methods_revealed (heard k s.trace (Began method)).seen) (changed_of w.program (methods_revealed k.seen) (methods_revealed (heard k s.trace (Began method)).seen)) else k.swaps)
          → Matches acts (heard k s.trace (Began method)).seen (after_change acts step s (Began method)) → Goes k s ps (Began method)
      by true e swaps m =
          let after = after_change acts step s (Began method) in
          subst (λ b. Tracks acts w (heard k s.trace (Began method)) after (ps ++ (if b then point step after ∷ [] else []))) (sym e)
          (at-point acts w k (heard k s.trace (Began method)) s after ps step t m
          (swaps ∙ ap (λ b. if b then k.swaps ++ swapped_now w.program step (methods_revealed (heard k s.trace (Began method)).seen) (changed_of w.program (methods_revealed k.seen) (methods_revealed (heard k s.trace (Began method)).seen)) else k.swaps) e))
      by false e swaps m =
          let after = after_change acts step s (Began method) in
          subst (λ b. Tracks acts w (heard k s.trace (Began method)) after (ps ++ (if b then point step after ∷ [] else []))) (sym e)
          (no-point k (heard k s.trace (Began method)) s after ps t m
          (swaps ∙ ap (λ b. if b then k.swaps ++ swapped_now w.program step (methods_revealed (heard k s.trace (Began method)).seen) (changed_of w.program (methods_revealed k.seen) (methods_revealed (heard k s.trace (Began method)).seen)) else k.swaps) e)
          (ap (λ b. let r : Revealed = record (revealed_in s) { entered = if b then with_entered method s.entered else s.entered } in r) e))

  then-track : (k : Kept) (s : Standing) (ps : List Point) (c : Change) (more : List Change) → ((classes : List ℕ) → c ≡ Loads classes → ⊥) → IsTrace s.trace
      → StaySuited acts marking step s.trace (c ∷ more) → Tracks acts w k s ps
      → ((k : Kept) (s : Standing) (ps : List Point) → IsTrace s.trace → StaySuited acts marking step s.trace more → Tracks acts w k s ps
      → Tracks acts w (fold (kept_event w.program) k (all_told marking step s.trace more)) (after_changes acts step s more) (ps ++ change_points acts step s more))
      → Tracks acts w (fold (kept_event w.program) k (all_told marking step s.trace (c ∷ more))) (after_changes acts step s (c ∷ more)) (ps ++ change_points acts step s (c ∷ more))
  then-track k s ps c more other is stay t rest =
      let next = after_change acts step s c in
      let same = trace-same s c other in
      let one = one-change k s ps c other is stay.0 (first-suited acts marking step (trace_changed step s.trace c) more stay.1) t in
      let behind = rest (heard k s.trace c) next (ps ++ change_point acts step c next) (subst IsTrace (sym same) (changed-keeps step s.trace c is))
      (subst (λ t. StaySuited acts marking step t more) (sym same) stay.1) one in
      subst (λ x. Tracks acts w x (after_changes acts step next more) (ps ++ (change_point acts step c next ++ change_points acts step next more)))
      (sym (fold-both w.program (events_told marking step s.trace c) (all_told marking step (trace_changed step s.trace c) more) k))
      (subst (λ t. Tracks acts w (fold (kept_event w.program) (heard k s.trace c) (all_told marking step t more)) (after_changes acts step next more) (ps ++ (change_point acts step c next ++ change_points acts step next more))) same
      (subst (Tracks acts w (fold (kept_event w.program) (heard k s.trace c) (all_told marking step next.trace more)) (after_changes acts step next more))
      (append_assoc ps (change_point acts step c next) (change_points acts step next more)) behind))
    where
      trace-same : (s : Standing) (c : Change) → ((classes : List ℕ) → c ≡ Loads classes → ⊥) → (after_change acts step s c).trace ≡ trace_changed step s.trace c
      trace-same s (Loads classes) other = refl
      trace-same s (Began method) other = refl
      trace-same s Left other = refl
      trace-same s Unwound other = refl

  -- ends, and then one begin at most
  pub ends-track : (changes : List Change) → EndThenBegin changes → (k : Kept) (s : Standing) (ps : List Point) → IsTrace s.trace → StaySuited acts marking step s.trace changes → Tracks acts w k s ps
      → Tracks acts w (fold (kept_event w.program) k (all_told marking step s.trace changes)) (after_changes acts step s changes) (ps ++ change_points acts step s changes)
  ends-track [] order k s ps is stay t = subst (Tracks acts w k s) (sym (append-nil ps)) t
  ends-track (Left ∷ rest) order k s ps is stay t = then-track k s ps Left rest (λ classes e. cc) is stay t (ends-track rest order)
  ends-track (Unwound ∷ rest) order k s ps is stay t = then-track k s ps Unwound rest (λ classes e. cc) is stay t (ends-track rest order)
  ends-track (Began method ∷ []) order k s ps is stay t = then-track k s ps (Began method) [] (λ classes e. cc) is stay t (λ k s ps is stay t. subst (Tracks acts w k s) (sym (append-nil ps)) t)
  ends-track (Began method ∷ c ∷ rest) order k s ps is stay t = absurd order
  ends-track (Loads classes ∷ rest) order k s ps is stay t = absurd order

  -- the load before them
  pub step-track : (changes : List Change) → AreOrdered changes → (k : Kept) (s : Standing) (ps : List Point) → IsTrace s.trace → StaySuited acts marking step s.trace changes → Tracks acts w k s ps
      → Tracks acts w (kept_told w.program step k (loads_of changes) (all_told marking step s.trace changes)) (after_changes acts step s changes) (ps ++ change_points acts step s changes)
  step-track (Loads classes ∷ rest) order k s ps is stay t =
      let next : Standing = record s { loaded = s.loaded ++ classes } in
      let whole : loads_of (Loads classes ∷ rest) ≡ classes = ap (λ l. classes ++ l) (ends-load rest order) ∙ append-nil classes in
      subst (λ l. Tracks acts w (kept_told w.program step k l (all_told marking step s.trace rest)) (after_changes acts step next rest) (ps ++ (point step next ∷ change_points acts step next rest))) (sym whole)
      (subst (Tracks acts w (kept_told w.program step k classes (all_told marking step s.trace rest)) (after_changes acts step next rest))
      (append_assoc ps (point step next ∷ []) (change_points acts step next rest))
      (ends-track rest order (kept_load w.program step k classes) next (ps ++ point step next ∷ []) is stay.1 (by classes)))
    where
      by : (classes : List ℕ) → (let next : Standing = record s { loaded = s.loaded ++ classes } in Tracks acts w (kept_load w.program step k classes) next (ps ++ point step next ∷ []))
      by [] =
          let next : Standing = record s { loaded = s.loaded ++ [] } in
          at-same acts w k k s next ps step t (record { selected = t.matches.selected; entered = t.matches.entered; loaded = t.matches.loaded ∙ sym (append-nil s.loaded); path = t.matches.path }) refl refl
      by (c ∷ more) =
          let next : Standing = record s { loaded = s.loaded ++ c ∷ more } in
          at-point acts w k (kept_load w.program step k (c ∷ more)) s next ps step t
          (record { selected = t.matches.selected; entered = t.matches.entered; loaded = ap (λ l. l ++ c ∷ more) t.matches.loaded; path = t.matches.path }) refl
  step-track [] order k s ps is stay t = ends-track [] order k s ps is stay t
  step-track (Left ∷ rest) order k s ps is stay t = subst (λ l. Tracks acts w (kept_told w.program step k l (all_told marking step s.trace (Left ∷ rest))) (after_changes acts step s (Left ∷ rest)) (ps ++ change_points acts step s (Left ∷ rest)))
      (sym (ends-load (Left ∷ rest) order)) (ends-track (Left ∷ rest) order k s ps is stay t)
  step-track (Unwound ∷ rest) order k s ps is stay t = subst (λ l. Tracks acts w (kept_told w.program step k l (all_told marking step s.trace (Unwound ∷ rest))) (after_changes acts step s (Unwound ∷ rest)) (ps ++ change_points acts step s (Unwound ∷ rest)))
      (sym (ends-load (Unwound ∷ rest) order)) (ends-track (Unwound ∷ rest) order k s ps is stay t)
  step-track (Began m ∷ rest) order k s ps is stay t = subst (λ l. Tracks acts w (kept_told w.program step k l (all_told marking step s.trace (Began m ∷ rest))) (after_changes acts step s (Began m ∷ rest)) (ps ++ change_points acts step s (Began m ∷ rest)))
      (sym (ends-load (Began m ∷ rest) order)) (ends-track (Began m ∷ rest) order k s ps is stay t)

  -- the end of the step
  end-track : (k : Kept) (s : Standing) (ps : List Point) → IsTrace s.trace → Tracks acts w k s ps → Tracks acts w (kept_end w.program step k) (standing_settled acts s) (ps ++ point step (standing_settled acts s) ∷ [])
  end-track k s ps is t = by (is_idle k.seen) refl (end-matches acts k.seen s is t.matches) where
    by : (b : Bool) → is_idle k.seen ≡ b → Matches acts (seen_end k.seen) (standing_settled acts s) → Tracks acts w (kept_end w.program step k) (standing_settled acts s) (ps ++ point step (standing_settled acts s) ∷ [])
    by true e m =
        let later : Kept = at_point w.program step k (record k.seen { entered = [] }) in
        subst (λ b. Tracks acts w (if b then later else k) (standing_settled acts s) (ps ++ point step (standing_settled acts s) ∷ [])) (sym e)
        (at-point acts w k later s (standing_settled acts s) ps step t (subst (λ b. Matches acts (if b then record k.seen { entered = [] } else k.seen) (standing_settled acts s)) e m) refl)
    by false e m =
        let later : Kept = at_point w.program step k (record k.seen { entered = [] }) in
        subst (λ b. Tracks acts w (if b then later else k) (standing_settled acts s) (ps ++ point step (standing_settled acts s) ∷ [])) (sym e)
        (at-same acts w k k s (standing_settled acts s) ps step t (subst (λ b. Matches acts (if b then record k.seen { entered = [] } else k.seen) (standing_settled acts s)) e m) refl refl)

  -- the actions behind it
  acts-track : (todo : List Act) → AllByRecursion (λ (a : Act). a.moment ≡ step) todo → (k : Kept) (s : Standing) (ps : List Point) → IsTrace s.trace → Tracks acts w k s ps
      → Tracks acts w (kept_acts w.program k todo) (after_acts acts s todo) (ps ++ act_points acts step s todo)
  acts-track [] each k s ps is t = subst (Tracks acts w k s) (sym (append-nil ps)) t
  acts-track (a ∷ todo) each k s ps is t =
      let next = after_act acts s a in
      let one = at-point acts w k (kept_act w.program k a) s next ps step t (acts-match acts (a ∷ []) k.seen s is t.matches)
      (ap (λ n. k.swaps ++ swapped_now w.program n (methods_revealed (seen_act k.seen a)) (changed_of w.program (methods_revealed k.seen) (methods_revealed (seen_act k.seen a)))) each.0) in
      subst (Tracks acts w (kept_acts w.program (kept_act w.program k a) todo) (after_acts acts next todo)) (append_assoc ps (point step next ∷ []) (act_points acts step next todo))
      (acts-track todo each.1 (kept_act w.program k a) next (ps ++ point step next ∷ []) (subst IsTrace (sym (settled-trace acts (record s { selected = methods_selected a s.selected }))) is) one)

filter-moments : (n : ℕ) (acts : List Act) → AllByRecursion (λ (a : Act). a.moment ≡ n) (filter (λ (act : Act). act.moment == n) acts)
filter-moments n [] = tt
filter-moments n (a ∷ acts) = by (a.moment == n) refl (filter-moments n acts) where
  by : (b : Bool) → (a.moment == n) ≡ b → AllByRecursion (λ (a : Act). a.moment ≡ n) (filter (λ (act : Act). act.moment == n) acts)
      → AllByRecursion (λ (a : Act). a.moment ≡ n) (if b then a ∷ filter (λ (act : Act). act.moment == n) acts else filter (λ (act : Act). act.moment == n) acts)
  by true e rest = (eqb-true a.moment n e, rest)
  by false e rest = rest

behind-moments : (n : ℕ) (acts : List Act) → AllByRecursion (λ (a : Act). a.moment ≡ n) (acts_behind n acts)
behind-moments zero acts = tt
behind-moments (suc n) acts = filter-moments (suc n) acts

-- ---- the run

module _ (w : World) (is : IsWhole w.program) (acts : List Act) (from : AreFrom 0 acts) where
  abbrev standing : ℕ → Standing
  standing n = standing_in acts w (original w.program) n

  points-next : (n : ℕ) → points_in acts w (original w.program) n ≡ points_before acts w (original w.program) n ++ step_points acts n (standing n) (turn w n).changes
  points-next zero = points_in-zero acts w (original w.program)
  points-next (suc n) = points_in-suc acts w (original w.program) n

  before-is : (n : ℕ) → IsTrace (trace_before w n)
  before-is zero = no_trace-is
  before-is (suc n) = trace_in-is w (original w.program) n

  told-of : (n : ℕ) → IsTold w (operations_of w.program) n
  told-of = calls-told w (revealable w is)

  trace-of : (n : ℕ) → (standing n).trace ≡ trace_before w n
  trace-of n = (marked.stands acts w (operations_of w.program) from told-of n).trace

  pub tracks : (n : ℕ) → Tracks acts w (kept_before acts w n) (standing n) (points_before acts w (original w.program) n)
  tracks zero =
      subst (λ k. Tracks acts w k (standing 0) (act_points acts 0 (nothing w) (acts_at 0 acts))) (sym (kept_by-zero acts w (marking_of acts w)))
      (subst (λ s. Tracks acts w (kept_acts w.program (first_kept w) (acts_at 0 acts)) s (act_points acts 0 (nothing w) (acts_at 0 acts))) (sym (standing_in-zero acts w (original w.program)))
      (acts-track acts w (marking_of acts w) 0 (acts_at 0 acts) (filter-moments 0 acts) (first_kept w) (nothing w) [] no_trace-is
      (record { matches = record { selected = refl; entered = refl; loaded = refl; path = refl }; last = refl; swaps = refl })))
  tracks (suc n) =
      let s = standing n in
      let m = marking_of acts w in
      let changes = (turn w n).changes in
      let ps = points_before acts w (original w.program) n in
      let k = kept_before acts w n in
      let trace_is : IsTrace s.trace = subst IsTrace (sym (trace-of n)) (before-is n) in
      let told_same : all_told m n s.trace changes ≡ step_events m w n = ap (λ t. all_told m n t changes) (trace-of n) in
      let walked = step-track acts w m n changes (run-ordered w (original w.program) n) k s ps trace_is
      (subst (λ t. StaySuited acts m n t changes) (sym (trace-of n)) (suits-run acts w (operations_of w.program) from told-of n)) (tracks n) in
      let after = after_changes acts n s changes in
      let behind = kept_told w.program n k (loads_of changes) (step_events m w n) in
      let there : Tracks acts w behind after (ps ++ change_points acts n s changes) =
      subst (λ es. Tracks acts w (kept_told w.program n k (loads_of changes) es) after (ps ++ change_points acts n s changes)) told_same walked in
      let keeps : IsTrace after.trace = subst IsTrace (sym (after-trace acts m n changes s)) (all-keeps n changes s.trace trace_is) in
      let ended = standing_settled acts after in
      let at_end = end-track acts w m n behind after (ps ++ change_points acts n s changes) keeps there in
      let acted = acts-track acts w m n (acts_behind n acts) (behind-moments n acts) (kept_end w.program n behind) ended ((ps ++ change_points acts n s changes) ++ point n ended ∷ [])
      (subst IsTrace (sym (settled-trace acts after)) keeps) at_end in
      let pts : ((ps ++ change_points acts n s changes) ++ point n ended ∷ []) ++ act_points acts n ended (acts_behind n acts) ≡ points_in acts w (original w.program) n =
      append_assoc (ps ++ change_points acts n s changes) (point n ended ∷ []) (act_points acts n ended (acts_behind n acts))
      ∙ (append_assoc ps (change_points acts n s changes) (point n ended ∷ act_points acts n ended (acts_behind n acts)) ∙ sym (points-next n)) in
      subst (λ k. Tracks acts w k (standing (suc n)) (points_in acts w (original w.program) n)) (sym (kept_by-suc acts w m n))
      (subst (λ s. Tracks acts w (kept_acts w.program (kept_end w.program n behind) (acts_behind n acts)) s (points_in acts w (original w.program) n)) (sym (standing_in-suc acts w (original w.program) n))
      (subst (Tracks acts w (kept_acts w.program (kept_end w.program n behind) (acts_behind n acts)) (after_acts acts ended (acts_behind n acts))) pts acted))
    where
      all-keeps : (n : ℕ) (changes : List Change) (t : Trace) → IsTrace t → IsTrace (all_changed n t changes)
      all-keeps n [] t is = is
      all-keeps n (c ∷ more) t is = all-keeps n more (trace_changed n t c) (changed-keeps n t c is)

  -- The swaps that a session keeps are those of the rule.
  pub swaps-are : (n : ℕ) → (kept_before acts w n).swaps ≡ map (swap_of w.program) (swaps_from w.program (operations_of w.program) (nothing w) (points_before acts w (original w.program) n))
  swaps-are n = (tracks n).swaps
