-- Each turn of the machine, and what the session does behind it, keeps what stands.
use Rattle.std.proofs.Common.{◌≡◌, ℕ, zero, suc, ◌+◌, ◌<◌, ◌≤◌, Bool, true, false, not, ◌&&◌, ◌==◌, List, [], ◌∷◌, ◌++◌, drop, length, Some, None, if◌then◌else◌, refl, sym, ap, ap₂, subst, ◌∙◌, is_some, arith, add-one, append_assoc}
use Rattle.std.specs.Prelude.{fold, filter}
use Rattle.std.specs.List.{AllByRecursion}
use Rattle.std.proofs.lemmas.Bool.{and_parts, eqb-true, eqb-false, ne_eqb, not-true}
use Rattle.std.proofs.lemmas.List.{append-nil}
use Rattle.jvm_model.specs.declared.event.Act.{Act}
use Rattle.jvm_model.specs.declared.event.Event.{Event}
use Rattle.jvm_model.specs.declared.event.Mark.{Mark}
use Rattle.jvm_model.specs.declared.program.Program.{Program}
use Rattle.jvm_model.specs.Profiling.Activations.{trace, trace_before}
use Rattle.jvm_model.specs.Running.Changes.{EndThenBegin, AreOrdered}
use Rattle.jvm_model.specs.Basis.Data.{Change, Loads, Began, Left, Unwound, World}
use Rattle.jvm_model.specs.Profiling.EventLists.{Marking, events_of, events_of-zero, events_of-suc, step_events}
use Rattle.jvm_model.specs.Codes.Originals.{original}
use Rattle.jvm_model.specs.declared.due.Due.{Due}
use Rattle.jvm_model.specs.declared.due.Due.TheVariants.{Nothing, Ends, Begins}
use Rattle.jvm_model.specs.Turns.Pauses.{begin_kind, end_due, Stop, passed_by, stop_by, stop_in, stop_from, told_at, told_from}
use Rattle.jvm_model.specs.Running.Run.{before, run, turn}
use Rattle.jvm_model.specs.Turns.Rest.{loads_first}
use Rattle.jvm_machine.specs.Turns.{TellsLoads}
use Rattle.jvm_machine.specs.View.{View, IsGoingOn, has_ended, world, clock_advanced, step_begun, is_resting, to_come, loads_next, next_stop, next_event, step_stopped, step_rested, events_left, live_then}
use Rattle.jvm_model.specs.Rewriting.StandsFor.{mark_at}
use Rattle.jvm_model.specs.Turns.Told.{Held, held_after, held_in, all_held, changes_told}
use Rattle.jvm_model.specs.declared.event.EventKind.{EventKind}
use Rattle.jvm_model.specs.declared.event.EventKind.TheVariants as kind
use Rattle.jvm_model.specs.Rewriting.Images.{is_off}
use Rattle.jvm_model.proofs.Turns.GoesOn.{drop-passed}
use Rattle.jvm_model.proofs.Events.Order.{run-ordered}
use Rattle.jvm_model.proofs.Turns.Stops.{stop_from-is}
use Rattle.jvm_machine.proofs.Probes.SeenLaws.{stop-tells, stop-lives, end-tells, end-lives, all-events, all-lives, first-loads}
use Rattle.jvm_model.specs.Soundness.Whole.{IsWhole}
use Rattle.jvm_model.proofs.Revealing.Revealable.{calls-told, revealable}
use Rattle.context_tree.proofs.Projection.Headline.{session-whole}
use Rattle.jvm_model.proofs.Events.Marked as marked
use Rattle.jvm_model.specs.Soundness.Calls.{IsTold, loaded_before}
use Rattle.jvm_model.specs.Profiling.Targets.{operations_of}
use Rattle.jvm_model.specs.Soundness.Calls.{AreFrom, loads_of}
use Rattle.context_tree.specs.Counts.{AreInOrder, opens}
use Rattle.jvm_model.specs.Profiling.Points.{with_entered, acts_behind, marking_of}
use Rattle.context_tree.specs.Seen.{Seen, seen_event}
use Rattle.profile_session.specs.Keeping.{Kept, at_point, kept_acts, kept_before, kept_behind, kept_by-suc, kept_end, kept_event, kept_load, marks_seen}
use Rattle.profile_session.specs.Standing.{AtRest, InStep, next_step, told_before}
use Rattle.profile_session.proofs.Points.Joins.{event-seen, first-of, in-force, kept-seen, load-seen}

events-behind : (marking : Marking) (w : World) (n : ℕ) → told_before marking w n ++ step_events marking w n ≡ events_of marking w n
events-behind marking w zero = sym (events_of-zero marking w)
events-behind marking w (suc n) = sym (events_of-suc marking w n)

-- no action comes behind the last moment
none-at : (clock m : ℕ) (acts : List Act) → AllByRecursion (λ (a : Act). a.moment ≤ clock) acts → clock < m → filter (λ (act : Act). act.moment == m) acts ≡ []
none-at clock m [] each less = refl
none-at clock m (a ∷ acts) each less =
    ap (λ b. let l : List Act = if b then a ∷ filter (λ (act : Act). act.moment == m) acts else filter (λ (act : Act). act.moment == m) acts in l)
    (ne_eqb a.moment m (λ same. let le = each.0 in omega (arith, le, same, less))) ∙ none-at clock m acts each.1 less

pub none-behind : (clock m : ℕ) (acts : List Act) → AllByRecursion (λ (a : Act). a.moment ≤ clock) acts → clock < m → acts_behind m acts ≡ []
none-behind clock zero acts each less = refl
none-behind clock (suc m) acts each less = none-at clock (suc m) acts each less

pub later-moments : (a b : ℕ) (acts : List Act) → AllByRecursion (λ (x : Act). x.moment ≤ a) acts → a ≤ b → AllByRecursion (λ (x : Act). x.moment ≤ b) acts
later-moments a b [] each le = tt
later-moments a b (x ∷ acts) each le = (let h = each.0 in omega (arith, h, le), later-moments a b acts each.1 le)

-- ---- where an event that opens a path is told

ends-of : (cs : List Change) (c : Change) → AreOrdered (c ∷ cs) → EndThenBegin cs
ends-of cs (Loads classes) order = order
ends-of cs Left order = order
ends-of cs Unwound order = order
ends-of [] (Began m) order = tt
ends-of (d ∷ cs) (Began m) order = absurd order

module _ (marks : ℕ → Mark) (clock : ℕ) (path : List ℕ) (e : Event) (opening : opens path e.kind ≡ true) where
  -- it is the last change of the step
  abbrev IsLast : ℕ → List Change → Stop → Type 0
  IsLast n cs s = told_at s.due clock s.live ≡ Some e → s.passed ≡ passed_by n cs

  not-there : (l : List Held) → told_at Nothing clock l ≡ Some e → ⊥
  not-there l none = let h : None ≡ Some e = none in cc

  by-end : (k : EventKind) → opens path k ≡ false → (n : ℕ) (live after : List Held) (m : Mark) (h : Held) (below : List Held) (cs : List Change) (later : Stop) → live ≡ h ∷ below
      → IsLast n cs later → (b : Bool) → IsLast n cs (stop_by live after n (let d : Due = if b then Nothing else Ends k in d) later)
  by-end k shut n live after m h below cs later at rest true delivered = rest delivered
  by-end k shut n live after m h below cs later at rest false delivered =
      let here : Event = record { kind = k; method = h.method; clock = clock } in
      let same : Some here ≡ Some e = sym (ap (told_at (Ends k) clock) at) ∙ delivered in
      let one : here ≡ e = (let inj : Some here ≡ Some e → here ≡ e = λ q. cc in inj same) in
      absurd (let h : false ≡ true = sym shut ∙ (ap (λ (e : Event). opens path e.kind) one ∙ opening) in cc)

  end-last : (k : EventKind) → opens path k ≡ false → (n : ℕ) (live after : List Held) (cs : List Change) (later : Stop) → IsLast n cs later
      → IsLast n cs (stop_by live after n (end_due k live) later)
  end-last k shut n [] after cs later rest = rest
  end-last k shut n (h ∷ below) after cs later rest = by-end k shut n (h ∷ below) after h.mark h below cs later refl rest (is_off h.mark)

  begin-last : (n : ℕ) (live after : List Held) (b : Bool) → IsLast n (Began 0 ∷ []) (stop_by live after n (let d : Due = if b then Nothing else Begins in d) (record { live = after; passed = suc n; due = Nothing }))
  begin-last n live after true delivered = absurd (not-there after delivered)
  begin-last n live after false delivered = refl

  stop-last : (cs : List Change) → EndThenBegin cs → (n : ℕ) (live : List Held) → IsLast n cs (stop_in marks n live cs)
  stop-last [] order n live = λ delivered. absurd (not-there live delivered)
  stop-last (Left ∷ more) order n live =
      end-last kind.Leave refl n live (held_after marks live Left) (Left ∷ more) (stop_in marks (suc n) (held_after marks live Left) more) (stop-last more order (suc n) (held_after marks live Left))
  stop-last (Unwound ∷ more) order n live =
      end-last kind.Unwind refl n live (held_after marks live Unwound) (Unwound ∷ more) (stop_in marks (suc n) (held_after marks live Unwound) more) (stop-last more order (suc n) (held_after marks live Unwound))
  stop-last (Began m ∷ []) order n live = begin-last n live (held_after marks live (Began m)) (is_off (marks m))
  stop-last (Began m ∷ c ∷ more) order n live = absurd order
  stop-last (Loads classes ∷ more) order n live = absurd order

  ordered-last : (cs : List Change) → AreOrdered cs → (n : ℕ) (live : List Held) → IsLast n cs (stop_in marks n live cs)
  ordered-last (Loads classes ∷ more) order n live = stop-last more order (suc n) live
  ordered-last [] order n live = stop-last [] order n live
  ordered-last (Left ∷ more) order n live = stop-last (Left ∷ more) order n live
  ordered-last (Unwound ∷ more) order n live = stop-last (Unwound ∷ more) order n live
  ordered-last (Began m ∷ more) order n live = stop-last (Began m ∷ more) order n live

  from-last : (delivered : Bool) (cs : List Change) → AreOrdered cs → (n : ℕ) (live : List Held) → IsLast n cs (stop_from marks delivered n live cs)
  from-last false cs order n live = ordered-last cs order n live
  from-last true [] order n live = ordered-last [] order n live
  from-last true (c ∷ cs) order n live = stop-last cs (ends-of cs c order) (suc n) (held_after marks live c)

ordered-ends : (cs : List Change) → EndThenBegin cs → AreOrdered cs
ordered-ends [] is = is
ordered-ends (Left ∷ more) is = is
ordered-ends (Unwound ∷ more) is = is
ordered-ends (Began m ∷ more) is = is
ordered-ends (Loads classes ∷ more) is = absurd is

ordered-behind : (a b : List Change) → AreOrdered (a ++ b) → AreOrdered b
ordered-behind [] b order = order
ordered-behind (c ∷ a) b order = ordered-behind a b (ordered-ends (a ++ b) (ends-of (a ++ b) c order))

-- ---- clocks do not fall

pub order-later : (clock : ℕ) (es : List Event) (a b : ℕ) → AreInOrder clock es a → a ≤ b → AreInOrder clock es b
order-later clock [] a b order le = omega (arith, order, le)
order-later clock (e ∷ es) a b order le = (order.0, order-later e.clock es a b order.1 le)

pub order-push : (clock : ℕ) (es : List Event) (e : Event) (a : ℕ) → AreInOrder clock es a → e.clock ≡ a → AreInOrder clock (es ++ e ∷ []) a
order-push clock [] e a order at = (omega (arith, order, at), omega (arith, at))
order-push clock (x ∷ es) e a order at = (order.0, order-push x.clock es e a order.1 at)

pub told-clock : (d : Due) (clock : ℕ) (live : List Held) (e : Event) → told_at d clock live ≡ Some e → e.clock ≡ clock
told-clock Nothing clock live e delivered = absurd (let h : None ≡ Some e = delivered in cc)
told-clock (Ends k) clock [] e delivered = absurd (let h : None ≡ Some e = delivered in cc)
told-clock (Ends k) clock (h ∷ live) e delivered =
    let here : Event = record { kind = k; method = h.method; clock = clock } in
    let inj : Some here ≡ Some e → here ≡ e = λ q. cc in sym (ap (λ (e : Event). e.clock) (inj delivered))
told-clock Begins clock [] e delivered = absurd (let h : None ≡ Some e = delivered in cc)
told-clock Begins clock (h ∷ live) e delivered =
    let here : Event = record { kind = begin_kind h.mark; method = h.method; clock = clock } in
    let inj : Some here ≡ Some e → here ≡ e = λ q. cc in sym (ap (λ (e : Event). e.clock) (inj delivered))

module _ (w : World) (is : IsWhole w.program) (acts : List Act) (from : AreFrom 0 acts) where
  abbrev marking : Marking
  marking = marking_of acts w

  abbrev p : Program
  p = w.program

  -- ---- the loaded classes

  pub told-of : (n : ℕ) → IsTold w (operations_of p) n
  told-of = calls-told w (revealable w is)

  pub loaded-then : (n : ℕ) → (kept_before acts w n).seen.loaded ≡ loaded_before w n
  loaded-then n =
      ap (λ (s : Seen). s.loaded) (kept-seen acts w marking n)
      ∙ ((session-whole w is acts from n).loaded ∙ (marked.stands acts w (operations_of p) from told-of n).loaded)

  loaded-behind : (n : ℕ) (k : Kept) → k ≡ kept_load p n (kept_before acts w n) (loads_of (turn w n).changes) → k.seen.loaded ≡ (run w n).shared.loaded
  loaded-behind n k e =
      let classes = loads_of (turn w n).changes in
      ap (λ (k : Kept). k.seen.loaded) e
      ∙ (ap (λ (s : Seen). s.loaded) (load-seen p n (kept_before acts w n) classes)
      ∙ (ap (λ l. l ++ classes) (loaded-then n) ∙ sym (told-of n).loads))

  -- an event loads none
  events-keep : (es : List Event) (k : Kept) → (fold (kept_event p) k es).seen.loaded ≡ k.seen.loaded
  events-keep [] k = refl
  events-keep (e ∷ es) k = events-keep es (kept_event p k e) ∙ ap (λ (s : Seen). s.loaded) (event-seen p k e)

  -- what is revealed within a step is what the run has loaded behind it, since what is left to be told are events
  pub loaded-in : (es : List Event) (k : Kept) (v : View) → InStep acts w es k v → k.seen.loaded ≡ (run w v.clock).shared.loaded
  loaded-in es k v s =
      let n = v.clock in
      let loaded : Kept = kept_load p n (kept_before acts w n) (loads_of (turn w n).changes) in
      sym (events-keep (events_left v) k) ∙ (ap (λ (k : Kept). k.seen.loaded) s.kept
      ∙ (events-keep (step_events marking w n) loaded ∙ loaded-behind n loaded refl))

  -- ---- a step sets out, behind its load

  record SetsOut (es : List Event) (k : Kept) (v : View) (left : List Change) : Type 0 where
    same : world v ≡ w
    whole : v.broken ≡ false
    going : (m : ℕ) → m < v.clock → is_some (run w m).ending ≡ false
    started : v.started ≡ true
    undelivered : v.delivered ≡ false
    coming : to_come v ≡ left
    lives : v.live ≡ held_in marking (trace_before w v.clock)
    delivered : es ≡ told_before marking w v.clock
    kept : k ≡ kept_load p v.clock (kept_before acts w v.clock) (loads_of (turn w v.clock).changes)
    marks : v.marks ≡ marks_seen p k.seen
    order : AreOrdered left
    tells : (marks : ℕ → Mark) (live : List Held) → changes_told marks v.clock live left ≡ changes_told marks v.clock live (turn w v.clock).changes
    holds : (marks : ℕ → Mark) (live : List Held) → all_held marks live left ≡ all_held marks live (turn w v.clock).changes
    none : (n : ℕ) → v.clock ≤ n → acts_behind n acts ≡ []
    moments : AllByRecursion (λ (a : Act). a.moment ≤ v.clock) acts

  sets-out : (es : List Event) (k : Kept) (v : View) (left : List Change) → SetsOut es k v left → InStep acts w es k v
  sets-out es k v left s =
      let n = v.clock in
      let changes = (turn w n).changes in
      let force : mark_at v.marks ≡ marking n =
      ap mark_at s.marks ∙ in-force w is acts from n k.seen (ap (λ (k : Kept). k.seen) s.kept ∙ load-seen p n (kept_before acts w n) (loads_of changes)) in
      let events : events_left v ≡ step_events marking w n =
      ap₂ (λ b cs. told_from (mark_at v.marks) n b v.live cs) s.undelivered s.coming ∙ (s.tells (mark_at v.marks) v.live ∙ all-events w n marking (mark_at v.marks) v.live force s.lives) in
      let lives : live_then v ≡ held_in marking (trace w n) =
      ap (all_held (mark_at v.marks) v.live) s.coming ∙ (s.holds (mark_at v.marks) v.live ∙ all-lives w n marking (mark_at v.marks) v.live force s.lives) in
      record {
        same = s.same;
        whole = s.whole;
        going = s.going;
        started = s.started;
        kept = ap₂ (λ k es. fold (kept_event p) k es) s.kept events;
        delivered = ap₂ (λ a b. a ++ b) s.delivered events ∙ events-behind marking w n;
        lives = lives;
        marks = s.marks;
        order = subst AreOrdered (sym s.coming) s.order;
        none = s.none;
        moments = s.moments;
      }

  -- ---- a step begins

  clock-up : (v : View) → (v.started ≡ false → v.clock ≡ 0) → v.clock ≤ next_step v
  clock-up v before_the_run = by v.started before_the_run where
    by : (b : Bool) → (b ≡ false → v.clock ≡ 0) → v.clock ≤ (let n : ℕ = if b then v.clock + 1 else 0 in n)
    by true before_the_run = omega arith
    by false before_the_run = let e = before_the_run refl in omega (arith, e)

  none-next : (v : View) → (v.started ≡ false → v.clock ≡ 0) → AllByRecursion (λ (a : Act). a.moment ≤ v.clock) acts → (n : ℕ) → next_step v ≤ n → acts_behind n acts ≡ []
  none-next v before_the_run each n = by v.started before_the_run n where
    by : (b : Bool) → (b ≡ false → v.clock ≡ 0) → (n : ℕ) → (let k : ℕ = if b then v.clock + 1 else 0 in k) ≤ n → acts_behind n acts ≡ []
    by true before_the_run n le = none-behind v.clock n acts each (omega (arith, le))
    by false before_the_run zero le = refl
    by false before_the_run (suc n) le = let e = before_the_run refl in none-behind v.clock (suc n) acts each (omega (arith, e))

  going-next : (es : List Event) (k : Kept) (v : View) → is_resting v ≡ true → IsGoingOn v → AtRest acts w es k v → (m : ℕ) → m < next_step v → is_some (run w m).ending ≡ false
  going-next es k v resting on r m less = by v.started refl less where
    by : (b : Bool) → v.started ≡ b → m < (let n : ℕ = if b then v.clock + 1 else 0 in n) → is_some (run w m).ending ≡ false
    by false e less = absurd (omega (arith, less))
    by true e less = at (m == v.clock) refl where
      now : is_some (run w v.clock).ending ≡ false
      now = ap (λ b. is_some (run b v.clock).ending) (sym r.same)
          ∙ (ap (λ b. is_some (if b then run (world v) v.clock else before (world v)).ending) (sym e) ∙ (ap (λ b. b && has_ended v) (sym resting) ∙ on))

      at : (b : Bool) → (m == v.clock) ≡ b → is_some (run w m).ending ≡ false
      at true same = ap (λ m. is_some (run w m).ending) (eqb-true m v.clock same) ∙ now
      at false other = r.going m (let ne = eqb-false m v.clock other in omega (arith, less, ne))

  begun-is : (v : View) → is_resting v ≡ true → step_begun v ≡ clock_advanced v
  begun-is v e = ap (λ b. let r : View = if b then clock_advanced v else v in r) e

  pub begins : (es : List Event) (k : Kept) (v : View) → AtRest acts w es k v → IsGoingOn v → loads_next (clock_advanced v) ≡ [] → InStep acts w es k (clock_advanced v)
  begins es k v r on none_loaded =
      let n = next_step v in
      let resting = r.resting in
      let changes = (turn w n).changes in
      let parts = and_parts (v.passed == 0) (not v.delivered) resting in
      let coming : to_come (clock_advanced v) ≡ changes = ap₂ (λ a b. drop a (turn b n).changes) (eqb-true v.passed 0 parts.0) r.same in
      let no_loads : loads_of changes ≡ [] = first-of changes (run-ordered w (original w.program) n) ∙ (ap loads_first (sym coming) ∙ none_loaded) in
      sets-out es k (clock_advanced v) changes (record {
        same = r.same;
        whole = r.whole;
        going = going-next es k v resting on r;
        started = refl;
        undelivered = not-true v.delivered parts.1;
        coming = coming;
        lives = r.lives;
        delivered = r.delivered;
        kept = r.kept ∙ ap (kept_load p n (kept_before acts w n)) (sym no_loads);
        marks = r.marks;
        order = run-ordered w (original w.program) n;
        tells = λ marks live. refl;
        holds = λ marks live. refl;
        none = none-next v r.before_the_run r.moments;
        moments = later-moments v.clock n acts r.moments (clock-up v r.before_the_run);
      })

  some-front : (l : List ℕ) → 0 < length l → (c : ℕ) × (more : List ℕ) × (l ≡ c ∷ more)
  some-front [] e = absurd (omega arith)
  some-front (c ∷ more) e = (c, more, refl)

  behind-load : (cs : List Change) (c : ℕ) (more : List ℕ) → AreOrdered cs → loads_first cs ≡ c ∷ more → AreOrdered (drop 1 cs)
  behind-load [] c more order e = absurd (let h : [] ≡ c ∷ more = e in cc)
  behind-load (Loads classes ∷ rest) c more order e = ordered rest order where
    ordered : (cs : List Change) → EndThenBegin cs → AreOrdered cs
    ordered [] is = is
    ordered (Left ∷ more) is = is
    ordered (Unwound ∷ more) is = is
    ordered (Began m ∷ more) is = is
    ordered (Loads classes ∷ more) is = absurd is
  behind-load (Began m ∷ rest) c more order e = absurd (let h : [] ≡ c ∷ more = e in cc)
  behind-load (Left ∷ rest) c more order e = absurd (let h : [] ≡ c ∷ more = e in cc)
  behind-load (Unwound ∷ rest) c more order e = absurd (let h : [] ≡ c ∷ more = e in cc)

  -- classes were loaded, and the images for them are installed
  pub loads : (es : List Event) (k : Kept) (old : View) (classes : List ℕ) (new : View) → AtRest acts w es k old → TellsLoads old classes new
      → let behind : Kept = kept_load p new.clock k classes in InStep acts w es behind (record new { marks = marks_seen p behind.seen })
  loads es k old classes new r is = there new is.stepped where
    n : ℕ
    n = next_step old

    changes : List Change
    changes = (turn w n).changes

    parts : (old.passed ≡ 0) × (old.delivered ≡ false)
    parts = let ps = and_parts (old.passed == 0) (not old.delivered) is.first in (eqb-true old.passed 0 ps.0, not-true old.delivered ps.1)

    coming : to_come (clock_advanced old) ≡ changes
    coming = ap₂ (λ a b. drop a (turn b n).changes) parts.0 r.same

    loaded : loads_first changes ≡ classes
    loaded = ap loads_first (sym coming) ∙ (ap loads_next (sym (begun-is old is.first)) ∙ is.loads)

    at : (new : View) → new ≡ record (clock_advanced old) { passed = 1 }
        → let behind : Kept = kept_load p n k classes in InStep acts w es behind (record (clock_advanced old) { passed = 1; marks = marks_seen p behind.seen })
    at new e =
        let some = some-front classes is.some in
        let first = first-loads changes some.0 some.1 (loaded ∙ some.2) in
        let behind : Kept = kept_load p n k classes in
        sets-out es behind (record (clock_advanced old) { passed = 1; marks = marks_seen p behind.seen }) (drop 1 changes) (record {
          same = r.same;
          whole = r.whole;
          going = going-next es k old is.first is.went_on r;
          started = refl;
          undelivered = parts.1;
          coming = ap (λ w. drop 1 (turn w n).changes) r.same;
          lives = r.lives;
          delivered = r.delivered;
          kept = ap₂ (kept_load p n) r.kept (sym loaded ∙ sym (first-of changes (run-ordered w (original w.program) n)));
          marks = refl;
          order = behind-load changes some.0 some.1 (run-ordered w (original w.program) n) (loaded ∙ some.2);
          tells = λ marks live. (first marks n live).0;
          holds = λ marks live. (first marks n live).1;
          none = none-next old r.before_the_run r.moments;
          moments = later-moments old.clock n acts r.moments (clock-up old r.before_the_run);
        })

    there : (new : View) → new ≡ record (step_begun old) { passed = 1 }
        → let behind : Kept = kept_load p new.clock k classes in InStep acts w es behind (record new { marks = marks_seen p behind.seen })
    there new e =
        let e' : new ≡ record (clock_advanced old) { passed = 1 } = e ∙ ap (λ (v : View). let r : View = record v { passed = 1 } in r) (begun-is old is.first) in
        subst (λ (x : View). let behind : Kept = kept_load p x.clock k classes in InStep acts w es behind (record x { marks = marks_seen p behind.seen })) (sym e') (at new e')

  -- ---- an event

  stays-ordered : (v : View) → AreOrdered (to_come v) → AreOrdered (to_come (step_stopped v))
  stays-ordered v order =
      let is = stop_from-is (mark_at v.marks) v.clock v.delivered v.passed v.live (to_come v) in
      let there : to_come (step_stopped v) ≡ is.more =
      ap (λ n. drop n (turn (world v) v.clock).changes) is.count ∙ drop-passed v.passed is.passed is.more (turn (world v) v.clock).changes is.all in
      subst AreOrdered (sym there) (ordered-behind is.passed is.more (subst AreOrdered is.all order))

  -- nothing is left behind an event that opens a path
  none-left : (v : View) (path : List ℕ) (e : Event) → AreOrdered (to_come v) → next_event v ≡ Some e → opens path e.kind ≡ true → to_come (step_stopped v) ≡ []
  none-left v path e order delivered opening =
      let changes = (turn (world v) v.clock).changes in
      let all = from-last (mark_at v.marks) v.clock path e opening v.delivered (to_come v) order v.passed v.live delivered in
      ap (λ n. drop n changes) all ∙ drop-passed v.passed (to_come v) [] changes (sym (append-nil (to_come v)))

  none-told : (marks : ℕ → Mark) (clock : ℕ) (delivered : Bool) (live : List Held) → told_from marks clock delivered live [] ≡ []
  none-told marks clock true live = refl
  none-told marks clock false live = refl

  goes-on : (es : List Event) (k : Kept) (v : View) (e : Event) (later : Kept) (marks : List Mark) → InStep acts w es k v → next_event v ≡ Some e → later ≡ kept_event p k e
      → marks ≡ marks_seen p later.seen
      → events_left (record (step_stopped v) { marks = marks }) ≡ events_left (step_stopped v) → live_then (record (step_stopped v) { marks = marks }) ≡ live_then (step_stopped v)
      → (new : View) → new ≡ record (step_stopped v) { marks = marks } → InStep acts w (es ++ e ∷ []) later new × (events_left new ≡ events_left (step_stopped v))
  goes-on es k v e later marks s delivered is_later marked events lives new is_new =
      let tells : events_left v ≡ e ∷ events_left (step_stopped v) = stop-tells v e delivered in
      subst (λ (x : View). InStep acts w (es ++ e ∷ []) later x × (events_left x ≡ events_left (step_stopped v))) (sym is_new) (
        record {
          same = s.same;
          whole = s.whole;
          going = s.going;
          started = s.started;
          kept = ap₂ (λ k es. fold (kept_event p) k es) is_later events ∙ (ap (fold (kept_event p) k) (sym tells) ∙ s.kept);
          delivered = ap (λ l. (es ++ e ∷ []) ++ l) events ∙ (append_assoc es (e ∷ []) (events_left (step_stopped v)) ∙ (ap (λ l. es ++ l) (sym tells) ∙ s.delivered));
          lives = lives ∙ (stop-lives v ∙ s.lives);
          marks = marked;
          order = stays-ordered v s.order;
          none = s.none;
          moments = s.moments;
        },
        events,
      )

  -- behind an event that opens a path, with the images installed
  pub opened : (es : List Event) (k : Kept) (v : View) (e : Event) → InStep acts w es k v → next_event v ≡ Some e → opens k.seen.open e.kind ≡ true → (new : View)
      → (let later : Kept = at_point p e.clock k (seen_event k.seen e) in new ≡ record (step_stopped v) { marks = marks_seen p later.seen })
      → InStep acts w (es ++ e ∷ []) (at_point p e.clock k (seen_event k.seen e)) new × (events_left new ≡ events_left (step_stopped v))
  opened es k v e s delivered opening new is_new =
      let later : Kept = at_point p e.clock k (seen_event k.seen e) in
      let marks = marks_seen p later.seen in
      let nothing = none-left v k.seen.open e s.order delivered opening in
      let is_later : later ≡ kept_event p k e = ap (λ b. let r : Kept = if b then later else record k { seen = seen_event k.seen e } in r) (sym opening) in
      goes-on es k v e later marks s delivered is_later refl
      (ap (told_from (mark_at marks) v.clock (step_stopped v).delivered (step_stopped v).live) nothing
      ∙ (none-told (mark_at marks) v.clock (step_stopped v).delivered (step_stopped v).live
      ∙ (sym (none-told (mark_at v.marks) v.clock (step_stopped v).delivered (step_stopped v).live)
      ∙ ap (told_from (mark_at v.marks) v.clock (step_stopped v).delivered (step_stopped v).live) (sym nothing))))
      (ap (all_held (mark_at marks) (step_stopped v).live) nothing ∙ ap (all_held (mark_at v.marks) (step_stopped v).live) (sym nothing))
      new is_new

  -- behind another event
  pub unopened : (es : List Event) (k : Kept) (v : View) (e : Event) → InStep acts w es k v → next_event v ≡ Some e → opens k.seen.open e.kind ≡ false
      → (new : View) → new ≡ step_stopped v → InStep acts w (es ++ e ∷ []) (record k { seen = seen_event k.seen e }) new × (events_left new ≡ events_left (step_stopped v))
  unopened es k v e s delivered shut new is_new =
      let later : Kept = record k { seen = seen_event k.seen e } in
      let is_later : later ≡ kept_event p k e = ap (λ b. let r : Kept = if b then at_point p e.clock k (seen_event k.seen e) else later in r) (sym shut) in
      let entered : (if opens k.seen.open e.kind then with_entered e.method k.seen.entered else k.seen.entered) ≡ k.seen.entered =
      ap (λ b. if b then with_entered e.method k.seen.entered else k.seen.entered) shut in
      let same : marks_seen p k.seen ≡ marks_seen p later.seen = ap (λ l. let r : Seen = record k.seen { entered = l } in marks_seen p r) (sym entered) in
      goes-on es k v e later v.marks s delivered is_later (s.marks ∙ same) refl refl new is_new

  -- ---- the end of a step

  pub settles : (es : List Event) (k : Kept) (v : View) → InStep acts w es k v → (next_stop v).due ≡ Nothing → (new : View)
      → new ≡ record (step_rested v) { marks = marks_seen p (kept_end p v.clock k).seen } → AtRest acts w es (kept_end p v.clock k) new
  settles es k v s nothing new is_new =
      let n = v.clock in
      let none : events_left v ≡ [] = end-tells v nothing in
      let kept_now : k ≡ kept_behind acts w n = ap (fold (kept_event p) k) (sym none) ∙ s.kept in
      let next : next_step (step_rested v) ≡ suc n = ap (λ b. if b then n + 1 else 0) s.started ∙ add-one n in
      let no_acts : acts_behind n acts ≡ [] = s.none n (omega arith) in
      subst (AtRest acts w es (kept_end p n k)) (sym is_new) (record {
        same = s.same;
        resting = refl;
        whole = s.whole;
        going = s.going;
        before_the_run = λ no. absurd (let h : true ≡ false = sym s.started ∙ no in cc);
        kept = ap (kept_end p n) kept_now ∙ (ap (kept_acts p (kept_end p n (kept_behind acts w n))) (sym no_acts) ∙ (sym (kept_by-suc acts w marking n) ∙ ap (kept_before acts w) (sym next)));
        delivered = sym (append-nil es) ∙ (ap (λ l. es ++ l) (sym none) ∙ (s.delivered ∙ ap (told_before marking w) (sym next)));
        lives = end-lives v nothing ∙ (s.lives ∙ ap (λ n. held_in marking (trace_before w n)) (sym next));
        marks = refl;
        moments = s.moments;
      })
