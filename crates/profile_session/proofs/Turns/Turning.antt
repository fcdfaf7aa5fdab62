-- What stands behind each turn, once the session has done what it asks.
use Rattle.std.proofs.Common.{◌≡◌, ℕ, suc, ◌+◌, ◌<◌, ◌≤◌, Bool, true, false, List, [], ◌∷◌, ◌++◌, length, Some, if◌then◌else◌, refl, sym, ap, ap₂, subst, ◌∙◌, arith}
use Rattle.std.proofs.lemmas.List.{append-nil}
use Rattle.jvm_model.specs.declared.due.Due.TheVariants.{Nothing}
use Rattle.jvm_model.specs.declared.event.Act.{Act}
use Rattle.jvm_model.specs.declared.event.Event.{Event}
use Rattle.jvm_model.specs.declared.program.Program.{Program}
use Rattle.jvm_model.specs.declared.state.State.{State}
use Rattle.jvm_model.specs.Soundness.Calls.{AreFrom}
use Rattle.jvm_model.specs.Basis.Data.{World}
use Rattle.jvm_model.specs.Profiling.EventLists.{entries, entries_by, events_of}
use Rattle.jvm_model.specs.Profiling.Points.{has_class, marking_of, with_entered}
use Rattle.jvm_model.specs.Profiling.Revelation.{IsLoadOrder}
use Rattle.jvm_model.specs.Running.Run.{before, run, turn}
use Rattle.jvm_model.specs.Rewriting.StandsFor.{mark_at}
use Rattle.jvm_model.specs.Profiling.Targets.{operations_of}
use Rattle.jvm_model.specs.Soundness.Whole.{IsWhole}
use Rattle.jvm_model.specs.Soundness.Calls.{methods_before}
use Rattle.jvm_model.proofs.Revealing.Revealable.{revealable, run-order}
use Rattle.jvm_model.proofs.Events.TracesEntries.{entries-append, events_of-entries}
use Rattle.context_tree.specs.Counts.{opens}
use Rattle.context_tree.specs.Seen.{Seen, seen_event}
use Rattle.jvm_machine.specs.declared.turn.Turn.{Turn}
use Rattle.jvm_machine.specs.declared.turn.Turn.TheVariants.{Settled, Loaded, Probe, Ended, Broken, NoMemory}
use Rattle.jvm_machine.specs.Turns.{Tells, TellsLoads, Turns, after_last}
use Rattle.jvm_machine.specs.View.{View, IsGoingOn, run_state, world, clock_advanced, step_begun, is_resting, loads_next, next_stop, next_event, step_stopped, step_rested, to_come, events_left}
use Rattle.profile_session.specs.Keeping.{Kept, at_point, kept_end, kept_event, kept_load, marks_seen}
use Rattle.profile_session.specs.Standing.{AtRest, InStep, AtRestOrInStep, rests, within}
use Rattle.profile_session.specs.Turned.{events_in, is_telling, kept_turned}
use Rattle.profile_session.proofs.Sessions.Begun.{AllBegin, called-begin, drop-begin, from-stop}
use Rattle.profile_session.proofs.Points.Joins.{load-seen}
use Rattle.profile_session.proofs.Turns.Steps.{begins, loaded-in, loads, opened, settles, told-clock, told-of, unopened}
use Rattle.jvm_machine.proofs.Probes.SeenLaws.{stop-tells, stopped-busy}

abbrev pub begun-is : (v : View) → is_resting v ≡ true → step_begun v ≡ clock_advanced v
begun-is v e = ap (λ b. let r : View = if b then clock_advanced v else v in r) e

abbrev pub begun-busy : (v : View) → is_resting v ≡ false → step_begun v ≡ v
begun-busy v e = ap (λ b. let r : View = if b then clock_advanced v else v in r) e

-- where there was a step to make, its end is told of the step
pub last-is : (v : View) → IsGoingOn v → after_last v ≡ step_rested (step_begun v)
last-is v on = ap (λ b. let r : View = if b then v else step_rested (step_begun v) in r) on

module _ (w : World) (is : IsWhole w.program) (acts : List Act) (from : AreFrom 0 acts) where
  abbrev p : Program
  p = w.program

  in-step : (es : List Event) (k : Kept) (v : View) → AtRestOrInStep acts w es k v → IsGoingOn v → loads_next (step_begun v) ≡ [] → InStep acts w es k (step_begun v)
  in-step es k v (rests r) on no_loads =
      let at = begun-is v r.resting in
      subst (InStep acts w es k) (sym at) (begins w is acts from es k v r on (ap loads_next (sym at) ∙ no_loads))
  in-step es k v (within busy s) on no_loads = subst (InStep acts w es k) (sym (begun-busy v busy)) s

  -- within a step one event less is left
  abbrev IsFurther : View → View → Type 0
  IsFurther old new = suc (length (events_left new)) ≡ length (events_left (step_begun old))

  abbrev pub IsBehind : View → Turn → List Event → Kept → View → Type 0
  IsBehind old Settled es k v = AtRest acts w es k v
  IsBehind old Ended es k v = AtRest acts w es k v
  IsBehind old (Loaded classes) es k v = InStep acts w es k v × (is_resting v ≡ false)
  IsBehind old (Probe e) es k v = InStep acts w es k v × (is_resting v ≡ false) × IsFurther old v
  IsBehind old Broken es k v = Unit {0}
  IsBehind old NoMemory es k v = Unit {0}

  -- what is known of an event, and of classes
  pub record IsToldNow (es : List Event) (k : Kept) (e : Event) (mid : View) : Type 0 where
    pub now : e.clock ≡ mid.clock
    pub loaded : k.seen.loaded ≡ (run_state mid).shared.loaded
    pub begun : opens k.seen.open e.kind ≡ true → has_class p k.seen.loaded e.method ≡ true
    pub few : entries es + entries_by e.kind ≤ suc mid.clock

  pub record AreLoadedNow (k : Kept) (classes : List ℕ) (mid : View) : Type 0 where
    pub some : 0 < length classes
    pub loaded : k.seen.loaded ++ classes ≡ (run_state mid).shared.loaded
    pub order : IsLoadOrder p [] (run_state mid).shared.loaded

  abbrev pub Knows : List Event → Kept → Turn → View → Type 0
  Knows es k (Probe e) mid = IsToldNow es k e mid
  Knows es k (Loaded classes) mid = AreLoadedNow k classes mid
  Knows es k _ mid = Unit {0}

  pub record Heard (old : View) (es : List Event) (k : Kept) (turn : Turn) (mid : View) : Type 0 where
    pub knows : Knows es k turn mid
    pub behind : (new : View) → new ≡ record mid { marks = marks_seen p (kept_turned p mid.clock k turn).seen }
        → IsBehind old turn (es ++ events_in turn) (kept_turned p mid.clock k turn) new

  state-then : (v : View) → world v ≡ w → v.started ≡ true → run_state v ≡ run w v.clock
  state-then v same started = ap₂ (λ b w. if b then run w v.clock else before w) started same

  -- the end of a step
  ends-heard : (es : List Event) (k : Kept) (v mid : View) → InStep acts w es k v → (next_stop v).due ≡ Nothing → mid ≡ step_rested v
      → (new : View) → new ≡ record mid { marks = marks_seen p (kept_end p mid.clock k).seen } → AtRest acts w (es ++ []) (kept_end p mid.clock k) new
  ends-heard es k v mid s nothing stepped =
      subst (λ (m : View). (new : View) → new ≡ record m { marks = marks_seen p (kept_end p m.clock k).seen } → AtRest acts w (es ++ []) (kept_end p m.clock k) new) (sym stepped)
      (λ new e. subst (λ es. AtRest acts w es (kept_end p v.clock k) new) (sym (append-nil es)) (settles w is acts from es k v s nothing new e))

  -- an event
  event-heard : (es : List Event) (k : Kept) (v mid : View) (e : Event) → InStep acts w es k v → next_event v ≡ Some e → mid ≡ step_stopped v
      → (new : View) → new ≡ record mid { marks = marks_seen p (kept_event p k e).seen } → InStep acts w (es ++ e ∷ []) (kept_event p k e) new × (events_left new ≡ events_left (step_stopped v))
  event-heard es k v mid e s delivered stepped =
      subst (λ (m : View). (new : View) → new ≡ record m { marks = marks_seen p (kept_event p k e).seen }
      → InStep acts w (es ++ e ∷ []) (kept_event p k e) new × (events_left new ≡ events_left (step_stopped v))) (sym stepped)
      (λ new q. by (opens k.seen.open e.kind) refl new q)
    where
      by : (b : Bool) → opens k.seen.open e.kind ≡ b → (new : View)
          → (let later : Kept = if b then at_point p e.clock k (seen_event k.seen e) else record k { seen = seen_event k.seen e } in
          new ≡ record (step_stopped v) { marks = marks_seen p later.seen })
          → InStep acts w (es ++ e ∷ []) (if b then at_point p e.clock k (seen_event k.seen e) else record k { seen = seen_event k.seen e }) new × (events_left new ≡ events_left (step_stopped v))
      by true opening new is_new = opened w is acts from es k v e s delivered opening new is_new
      by false shut new is_new =
          let entered : (if opens k.seen.open e.kind then with_entered e.method k.seen.entered else k.seen.entered) ≡ k.seen.entered =
          ap (λ b. if b then with_entered e.method k.seen.entered else k.seen.entered) shut in
          let same : marks_seen p (seen_event k.seen e) ≡ v.marks = ap (λ l. let r : Seen = record k.seen { entered = l } in marks_seen p r) entered ∙ sym s.marks in
          unopened w is acts from es k v e s delivered shut new
          (is_new ∙ ap (λ l. let r : View = record (step_stopped v) { marks = l } in r) same)

  -- what is known of it
  fewer : (es : List Event) (k : Kept) (v : View) (e : Event) → InStep acts w es k v → next_event v ≡ Some e → entries es + entries_by e.kind ≤ suc v.clock
  fewer es k v e s delivered =
      let rest : List Event = events_left (step_stopped v) in
      let all : entries es + (entries_by e.kind + entries rest) ≡ entries (events_of (marking_of acts w) w v.clock) =
      sym (entries-append es (e ∷ rest)) ∙ ap entries (ap (λ l. es ++ l) (sym (stop-tells v e delivered)) ∙ s.delivered) in
      let most = events_of-entries (marking_of acts w) w v.clock in
      omega (arith, all, most)

  is-loaded : (es : List Event) (k : Kept) (v : View) (e : Event) → InStep acts w es k v → next_event v ≡ Some e → opens k.seen.open e.kind ≡ true
      → has_class p k.seen.loaded e.method ≡ true
  is-loaded es k v e s delivered opening =
      let n = v.clock in
      let loaded = (run w n).shared.loaded in
      let all : AllBegin (λ m. has_class p loaded m ≡ true) (turn (world v) n).changes =
      subst (λ w. AllBegin (λ m. has_class p loaded m ≡ true) (turn w n).changes) (sym s.same)
      (called-begin p (operations_of p) loaded (methods_before w n) (turn w n).changes (told-of w is acts from n).calls) in
      subst (λ l. has_class p l e.method ≡ true) (sym (loaded-in w is acts from es k v s))
      (from-stop (λ m. has_class p loaded m ≡ true) (mark_at v.marks) n k.seen.open e opening v.delivered (to_come v)
      (drop-begin (λ m. has_class p loaded m ≡ true) v.passed (turn (world v) n).changes all) v.passed v.live delivered)

  load-heard : (es : List Event) (k : Kept) (old mid : View) (classes : List ℕ) → AtRestOrInStep acts w es k old → TellsLoads old classes mid → Heard old es k (Loaded classes) mid
  load-heard es k old mid classes (within busy s) t = absurd (let h : true ≡ false = sym t.first ∙ busy in cc)
  load-heard es k old mid classes (rests r) t =
      let later : Kept = kept_load p mid.clock k classes in
      let there : InStep acts w es later (record mid { marks = marks_seen p later.seen }) = loads w is acts from es k old classes mid r t in
      let state = ap (λ (s : State). s.shared.loaded) (state-then mid there.same there.started) in
      record {
        knows = record {
          some = t.some;
          loaded = sym (ap (λ (s : Seen). s.loaded) (load-seen p mid.clock k classes)) ∙ (loaded-in w is acts from es later (record mid { marks = marks_seen p later.seen }) there ∙ sym state);
          order = subst (IsLoadOrder p []) (sym state) (run-order w (revealable w is) mid.clock);
        };
        behind = λ new e. (
          subst (InStep acts w (es ++ []) later) (sym e) (subst (λ es. InStep acts w es later (record mid { marks = marks_seen p later.seen })) (sym (append-nil es)) there),
          ap is_resting e ∙ ap (λ (v : View). is_resting (record v { marks = marks_seen p later.seen })) t.stepped,
        );
      }

  tell-heard : (es : List Event) (k : Kept) (old mid : View) (e : Event) → AtRestOrInStep acts w es k old → IsGoingOn old → Tells old e mid → Heard old es k (Probe e) mid
  tell-heard es k old mid e stands on t =
      let s = in-step es k old stands on t.loads in
      let v : View = step_begun old in
      let clock : mid.clock ≡ v.clock = ap (λ (v : View). v.clock) t.stepped in
      let state : (run_state mid).shared.loaded ≡ (run w v.clock).shared.loaded =
      ap (λ (v : View). (run_state v).shared.loaded) t.stepped ∙ ap (λ (s : State). s.shared.loaded) (state-then v s.same s.started) in
      record {
        knows = record {
          now = told-clock (next_stop v).due v.clock (next_stop v).live e t.next ∙ sym clock;
          loaded = loaded-in w is acts from es k v s ∙ sym state;
          begun = is-loaded es k v e s t.next;
          few = (let f = fewer es k v e s t.next in omega (arith, f, clock));
        };
        behind = λ new e'.
            let there = event-heard es k v mid e s t.next t.stepped new e' in (
              there.0,
              ap is_resting e' ∙ (ap (λ (v : View). is_resting (record v { marks = marks_seen p (kept_event p k e).seen })) t.stepped ∙ stopped-busy v e t.next),
              ap (λ l. suc (length l)) there.1 ∙ sym (ap length (stop-tells v e t.next)),
            );
      }

  pub turn-heard : (es : List Event) (k : Kept) (old mid : View) (turn : Turn) → AtRestOrInStep acts w es k old → IsGoingOn old → Turns old turn mid → is_telling turn ≡ true
      → Heard old es k turn mid
  turn-heard es k old mid Settled stands on t tells =
      record { knows = tt; behind = ends-heard es k (step_begun old) mid (in-step es k old stands on t.loads) t.all t.stepped }
  turn-heard es k old mid Ended stands on t tells =
      record { knows = tt; behind = ends-heard es k (step_begun old) mid (in-step es k old stands on (t.loads on)) (t.all on) (t.stepped ∙ last-is old on) }
  turn-heard es k old mid (Loaded classes) stands on t tells = load-heard es k old mid classes stands t
  turn-heard es k old mid (Probe e) stands on t tells = tell-heard es k old mid e stands on t
  turn-heard es k old mid Broken stands on t tells = absurd (let h : false ≡ true = tells in cc)
  turn-heard es k old mid NoMemory stands on t tells = absurd (let h : false ≡ true = tells in cc)

-- ---- what stays through a turn

pub record Went (old new : View) : Type 0 where
  pub program : new.program ≡ old.program
  pub input : new.input ≡ old.input
  pub marks : new.marks ≡ old.marks
  pub whole : new.broken ≡ old.broken
  pub tidy : new.stale ≡ old.stale
  pub clock : new.clock ≡ (step_begun old).clock
  pub started : new.started ≡ (step_begun old).started

went-by : (old new x : View) → x.program ≡ (step_begun old).program → x.input ≡ (step_begun old).input → x.marks ≡ (step_begun old).marks → x.broken ≡ (step_begun old).broken
    → x.stale ≡ (step_begun old).stale → x.clock ≡ (step_begun old).clock → x.started ≡ (step_begun old).started → new ≡ x → Went old new
went-by old new x a b c d t e f is =
    subst (Went old) (sym is) (record {
      program = a ∙ by (λ (v : View). v.program) (is_resting old) refl refl;
      input = b ∙ by (λ (v : View). v.input) (is_resting old) refl refl;
      marks = c ∙ by (λ (v : View). v.marks) (is_resting old) refl refl;
      whole = d ∙ by (λ (v : View). v.broken) (is_resting old) refl refl;
      tidy = t ∙ by (λ (v : View). v.stale) (is_resting old) refl refl;
      clock = e;
      started = f;
    })
  where
    by : {A : Type 0} (look : View → A) (b : Bool) → look (clock_advanced old) ≡ look old → look old ≡ look old → look (if b then clock_advanced old else old) ≡ look old
    by look true e f = e
    by look false e f = f

pub turn-went : (old new : View) (turn : Turn) → IsGoingOn old → Turns old turn new → is_telling turn ≡ true → Went old new
turn-went old new Settled on t tells = went-by old new (step_rested (step_begun old)) refl refl refl refl refl refl refl t.stepped
turn-went old new Ended on t tells = went-by old new (step_rested (step_begun old)) refl refl refl refl refl refl refl (t.stepped ∙ last-is old on)
turn-went old new (Loaded classes) on t tells = went-by old new (record (step_begun old) { passed = 1 }) refl refl refl refl refl refl refl t.stepped
turn-went old new (Probe e) on t tells = went-by old new (step_stopped (step_begun old)) refl refl refl refl refl refl refl t.stepped
turn-went old new Broken on t tells = absurd (let h : false ≡ true = tells in cc)
turn-went old new NoMemory on t tells = absurd (let h : false ≡ true = tells in cc)
