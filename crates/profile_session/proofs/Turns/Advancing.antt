-- The parts of a session behind a turn, and behind several steps.
use Rattle.std.proofs.Common.{◌≡◌, ℕ, ◌+◌, ◌<◌, ◌≤◌, Bool, true, false, List, [], ◌∷◌, ◌++◌, length, if◌then◌else◌, refl, sym, ap, ap₂, subst, ◌∙◌, arith}
use Rattle.std.specs.Prelude.{fold}
use Rattle.std.proofs.lemmas.List.{append-nil}
use Rattle.jvm_model.specs.declared.event.Event.{Event}
use Rattle.jvm_model.specs.declared.program.Program.{Program}
use Rattle.jvm_model.specs.Soundness.Calls.{AreFrom}
use Rattle.jvm_model.specs.Basis.Data.{World}
use Rattle.jvm_model.specs.Profiling.EventLists.{entries}
use Rattle.jvm_model.specs.Basis.KindNumbers.{user_count}
use Rattle.jvm_model.specs.Classes.Load.{is_among}
use Rattle.jvm_model.specs.Profiling.Points.{has_class}
use Rattle.jvm_model.specs.Profiling.Revealed.{marks_of}
use Rattle.jvm_model.specs.Profiling.Revelation.{IsLoadOrder}
use Rattle.jvm_model.specs.Soundness.Whole.{IsWhole}
use Rattle.jvm_model.proofs.Events.TracesEntries.{entries-append}
use Rattle.jvm_machine.specs.declared.turn.Turn.{Turn}
use Rattle.jvm_machine.specs.declared.turn.Turn.TheVariants.{Settled, Loaded, Probe, Ended, Broken, NoMemory}
use Rattle.jvm_machine.specs.Turns.{Turns}
use Rattle.jvm_machine.specs.View.{View, IsGoingOn, step_begun, has_ended, is_resting, run_state, world}
use Rattle.call_revelation.specs.Reveals.{IsRevelation}
use Rattle.context_tree.specs.Counts.{AreInOrder, path_after}
use Rattle.context_tree.specs.Profiles.{Profile, blank, steps_credited, profile_of, event_taken, event_told}
use Rattle.context_tree.proofs.Events.Credits.{credits-add}
use Rattle.profile_session.specs.declared.parts.Parts.{Parts}
use Rattle.profile_session.specs.Advances.{After, Stays}
use Rattle.profile_session.specs.Images.{AreImageable}
use Rattle.profile_session.specs.Keeping.{Kept, marks_seen}
use Rattle.profile_session.proofs.Points.Points.{prefix-same}
use Rattle.profile_session.specs.Parts.{AreFit, AreLoadable, AreOf, Hears, IsBusy, IsHearable, IsProfiling, IsTellable, Needs, Rests, calls_in, kept_in, profile_in, revealed_in}
use Rattle.profile_session.specs.Standing.{AtRest, InStep, AtRestOrInStep, rests, within}
use Rattle.profile_session.specs.Turned.{events_in, is_telling, kept_turned}
use Rattle.profile_session.proofs.Turns.Hearing.{open-taken}
use Rattle.profile_session.proofs.Sessions.OpenPaths.{path-entry}
use Rattle.profile_session.proofs.Turns.Steps.{order-later, order-push}
use Rattle.profile_session.proofs.Turns.Telling.{fold-both, taken-clock}
use Rattle.profile_session.proofs.Turns.Turning.{AreLoadedNow, Heard, IsBehind, IsToldNow, Went, begun-is, begun-busy, turn-heard, turn-went}

abbrev StandsIn : Parts → List Event → Type 0
StandsIn x es = AtRestOrInStep x.acts (world x.vm) es (kept_in x) x.vm

pub same-world : (old new : View) → Went old new → world new ≡ world old
same-world old new went = ap₂ (λ p i. let w : World = record { program = p; input = i } in w) went.program went.input

-- ---- the clock does not fall

pub clock-rises : (x : Parts) (es : List Event) (v : View) → StandsIn x es → Went x.vm v → x.vm.clock ≤ v.clock
clock-rises x es v stands went = subst (λ n. x.vm.clock ≤ n) (sym went.clock) (by stands) where
  at_rest : (b : Bool) → (b ≡ false → x.vm.clock ≡ 0) → x.vm.clock ≤ (let n : ℕ = if b then x.vm.clock + 1 else 0 in n)
  at_rest true before_the_run = omega arith
  at_rest false before_the_run = let e = before_the_run refl in omega (arith, e)

  by : StandsIn x es → x.vm.clock ≤ (step_begun x.vm).clock
  by (rests r) = subst (λ (y : View). x.vm.clock ≤ y.clock) (sym (begun-is x.vm r.resting)) (at_rest x.vm.started r.before_the_run)
  by (within busy s) = subst (λ (y : View). x.vm.clock ≤ y.clock) (sym (begun-busy x.vm busy)) (omega arith)

pub fits : (x : Parts) (v : View) → AreFit x → Went x.vm v → x.vm.clock ≤ v.clock → AreFit (record x { vm = v })
fits x v fit went up = record {
  whole = went.whole ∙ fit.whole;
  tidy = went.tidy ∙ fit.tidy;
  revelation = subst (λ p. IsRevelation p x.reveal) (sym went.program) fit.revelation;
  imageable = subst (λ p. AreImageable p) (sym went.program) fit.imageable;
  root = ap (λ (p : Program). is_among (user_count p) x.reveal.lineage.loaded) went.program ∙ fit.root;
  marks = went.marks ∙ fit.marks;
  depth = fit.depth;
  shallow = fit.shallow;
  few = fit.few;
  order = order-later x.tree.clock x.buffer.events x.vm.clock v.clock fit.order up;
  last = (let l = fit.last in omega (arith, l, up));
  room = fit.room;
}

-- ---- the events so far

fold-clock : (p : Profile) (es : List Event) (c : ℕ) → AreInOrder p.clock es c → (fold event_taken p es).clock ≤ c
fold-clock p [] c order = order
fold-clock p (e ∷ es) c order = fold-clock (event_taken p e) es c (subst (λ n. AreInOrder n es c) (sym (taken-clock p e)) order.1)

pub profile-clock : (x : Parts) → AreFit x → (profile_in x).clock ≤ x.vm.clock
profile-clock x fit = fold-clock x.tree x.buffer.events x.vm.clock fit.order

later-credit : (p q : Profile) (c d : ℕ) → p.clock ≤ c → q.clock ≤ c → c ≤ d → steps_credited c p ≡ steps_credited c q → steps_credited d p ≡ steps_credited d q
later-credit p q c d le_p le_q on same = sym (credits-add c d p le_p on) ∙ (ap (steps_credited d) same ∙ credits-add c d q le_q on)

-- what was told stays, up to a later clock
stays-of : (x : Parts) (es : List Event) (d : ℕ) → AreFit x → AreOf x es → x.vm.clock ≤ d → steps_credited d (profile_in x) ≡ steps_credited d (profile_of es)
stays-of x es d fit are on =
    later-credit (profile_in x) (profile_of es) x.vm.clock d (fold-clock x.tree x.buffer.events x.vm.clock fit.order) (fold-clock blank es x.vm.clock are.order) on are.profile

open-of : (x : Parts) (es : List Event) → AreOf x es → (profile_in x).open ≡ (profile_of es).open
open-of x es are = ap (λ (q : Profile). q.open) are.profile

pub still-of : (x new : Parts) (es : List Event) → AreFit x → AreOf x es → x.vm.clock ≤ new.vm.clock → profile_in new ≡ profile_in x → calls_in new ≡ calls_in x → AreOf new es
still-of x new es fit are on same calls = record {
  profile = ap (steps_credited new.vm.clock) same ∙ stays-of x es new.vm.clock fit are on;
  calls = (let c = are.calls in omega (arith, c, calls));
  order = order-later 0 es x.vm.clock new.vm.clock are.order on;
}

are-still : (x new : Parts) (es : List Event) → AreFit x → AreOf x es → x.vm.clock ≤ new.vm.clock → profile_in new ≡ profile_in x → calls_in new ≤ calls_in x + 0 → AreOf new (es ++ [])
are-still x new es fit are on same calls =
    subst (AreOf new) (sym (append-nil es)) (record {
      profile = ap (steps_credited new.vm.clock) same ∙ stays-of x es new.vm.clock fit are on;
      calls = (let c = are.calls in omega (arith, c, calls));
      order = order-later 0 es x.vm.clock new.vm.clock are.order on;
    })

are-told : (x new : Parts) (es : List Event) (e : Event) → AreFit x → AreOf x es → x.vm.clock ≤ new.vm.clock → e.clock ≡ new.vm.clock → profile_in new ≡ event_taken (profile_in x) e
    → calls_in new ≤ calls_in x + entries (e ∷ []) → AreOf new (es ++ e ∷ [])
are-told x new es e fit are on now same calls =
    let d = new.vm.clock in
    let credits : steps_credited e.clock (profile_in x) ≡ steps_credited e.clock (profile_of es) = stays-of x es e.clock fit are (omega (arith, on, now)) in
    let both : event_taken (profile_in x) e ≡ event_taken (profile_of es) e = ap (event_told e.kind e.method) credits in
    let more : entries (es ++ e ∷ []) ≡ entries es + entries (e ∷ []) = entries-append es (e ∷ []) in
    record {
      profile = ap (steps_credited d) (same ∙ (both ∙ sym (fold-both es (e ∷ []) blank)));
      calls = (let c = are.calls in omega (arith, c, calls, more));
      order = order-push 0 es e d (order-later 0 es x.vm.clock d are.order on) now;
    }

-- the open path is no longer than there were entries
path-entries : (path : List ℕ) (es : List Event) → length (fold path_after path es) ≤ length path + entries es
path-entries path [] = omega arith
path-entries path (e ∷ es) = (let rest = path-entries (path_after path e) es in let one = path-entry path e in omega (arith, rest, one))

open-fold : (p : Profile) (es : List Event) → (fold event_taken p es).open ≡ fold path_after p.open es
open-fold p [] = refl
open-fold p (e ∷ es) = open-fold (event_taken p e) es ∙ ap (λ path. fold path_after path es) (open-taken p e)

open-entries : (es : List Event) → length (profile_of es).open ≤ entries es
open-entries es =
    let le = path-entries [] es in
    let same : length (profile_of es).open ≡ length (fold path_after [] es) = ap length (open-fold blank es) in
    omega (arith, le, same)

-- ---- one turn

module _ (x : Parts) (es : List Event) (v : View) (turn : Turn) (is : IsProfiling x) (are : AreOf x es) (stands : StandsIn x es) (on : IsGoingOn x.vm) (t : Turns x.vm turn v)
    (tells : is_telling turn ≡ true) where
  went : Went x.vm v
  went = turn-went x.vm v turn on t tells

  heard : Heard (world x.vm) is.whole x.acts is.from x.vm es (kept_in x) turn v
  heard = turn-heard (world x.vm) is.whole x.acts is.from es (kept_in x) x.vm v turn stands on t tells

  up : x.vm.clock ≤ v.clock
  up = clock-rises x es v stands went

pub needs-told : (x : Parts) (es : List Event) (v : View) (e : Event) → (is : IsProfiling x) → AreOf x es → IsToldNow (world x.vm) is.whole x.acts is.from es (kept_in x) e v
    → v.program ≡ x.vm.program → v.clock < 9223372036854775808 → IsTellable (record x { vm = v }) e
needs-told x es v e is are knows same below =
    let few = knows.few in
    let calls = are.calls in
    let depth : x.depth ≡ length (profile_of es).open = is.fit.depth ∙ ap length (open-of x es are) in
    let path = open-entries es in
    record {
      now = knows.now;
      prefix = prefix-same x.reveal.lineage.loaded (run_state v).shared.loaded knows.loaded;
      begun = λ opening. ap (λ (p : Program). has_class p x.reveal.lineage.loaded e.method) same ∙ knows.begun opening;
      shallow = omega (arith, few, depth, path, below);
      few = omega (arith, few, calls, below);
    }

pub needs-loaded : (x : Parts) (v : View) (classes : List ℕ) → (is : IsProfiling x) → AreLoadedNow (world x.vm) is.whole x.acts is.from (kept_in x) classes v
    → v.program ≡ x.vm.program → AreLoadable (record x { vm = v }) classes
needs-loaded x v classes is knows same = record {
  some = knows.some;
  loaded = knows.loaded;
  order = subst (λ p. IsLoadOrder p [] (run_state v).shared.loaded) (sym same) knows.order;
}

pub hearable : (x : Parts) (es : List Event) (v : View) (turn : Turn) → (is : IsProfiling x) → AreOf x es → StandsIn x es → IsGoingOn x.vm → Turns x.vm turn v → is_telling turn ≡ true
    → v.clock < 9223372036854775808 → IsHearable (record x { vm = v }) turn
hearable x es v turn is are stands on t tells below =
    let w = went x es v turn is are stands on t tells in
    record {
      fit = fits x v is.fit w (up x es v turn is are stands on t tells);
      shown = is.shown ∙ ap (λ p. marks_of p (revealed_in x)) (sym w.program);
      needs = by turn t tells;
    }
  where
    by : (turn : Turn) → Turns x.vm turn v → is_telling turn ≡ true → Needs (record x { vm = v }) turn
    by Settled t tells = tt
    by Ended t tells = tt
    by (Loaded classes) t tells =
        needs-loaded x v classes is (heard x es v (Loaded classes) is are stands on t tells).knows (went x es v (Loaded classes) is are stands on t tells).program
    by (Probe e) t tells = needs-told x es v e is are (heard x es v (Probe e) is are stands on t tells).knows (went x es v (Probe e) is are stands on t tells).program below
    by Broken t tells = tt
    by NoMemory t tells = tt

stays-by : (x new : Parts) (v : View) (turn : Turn) → Went x.vm v → Hears (record x { vm = v }) turn new → Stays x new
stays-by x new v turn went h = record { world_is = ap world h.vm ∙ same-world x.vm v went; acts = h.acts }

profiling-by : (x new : Parts) (v : View) (turn : Turn) → IsProfiling x → Went x.vm v → Hears (record x { vm = v }) turn new → IsProfiling new
profiling-by x new v turn is went h =
    let s = stays-by x new v turn went h in
    record {
      fit = h.fit;
      shown = h.shown;
      whole = subst IsWhole (sym (ap (λ (w : World). w.program) s.world_is)) is.whole;
      from = subst (AreFrom 0) (sym s.acts) is.from;
    }

-- what stands behind it, of the new parts
module _ (x new : Parts) (es : List Event) (v : View) (turn : Turn) (is : IsProfiling x) (are : AreOf x es) (stands : StandsIn x es) (on : IsGoingOn x.vm) (t : Turns x.vm turn v)
    (tells : is_telling turn ≡ true) (h : Hears (record x { vm = v }) turn new) where
  goes : Went x.vm v
  goes = went x es v turn is are stands on t tells

  kept_is : kept_in new ≡ kept_turned x.vm.program v.clock (kept_in x) turn
  kept_is = h.kept ∙ ap (λ p. kept_turned p v.clock (kept_in x) turn) goes.program

  there : IsBehind (world x.vm) is.whole x.acts is.from x.vm turn (es ++ events_in turn) (kept_turned x.vm.program v.clock (kept_in x) turn) new.vm
  there =
      (heard x es v turn is are stands on t tells).behind new.vm
      (h.vm ∙ ap₂ (λ p (k : Kept). let y : View = record v { marks = marks_seen p k.seen } in y) goes.program kept_is)

  s : Stays x new
  s = stays-by x new v turn goes h

  clock_now : new.vm.clock ≡ v.clock
  clock_now = ap (λ (y : View). y.clock) h.vm

  rises : x.vm.clock ≤ new.vm.clock
  rises = subst (λ n. x.vm.clock ≤ n) (sym clock_now) (up x es v turn is are stands on t tells)

  rests-there : AreOf new (es ++ events_in turn) → AtRest x.acts (world x.vm) (es ++ events_in turn) (kept_turned x.vm.program v.clock (kept_in x) turn) new.vm → Rests new
  rests-there of r = record {
    is = profiling-by x new v turn is goes h;
    delivered = es ++ events_in turn;
    are = of;
    stands = subst (λ acts. AtRest acts (world new.vm) (es ++ events_in turn) (kept_in new) new.vm) (sym s.acts)
        (subst (λ w. AtRest x.acts w (es ++ events_in turn) (kept_in new) new.vm) (sym s.world_is)
        (subst (λ k. AtRest x.acts (world x.vm) (es ++ events_in turn) k new.vm) (sym kept_is) r));
  }

  busy-there : AreOf new (es ++ events_in turn) → InStep x.acts (world x.vm) (es ++ events_in turn) (kept_turned x.vm.program v.clock (kept_in x) turn) new.vm → is_resting new.vm ≡ false → IsBusy new
  busy-there of r busy = record {
    is = profiling-by x new v turn is goes h;
    busy = busy;
    delivered = es ++ events_in turn;
    are = of;
    stands = subst (λ acts. InStep acts (world new.vm) (es ++ events_in turn) (kept_in new) new.vm) (sym s.acts)
        (subst (λ w. InStep x.acts w (es ++ events_in turn) (kept_in new) new.vm) (sym s.world_is)
        (subst (λ k. InStep x.acts (world x.vm) (es ++ events_in turn) k new.vm) (sym kept_is) r));
  }

  clock_is : new.vm.clock ≡ (step_begun x.vm).clock
  clock_is = clock_now ∙ goes.clock

  ended_as : (b : Bool) → has_ended v ≡ b → has_ended new.vm ≡ b
  ended_as b e = ap has_ended h.vm ∙ e

  begun-started : StandsIn x es → (step_begun x.vm).started ≡ true
  begun-started (rests r) = ap (λ (y : View). y.started) (begun-is x.vm r.resting)
  begun-started (within busy i) = ap (λ (y : View). y.started) (begun-busy x.vm busy) ∙ i.started

  started_is : new.vm.started ≡ true
  started_is = ap (λ (y : View). y.started) h.vm ∙ (goes.started ∙ begun-started stands)

pub after : (x new : Parts) (es : List Event) (v : View) (turn : Turn) → (is : IsProfiling x) → AreOf x es → StandsIn x es → IsGoingOn x.vm → Turns x.vm turn v → is_telling turn ≡ true
    → Hears (record x { vm = v }) turn new → After x turn new
after x new es v Settled is are stands on t tells h = record {
  stays = s x new es v Settled is are stands on t tells h;
  rests = rests-there x new es v Settled is are stands on t tells h
      (are-still x new es is.fit are (rises x new es v Settled is are stands on t tells h) h.profile h.calls) (there x new es v Settled is are stands on t tells h);
  ended_is = ended_as x new es v Settled is are stands on t tells h false t.goes_on;
  clock = clock_is x new es v Settled is are stands on t tells h;
  started = started_is x new es v Settled is are stands on t tells h;
}
after x new es v Ended is are stands on t tells h = record {
  stays = s x new es v Ended is are stands on t tells h;
  rests = rests-there x new es v Ended is are stands on t tells h
      (are-still x new es is.fit are (rises x new es v Ended is are stands on t tells h) h.profile h.calls) (there x new es v Ended is are stands on t tells h);
  ended_is = ended_as x new es v Ended is are stands on t tells h true t.ended;
  clock = clock_is x new es v Ended is are stands on t tells h;
  started = started_is x new es v Ended is are stands on t tells h;
}
after x new es v (Loaded classes) is are stands on t tells h =
    let turn : Turn = Loaded classes in
    let both = there x new es v turn is are stands on t tells h in
    record {
      goes = record {
        stays = s x new es v turn is are stands on t tells h;
        busy = busy-there x new es v turn is are stands on t tells h
            (are-still x new es is.fit are (rises x new es v turn is are stands on t tells h) h.profile h.calls) both.0 both.1;
        clock = clock_is x new es v turn is are stands on t tells h;
      };
      first = t.first;
    }
after x new es v (Probe e) is are stands on t tells h =
    let turn : Turn = Probe e in
    let all = there x new es v turn is are stands on t tells h in
    let now = (heard x es v turn is are stands on t tells).knows.now ∙ sym (clock_now x new es v turn is are stands on t tells h) in
    record {
      goes = record {
        stays = s x new es v turn is are stands on t tells h;
        busy = busy-there x new es v turn is are stands on t tells h
            (are-told x new es e is.fit are (rises x new es v turn is are stands on t tells h) now h.profile h.calls) all.0 all.1;
        clock = clock_is x new es v turn is are stands on t tells h;
      };
      fewer = all.2;
    }
after x new es v Broken is are stands on t tells h = absurd (let q : false ≡ true = tells in cc)
after x new es v NoMemory is are stands on t tells h = absurd (let q : false ≡ true = tells in cc)
