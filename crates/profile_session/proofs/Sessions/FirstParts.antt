-- A session's parts before anything was done.
use Rattle.std.proofs.Common.{◌≡◌, ℕ, ◌+◌, ◌≤◌, ◌<◌, Bool, true, false, List, [], ◌∷◌, ◌++◌, map, length, if◌then◌else◌, refl, sym, ap, ap₂, subst, ◌∙◌, arith}
use Rattle.std.specs.Prelude.{fold}
use Rattle.std.specs.List.{enumerate_from}
use Rattle.jvm_model.specs.declared.event.Mark.{Mark}
use Rattle.jvm_model.specs.declared.event.Mark.TheVariants.{Off}
use Rattle.jvm_model.specs.declared.program.MethodPlace.{MethodPlace}
use Rattle.jvm_model.specs.declared.program.Program.{Program}
use Rattle.jvm_model.specs.declared.state.State.{State}
use Rattle.jvm_model.specs.Soundness.Calls.{AreFrom}
use Rattle.jvm_model.specs.Basis.Data.{World}
use Rattle.jvm_model.specs.Profiling.EventLists.{entries}
use Rattle.jvm_model.specs.Basis.KindNumbers.{user_count}
use Rattle.jvm_model.specs.Classes.Load.{is_among}
use Rattle.jvm_model.specs.Profiling.Points.{has_class, marking_of}
use Rattle.jvm_model.specs.Profiling.Revealed.{Revealed, mark_of, marks_of, with_loaded}
use Rattle.jvm_model.specs.Profiling.Revelation.{IsLoadOrder}
use Rattle.jvm_model.specs.Running.Run.{before, run}
use Rattle.jvm_model.specs.Soundness.Whole.{IsWhole}
use Rattle.jvm_model.proofs.Loading.LoadOrder.{before-order}
use Rattle.jvm_model.proofs.Revealing.Revealable.{revealable}
use Rattle.class_linker.specs.Linkers.{LinkerView}
use Rattle.possible_callees.specs.Tables.{IsPrefix}
use Rattle.call_revelation.specs.declared.reveal.Reveal.{Reveal}
use Rattle.call_revelation.specs.Reveals.{IsAhead, IsRevelation, nothing_revealed, now_of}
use Rattle.jvm_machine.specs.View.{View, machine_made, run_state, world}
use Rattle.context_tree.specs.Counts.{AreInOrder}
use Rattle.context_tree.specs.Profiles.{Profile, blank, calls_of, steps_credited, event_taken}
use Rattle.context_tree.specs.Seen.{first_seen}
use Rattle.event_buffer.specs.Buffers.{Held, empty, last_clock}
use Rattle.profile_session.specs.declared.parts.Parts.{Parts}
use Rattle.profile_session.specs.declared.swap.Swap.{Swap}
use Rattle.profile_session.specs.Beginning.{CanBeProfiled, IsFirst}
use Rattle.profile_session.specs.Keeping.{Kept, first_kept, kept_by-zero, methods_revealed}
use Rattle.profile_session.specs.Parts.{calls_in, kept_in, linking, profile_in, seen_by}
use Rattle.profile_session.specs.Sessions.{Stands}
use Rattle.profile_session.specs.Standing.{AtRest}

-- ---- what is loaded

abbrev loaded-first : View → List ℕ
loaded-first v = (before (world v)).shared.loaded

-- before the start
linked-first : (v : View) → v.started ≡ false → (run_state v).shared.loaded ≡ loaded-first v
linked-first v before_the_run = ap (λ b. (let s : State = if b then run (world v) v.clock else before (world v) in s).shared.loaded) before_the_run

pub root-first : (w : World) → IsWhole w.program → is_among (user_count w.program) (before w).shared.loaded ≡ true
root-first w is =
    let b = is.fit.before in
    let whole = b.whole in
    let within : user_count w.program < length w.program.classes = omega (arith, whole) in
    b.each (user_count w.program) (omega arith) within

pub ahead-first : (v : View) (l : LinkerView) (r : Reveal) → IsWhole v.program → l ≡ linking v → v.started ≡ false → now_of r ≡ nothing_revealed → IsAhead l r
ahead-first v l r is link before_the_run none =
    let loaded : l.loaded ≡ loaded-first v = ap (λ (l : LinkerView). l.loaded) link ∙ linked-first v before_the_run in
    let program : l.program ≡ v.program = ap (λ (l : LinkerView). l.program) link in
    record {
      loaded = λ class among. absurd (let h : false ≡ true = sym (ap (λ (r : Revealed). is_among class r.loaded) none) ∙ among in cc);
      root = ap₂ (λ (p : Program) l. is_among (user_count p) l) program loaded ∙ root-first (world v) is;
    }

pub front-first : (l : List ℕ) (r : Reveal) → now_of r ≡ nothing_revealed → IsPrefix r.lineage.loaded l
front-first l r none = record { rest = l; is = sym (ap (λ xs. xs ++ l) (ap (λ (r : Revealed). r.loaded) none)) }

pub order-first : (v : View) (l : LinkerView) → IsWhole v.program → l ≡ linking v → v.started ≡ false → IsLoadOrder l.program [] l.loaded
order-first v l is link before_the_run =
    let loaded : l.loaded ≡ loaded-first v = ap (λ (l : LinkerView). l.loaded) link ∙ linked-first v before_the_run in
    let program : l.program ≡ v.program = ap (λ (l : LinkerView). l.program) link in
    subst (λ p. IsLoadOrder p [] l.loaded) (sym program) (subst (IsLoadOrder v.program []) (sym loaded) (before-order (world v) (revealable (world v) is).order))

pub first-of : (v : View) (r new last : Reveal) (l : LinkerView) → l ≡ linking v → v.started ≡ false → now_of r ≡ nothing_revealed
    → now_of new ≡ with_loaded l.loaded (now_of r) → IsRevelation v.program last → now_of last ≡ now_of new → last.shown ≡ marks_of v.program (now_of new)
    → IsFirst v last
first-of v r new last l link before_the_run none now rev same shown =
    let loaded : l.loaded ≡ loaded-first v = ap (λ (l : LinkerView). l.loaded) link ∙ linked-first v before_the_run in
    record {
      revelation = rev;
      now = same ∙ (now ∙ ap₂ with_loaded loaded none);
      shown = shown ∙ ap (marks_of v.program) (sym same);
    }

-- ---- at rest

all-off : (p : Program) (r : Revealed) (n : ℕ) (l : List MethodPlace) → ((m : ℕ) → mark_of p r m ≡ Off)
    → map (λ (place : MethodPlace). Off) l ≡ map (λ (e : ℕ × MethodPlace). mark_of p r e.0) (enumerate_from n l)
all-off p r n [] each = refl
all-off p r n (x ∷ l) each = ap₂ (λ (m : Mark) ms. m ∷ ms) (sym (each n)) (all-off p r (n + 1) l each)

none-marked : (p : Program) (loaded : List ℕ) (m : ℕ) → mark_of p (record { selected = []; entered = []; loaded = loaded }) m ≡ Off
none-marked p loaded m = by (has_class p loaded m) where
  by : (b : Bool) → (let r : Mark = if b then Off else Off in r) ≡ Off
  by true = refl
  by false = refl

module _ (p : Program) (input : List ℕ) where
  abbrev v : View
  v = machine_made p input

  abbrev w : World
  w = world v

  first-marks : v.marks ≡ marks_of p (methods_revealed (first_seen w))
  first-marks = all-off p (methods_revealed (first_seen w)) 0 p.methods (none-marked p (before w).shared.loaded)

  first-rests : AtRest [] w [] (first_kept w) v
  first-rests = record {
    same = refl;
    resting = refl;
    whole = refl;
    going = λ m less. absurd (omega (arith, less));
    before_the_run = λ no. refl;
    kept = sym (kept_by-zero [] w (marking_of [] w));
    delivered = refl;
    lives = refl;
    marks = first-marks;
    moments = tt;
  }

pub begun-stands : (x : Parts) → x.vm ≡ machine_made x.vm.program x.vm.input → CanBeProfiled x.vm.program → IsFirst x.vm x.reveal → x.tree ≡ blank → x.buffer ≡ empty 65536 → x.depth ≡ 0
    → x.swaps ≡ [] → x.acts ≡ [] → Stands x
begun-stands x fresh can first tree buffer depth swaps acts =
    let p = x.vm.program in
    let w = world x.vm in
    let clock : x.vm.clock ≡ 0 = ap (λ (v : View). v.clock) fresh in
    let events : x.buffer.events ≡ [] = ap (λ (b : Held). b.events) buffer in
    let profile : profile_in x ≡ blank = ap₂ (λ t es. fold event_taken t es) tree events in
    let calls : calls_in x ≡ 0 = ap₂ (λ (t : Profile) es. calls_of t + entries es) tree events in
    let last : last_clock x.buffer ≡ 0 = ap last_clock buffer in
    let marks : x.vm.marks ≡ x.reveal.shown =
    ap (λ (v : View). v.marks) fresh ∙ (first-marks p x.vm.input ∙ (ap (marks_of p) (sym first.now) ∙ sym first.shown)) in
    let kept : kept_in x ≡ first_kept w =
    ap₂ (λ (r : Revealed) (l : List Swap). let k : Kept = record { seen = seen_by r (profile_in x).open; swaps = l } in k) first.now swaps
    ∙ ap (λ (q : Profile). let k : Kept = record { seen = seen_by (methods_revealed (first_seen w)) q.open; swaps = [] } in k) profile in
    record {
      rests = record {
        is = record {
          fit = record {
            whole = ap (λ (v : View). v.broken) fresh;
            tidy = ap (λ (v : View). v.stale) fresh;
            revelation = first.revelation;
            imageable = can.imageable;
            root = ap (λ (r : Revealed). is_among (user_count p) r.loaded) first.now ∙ root-first w can.whole;
            marks = marks;
            depth = depth ∙ ap (λ (q : Profile). length q.open) (sym profile);
            shallow = omega (arith, depth);
            few = omega (arith, calls);
            order = subst (λ es. AreInOrder x.tree.clock es x.vm.clock) (sym events) (let t = ap (λ (q : Profile). q.clock) tree in omega (arith, t, clock));
            last = omega (arith, last, clock);
            room = subst (λ n. 16 ≤ n) (sym (ap (λ (b : Held). b.capacity) buffer)) (omega arith);
          };
          shown = first.shown;
          whole = can.whole;
          from = subst (AreFrom 0) (sym acts) tt;
        };
        delivered = [];
        are = record { profile = ap (steps_credited x.vm.clock) profile; calls = omega (arith, calls); order = omega (arith, clock) };
        stands = subst (λ l. AtRest l w [] (kept_in x) x.vm) (sym acts)
            (subst (λ k. AtRest [] w [] k x.vm) (sym kept) (subst (λ (v : View). AtRest [] (world v) [] (first_kept (world v)) v) (sym fresh) (first-rests p x.vm.input)));
      };
    }
