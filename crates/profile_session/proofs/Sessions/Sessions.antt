-- What a session's calls owe.
use Rattle.std.proofs.Common.{◌≡◌, ℕ, ◌+◌, ◌≤◌, ◌<◌, Bool, true, false, not, Some, None, List, [], ◌∷◌, ◌++◌, is_some, if◌then◌else◌, refl, sym, ap, ap₂, subst, ◌∙◌, arith, add-one}
use Rattle.std.specs.Prelude.{MatchResult, Result, Ok, Err}
use Rattle.std.specs.List.{AllByRecursion}
use Rattle.jvm_model.specs.declared.event.Act.{Act}
use Rattle.jvm_model.specs.declared.event.Mark.TheVariants.{Off, Plain, Root}
use Rattle.jvm_model.specs.declared.program.Program.{Program}
use Rattle.jvm_model.specs.declared.state.State.{State}
use Rattle.jvm_model.specs.Soundness.Calls.{AreFrom}
use Rattle.jvm_model.specs.Basis.Data.{World}
use Rattle.jvm_model.specs.declared.instruction.Local.{Local}
use Rattle.jvm_model.specs.declared.instruction.Operation.{Operation}
use Rattle.jvm_model.specs.Classes.Load.{is_among}
use Rattle.jvm_model.specs.Codes.Originals.{original}
use Rattle.jvm_model.specs.Profiling.Points.{Standing, has_class, is_target, mark_in, marking_of, nothing, standing_in}
use Rattle.jvm_model.specs.Profiling.Revealed.{mark_of}
use Rattle.jvm_model.specs.Running.Run.{ending_of}
use Rattle.jvm_model.specs.Profiling.Swaps.{points_before}
use Rattle.jvm_model.specs.Soundness.Whole.{IsWhole}
use Rattle.context_tree.specs.Profiles.{Profile, steps_credited, profile_of}
use Rattle.context_tree.specs.Seen.{Matches, seen_act}
use Rattle.context_tree.proofs.Events.Credits.{credits-add}
use Rattle.context_tree.proofs.Projection.Headline.{session-whole, tree-whole}
use Rattle.jvm_machine.specs.View.{View, has_ended, run_state, world}
use Rattle.profile_session.specs.declared.parts.Parts.{Parts}
use Rattle.profile_session.specs.declared.answer.ActError.{ActError}
use Rattle.profile_session.specs.declared.answer.ActError.TheVariants as act
use Rattle.profile_session.specs.Advances.{Makes}
use Rattle.profile_session.specs.Answers.{Accepts, Advances, BreaksOff, Gathers, LendsNoTree, Onward, RefusesAct, RefusesTree, refusal_of, run_by}
use Rattle.profile_session.specs.Keeping.{Kept, at_point, kept_act, kept_before, mark_seen, marks_seen}
use Rattle.profile_session.specs.Parts.{Acts, AreFit, Brings, IsSameRun, calls_in, kept_in, profile_in, revealed_in, seen_by}
use Rattle.profile_session.specs.Sessions.{AreSwapsOf, Holds, IsQuiet, IsTreeOf, LiveRunOn, Profiling, Stands, entries_of, is_over, is_selected_in, mark_in_session, profiling_in, run_of, standing_of, step_of, swaps_of, with_act, world_of}
use Rattle.profile_session.specs.Standing.{AtRest, next_step, told_before}
use Rattle.profile_session.proofs.Points.Acting.{acted, from-last}
use Rattle.profile_session.proofs.Turns.Advancing.{profile-clock, still-of}
use Rattle.profile_session.proofs.Points.Joins.{kept-seen, marks-stand}
use Rattle.profile_session.proofs.Swaps.SwapImages.{swap-images}
use Rattle.profile_session.proofs.Swaps.SwapLists.{swaps-are}

-- the run's state for which the session and its machine stand
pub run-in : (x : Parts) (b g : Bool) → Stands x → run_state x.vm ≡ run_of (profiling_in b g x)
run-in x b g s = refl

pub over-in : (x : Parts) (b g : Bool) → Stands x → has_ended x.vm ≡ is_over (profiling_in b g x)
over-in x b g s = ap (λ (s : State). is_some s.ending) (run-in x b g s)

pub made-stands : (x new : Parts) (steps : ℕ) (ended : Bool) → Makes x steps ended new → Stands new
made-stands x new steps ended m = record { rests = m.rests }

-- what is live runs the version in which it began
pub live-in : (x : Parts) (b g : Bool) → Stands x → LiveRunOn (profiling_in b g x)
live-in x b g s = s.rests.stands.lives

pub made-by : (x new : Parts) (g : Bool) (steps : ℕ) (ended : Bool) → Stands x → is_over (profiling_in false g x) ≡ false → Makes x steps ended new
    → Advances (profiling_in false g x) steps (run_by ended) (profiling_in false false new)
made-by x new g steps ended s going m = by ended m where
  onward : (ended : Bool) → Makes x steps ended new → Onward (profiling_in false g x) steps (profiling_in false false new)
  onward ended m = record {
    same = ap₂ (λ (w : World) b. let v : Profiling = record (profiling_in false false new) { program = w.program; input = w.input; started = b } in v) m.world_is m.started
        ∙ ap₂ (λ acts stale. let v : Profiling = record (profiling_in false false x) { acts = acts; started = true; clock = new.vm.clock; live = new.vm.live; stale = stale } in v) m.acts
        (m.rests.is.fit.tidy ∙ sym s.rests.is.fit.tidy);
    later = m.later;
    within = m.within;
    first = subst (λ w. (k : ℕ) → k < new.vm.clock → is_some (ending_of w k) ≡ false) m.world_is m.rests.stands.going;
    live = live-in new false false (made-stands x new steps ended m);
  }

  over : (ended : Bool) → Makes x steps ended new → is_over (profiling_in false false new) ≡ ended
  over ended m = sym (over-in new false false (made-stands x new steps ended m)) ∙ m.ended_is

  by : (ended : Bool) → Makes x steps ended new → Advances (profiling_in false g x) steps (run_by ended) (profiling_in false false new)
  by true m = record { whole = refl; same = λ is. absurd (let h : true ≡ false = sym is ∙ going in cc); onward = λ no. onward true m; ended = over true m }
  by false m = record { whole = refl; going = going; onward = onward false m; all = m.clock refl; goes_on = over false m }

-- ---- what stands between calls

step-is : (x : Parts) (b g : Bool) → Stands x → next_step x.vm ≡ step_of (profiling_in b g x)
step-is x b g s = refl

kept-is : (x : Parts) (b g : Bool) → Stands x → kept_in x ≡ kept_before x.acts (world x.vm) (step_of (profiling_in b g x))
kept-is x b g s = s.rests.stands.kept ∙ ap (kept_before x.acts (world x.vm)) (step-is x b g s)

matches : (x : Parts) (b g : Bool) → Stands x → Matches x.acts (kept_in x).seen (standing_of (profiling_in b g x))
matches x b g s =
    let w = world x.vm in
    let n = step_of (profiling_in b g x) in
    subst (λ seen. Matches x.acts seen (standing_in x.acts w (original w.program) n))
    (sym (ap (λ (k : Kept). k.seen) (kept-is x b g s) ∙ kept-seen x.acts w (marking_of x.acts w) n)) (session-whole w s.rests.is.whole x.acts s.rests.is.from n)

pub selected-is : (x : Parts) (b g : Bool) (method : ℕ) → Stands x → is_among method x.reveal.selected ≡ is_selected_in (profiling_in b g x) method
selected-is x b g method s = ap (is_among method) (matches x b g s).selected

pub mark-is : (x : Parts) (b g : Bool) (method : ℕ) → Stands x → mark_of x.vm.program (revealed_in x) method ≡ mark_in_session (profiling_in b g x) method
mark-is x b g method s =
    ap (λ (k : Kept). mark_seen x.vm.program k.seen method) (kept-is x b g s)
    ∙ marks-stand (world x.vm) s.rests.is.whole x.acts s.rests.is.from (step_of (profiling_in b g x)) method

-- where it was quiet no method is marked
pub quiet-mark : (p : Program) (code : ℕ → List (Operation Local)) (s : Standing) (method : ℕ) → IsQuiet s → mark_in p code s method ≡ Off
quiet-mark p code s method quiet =
    ap₂ (λ selected entered. if has_class p s.loaded method then (if is_among method selected then Root else if is_target p code s.loaded entered method then Plain else Off) else Off)
    quiet.selected quiet.entered
    ∙ off (has_class p s.loaded method)
  where
    off : (b : Bool) → (if b then (if is_among method [] then Root else if is_target p code s.loaded [] method then Plain else Off) else Off) ≡ Off
    off true = refl
    off false = refl

pub swaps-of : (x : Parts) (b g : Bool) → Stands x → x.swaps ≡ swaps_of (profiling_in b g x)
swaps-of x b g s = ap (λ (k : Kept). k.swaps) (kept-is x b g s) ∙ swaps-are (world x.vm) s.rests.is.whole x.acts s.rests.is.from (step_of (profiling_in b g x))

pub swaps-entries : (x : Parts) (b g : Bool) → Stands x → AreSwapsOf x.vm.program (entries_of (profiling_in b g x)) x.swaps
swaps-entries x b g s =
    let v = profiling_in b g x in
    subst (AreSwapsOf x.vm.program (entries_of v)) (sym (swaps-of x b g s))
    (swap-images x.vm.program s.rests.is.fit.imageable (nothing (world_of v)) (points_before x.acts (world_of v) (original x.vm.program) (step_of v)))

-- ---- the tree with all that was told

pub tree-of : (x new : Parts) (b g : Bool) → Stands x → Brings x new → IsTreeOf (profiling_in b g x) new.tree
tree-of x new b g s brings =
    let r = s.rests in
    let w = world x.vm in
    let m = marking_of x.acts w in
    let delivered : (started : Bool) → x.vm.started ≡ started → r.delivered ≡ told_before m w (if started then x.vm.clock + 1 else 0) =
    λ started e. r.stands.delivered ∙ ap (λ b. told_before m w (if b then x.vm.clock + 1 else 0)) e in
    let tree : new.tree ≡ steps_credited x.vm.clock (profile_of r.delivered) = brings.tree ∙ r.are.profile in
    record {
      before_the_run = λ no. ap (λ (q : Profile). q.contexts) (tree ∙ ap (λ es. steps_credited x.vm.clock (profile_of es)) (delivered false no));
      tree = λ yes.
          ap (λ (q : Profile). q.contexts) (tree ∙ ap (λ es. steps_credited x.vm.clock (profile_of es)) (delivered true yes ∙ ap (told_before m w) (add-one x.vm.clock)))
          ∙ tree-whole w r.is.whole x.acts r.is.from x.vm.clock r.stands.going;
    }

pub brought-stands : (x new : Parts) → Stands x → Brings x new → Stands new
brought-stands x new s b = subst Stands (sym b.same) (there b.same b.profile b.calls b.fit) where
  y : Parts
  y = record x { tree = new.tree; buffer = new.buffer }

  there : new ≡ y → profile_in new ≡ steps_credited x.vm.clock (profile_in x) → calls_in new ≤ calls_in x → AreFit new → Stands y
  there same profile calls fit =
      let r = s.rests in
      let c = x.vm.clock in
      let profile_y : profile_in y ≡ steps_credited c (profile_in x) = sym (ap profile_in same) ∙ profile in
      let calls_y : calls_in y ≤ calls_in x = subst (λ (z : Parts). calls_in z ≤ calls_in x) same calls in
      let twice : steps_credited c (profile_in y) ≡ steps_credited c (profile_in x) = ap (steps_credited c) profile_y ∙ credits-add c c (profile_in x) (profile-clock x r.is.fit) (omega arith) in
      let kept : kept_in x ≡ kept_in y = ap (λ path. let k : Kept = record { seen = seen_by (revealed_in x) path; swaps = x.swaps } in k) (sym (ap (λ (q : Profile). q.open) profile_y)) in
      record {
        rests = record {
          is = record { fit = subst AreFit same fit; shown = r.is.shown; whole = r.is.whole; from = r.is.from };
          delivered = r.delivered;
          are = record { profile = twice ∙ r.are.profile; calls = (let a = r.are.calls in omega (arith, a, calls_y)); order = r.are.order };
          stands = subst (λ k. AtRest x.acts (world x.vm) r.delivered k x.vm) kept r.stands;
        };
      }

pub brought-same : (x new : Parts) (b g : Bool) → Brings x new → profiling_in b g new ≡ profiling_in b g x
brought-same x new b g brings = ap (profiling_in b g) brings.same

pub gathered-holds : (x new : Parts) → Stands x → Brings x new → Holds true new
gathered-holds x new s b = record {
  stands = brought-stands x new s b;
  tree = λ yes. subst (λ v. IsTreeOf v new.tree) (sym (brought-same x new false true b)) (tree-of x new false true s b);
}

-- where it is not gathered, nothing is asked of the tree
pub ungathered : (x : Parts) → Stands x → Holds false x
ungathered x s = record { stands = s; tree = λ no. absurd (let h : false ≡ true = no in cc) }

pub gathers : (x new : Parts) (b g : Bool) → b ≡ false → Brings x new → Gathers (profiling_in b g x) (profiling_in false true new)
gathers x new b g whole brings = record {
  whole = whole;
  same = brought-same x new false true brings ∙ ap (λ b. profiling_in b true x) (sym whole);
}

-- a call that breaks keeps the program and the input
pub make-world : {E : Type 0} (x new : Parts) (steps : ℕ) (r : Result Bool E) → MatchResult r (λ ended. Makes x steps ended new) (λ e. IsSameRun x new) → world new.vm ≡ world x.vm
make-world x new steps (Ok ended) m = m.world_is
make-world x new steps (Err e) m = m

pub act-world : {A E : Type 0} (x new : Parts) (a : Act) (r : Result A E) → MatchResult r (λ ok. Acts x a new) (λ e. IsSameRun x new) → world new.vm ≡ world x.vm
act-world x new a (Ok ok) m = ap world m.vm
act-world x new a (Err e) m = m

pub breaks-off : (x new : Parts) (v : Profiling) (b g h : Bool) → profiling_in b g x ≡ v → v.broken ≡ false → is_over v ≡ false → world new.vm ≡ world x.vm → BreaksOff v (profiling_in true h new)
breaks-off x new v b g h now whole going same = record { breaks = record { whole = whole; broken = refl; same = same ∙ ap world_of now }; going = going }

-- what is lent is of the session before it was gathered
pub shown-before : (v : Profiling) (b : Bool) (t : Profile) → (let q : Profiling = record v { gathered = b } in IsTreeOf q t) → IsTreeOf v t
shown-before v b t is = record { before_the_run = is.before_the_run; tree = is.tree }

pub lends-none : (old new : Profiling) (e : ActError) → RefusesTree old e new → LendsNoTree old e
lends-none old new act.Broken r = r.broken
lends-none old new act.NoMemory r = r.whole
lends-none old new act.AlreadySelected r = r
lends-none old new act.NotSelected r = r
lends-none old new act.Ended r = r

-- ---- an action

pub acted-stands : (x new : Parts) (a : Act) → Stands x → a.moment ≡ x.vm.clock → (x.vm.started ≡ true → 1 ≤ x.vm.clock) → Acts x a new → Stands new
acted-stands x new a s moment late is =
    let r = s.rests in
    let w = world x.vm in
    let world_is : world new.vm ≡ w = ap world is.vm in
    let clock : new.vm.clock ≡ x.vm.clock = ap (λ (v : View). v.clock) is.vm in
    let kept : kept_in new ≡ kept_act x.vm.program (kept_in x) a =
    is.kept ∙ ap (λ n. at_point x.vm.program n (kept_in x) (seen_act (kept_in x).seen a)) (sym moment) in
    let vm : new.vm ≡ record x.vm { marks = marks_seen x.vm.program (kept_act x.vm.program (kept_in x) a).seen } =
    is.vm ∙ ap (λ (k : Kept). let v : View = record x.vm { marks = marks_seen x.vm.program k.seen } in v) kept in
    let stands : AtRest (x.acts ++ a ∷ []) w r.delivered (kept_act x.vm.program (kept_in x) a) new.vm =
    acted w x.acts a r.delivered (kept_in x) x.vm moment late r.stands new.vm vm in
    record {
      rests = record {
        is = record {
          fit = is.fit;
          shown = is.shown;
          whole = subst IsWhole (sym (ap (λ (w : World). w.program) world_is)) r.is.whole;
          from = subst (λ acts. AreFrom 0 acts) (sym is.acts) (from-last 0 x.acts a r.is.from (omega arith) (subst (λ n. AllByRecursion (λ (b : Act). b.moment ≤ n) x.acts) (sym moment) r.stands.moments));
        };
        delivered = r.delivered;
        are = still-of x new r.delivered r.is.fit r.are (omega (arith, clock)) is.profile is.calls;
        stands = subst (λ acts. AtRest acts (world new.vm) r.delivered (kept_in new) new.vm) (sym is.acts)
            (subst (λ w. AtRest (x.acts ++ a ∷ []) w r.delivered (kept_in new) new.vm) (sym world_is)
            (subst (λ k. AtRest (x.acts ++ a ∷ []) w r.delivered k new.vm) (sym kept) stands));
      };
    }

-- ---- which actions are refused

pub refused : (v : Profiling) (select selected : Bool) (method : ℕ) (e : ActError) → v.broken ≡ false → is_over v ≡ false → selected ≡ is_selected_in v method
    → refusal_of select selected ≡ Some e → RefusesAct v select method e v
refused v true true method act.AlreadySelected whole going at is = (refl, record { whole = whole; going = going; is = sym at; same = refl })
refused v false false method act.NotSelected whole going at is = (refl, record { whole = whole; going = going; is = sym at; same = refl })
refused v true true method act.NotSelected whole going at is = absurd (let h : Some act.AlreadySelected ≡ Some act.NotSelected = is in cc)
refused v true true method act.Ended whole going at is = absurd (let h : Some act.AlreadySelected ≡ Some act.Ended = is in cc)
refused v true true method act.Broken whole going at is = absurd (let h : Some act.AlreadySelected ≡ Some act.Broken = is in cc)
refused v true true method act.NoMemory whole going at is = absurd (let h : Some act.AlreadySelected ≡ Some act.NoMemory = is in cc)
refused v false false method act.AlreadySelected whole going at is = absurd (let h : Some act.NotSelected ≡ Some act.AlreadySelected = is in cc)
refused v false false method act.Ended whole going at is = absurd (let h : Some act.NotSelected ≡ Some act.Ended = is in cc)
refused v false false method act.Broken whole going at is = absurd (let h : Some act.NotSelected ≡ Some act.Broken = is in cc)
refused v false false method act.NoMemory whole going at is = absurd (let h : Some act.NotSelected ≡ Some act.NoMemory = is in cc)
refused v true false method e whole going at is = absurd (let h : None ≡ Some e = is in cc)
refused v false true method e whole going at is = absurd (let h : None ≡ Some e = is in cc)

other-is : (select selected : Bool) → refusal_of select selected ≡ None → selected ≡ not select
other-is true false is = refl
other-is false true is = refl
other-is true true is = absurd (let h : Some act.AlreadySelected ≡ None = is in cc)
other-is false false is = absurd (let h : Some act.NotSelected ≡ None = is in cc)

pub accepts : (x new : Parts) (v : Profiling) (g : Bool) (a : Act) → Stands new → profiling_in false g x ≡ v → is_over v ≡ false → a.moment ≡ x.vm.clock → (selected : Bool)
    → selected ≡ is_selected_in v a.method → refusal_of a.select selected ≡ None → Acts x a new → Accepts v a.select a.method (profiling_in false false new)
accepts x new v g a stands now going moment selected at none is = record {
  whole = sym (ap (λ (v : Profiling). v.broken) now);
  going = going;
  other = sym at ∙ other-is a.select selected none;
  same = ap (λ (v : View). let q : Profiling = record (profiling_in false false new) { program = v.program; input = v.input; started = v.started; clock = v.clock; live = v.live; stale = v.stale } in q) is.vm
      ∙ (ap (λ acts. let q : Profiling = record (profiling_in false false x) { acts = acts } in q) is.acts
      ∙ (ap (λ n. let q : Profiling = record (profiling_in false false x) { acts = x.acts ++ record { moment = n; select = a.select; method = a.method } ∷ [] } in q) moment
      ∙ ap (with_act a.select a.method) now));
  live = live-in new false false stands;
}
