-- What a session does behind a turn is what the turn asks.
use Rattle.std.proofs.Common.{◌≡◌, ℕ, ◌+◌, ◌≤◌, Bool, true, false, List, [], ◌∷◌, ◌++◌, if◌then◌else◌, refl, sym, ap, ap₂, subst, ◌∙◌, arith}
use Rattle.std.specs.Prelude.{Result, Ok, Err, MatchResult}
use Rattle.jvm_model.specs.declared.event.Event.{Event}
use Rattle.jvm_model.specs.declared.event.EventKind.{EventKind}
use Rattle.jvm_model.specs.declared.event.EventKind.TheVariants.{Root, Enter, Leave, Unwind}
use Rattle.jvm_model.specs.declared.event.Mark.{Mark}
use Rattle.jvm_model.specs.Profiling.EventLists.{entries_by}
use Rattle.jvm_model.specs.Profiling.Paths.{is_outside}
use Rattle.jvm_model.specs.Profiling.Points.{with_entered}
use Rattle.jvm_model.specs.Profiling.Revealed.{Revealed, marks_of, with_loaded, with_method_entered, with_none_entered}
use Rattle.jvm_machine.specs.declared.turn.Turn.TheVariants.{Settled, Loaded, Probe, Ended}
use Rattle.jvm_machine.specs.View.{View}
use Rattle.context_tree.specs.Counts.{opens, path_after}
use Rattle.context_tree.specs.Profiles.{Profile, steps_credited, path_opened, event_taken, event_told}
use Rattle.context_tree.specs.Seen.{Seen, seen_event}
use Rattle.event_buffer.specs.Buffers.{Held}
use Rattle.profile_session.specs.declared.parts.Parts.{Parts}
use Rattle.profile_session.specs.Keeping.{Kept, at_point, is_idle, kept_load}
use Rattle.profile_session.specs.Parts.{AreFit, AreLoadable, AreShown, CanLoad, Hears, IsPoint, Takes, calls_in, kept_in, loaded_in, profile_in, revealed_in, seen_by}

-- ---- the open path of a profile

pub open-taken : (p : Profile) (e : Event) → (event_taken p e).open ≡ path_after p.open e
open-taken p e = by e.kind where
  either : (b : Bool) → (let q : Profile = if b then steps_credited e.clock p else path_opened e.method (steps_credited e.clock p) in q).open ≡ (if b then p.open else p.open ++ e.method ∷ [])
  either true = refl
  either false = refl

  by : (k : EventKind) → (event_told k e.method (steps_credited e.clock p)).open ≡ path_after p.open (record e { kind = k })
  by Root = refl
  by Enter = either (is_outside p.open)
  by Leave = refl
  by Unwind = refl

-- ---- classes

pub can-load : (x : Parts) (classes : List ℕ) → AreLoadable x classes → CanLoad x
can-load x classes is = record { prefix = record { rest = classes; is = sym is.loaded }; order = is.order }

kept-loaded : (x : Parts) (classes : List ℕ) → AreLoadable x classes
    → at_point x.vm.program x.vm.clock (kept_in x) (seen_by (with_loaded (loaded_in x) (revealed_in x)) (profile_in x).open) ≡ kept_load x.vm.program x.vm.clock (kept_in x) classes
kept-loaded x [] is = absurd (let h = is.some in omega (arith, h))
kept-loaded x (c ∷ more) is =
    ap (λ loaded. at_point x.vm.program x.vm.clock (kept_in x) (seen_by (with_loaded loaded (revealed_in x)) (profile_in x).open)) (sym is.loaded)

pub hears-load : (x new : Parts) (classes : List ℕ) → AreLoadable x classes → IsPoint x (with_loaded (loaded_in x) (revealed_in x)) new → Hears x (Loaded classes) new
hears-load x new classes is n = record {
  kept = n.kept ∙ kept-loaded x classes is;
  profile = n.profile;
  calls = (let c = n.calls in omega (arith, c));
  vm = n.vm ∙ ap (λ r. let v : View = record x.vm { marks = marks_of x.vm.program r } in v) (sym n.now);
  fit = n.fit;
  shown = n.shown;
  acts = n.acts;
}

-- ---- the end of a step

pub hears-quiet : (x new : Parts) → is_idle (kept_in x).seen ≡ true → IsPoint x (with_none_entered (revealed_in x)) new → Hears x Settled new
hears-quiet x new idle n =
    let p = x.vm.program in
    let k = kept_in x in
    let later : Kept = at_point p x.vm.clock k (record k.seen { entered = [] }) in
    record {
      kept = n.kept ∙ ap (λ b. let r : Kept = if b then later else k in r) (sym idle);
      profile = n.profile;
      calls = (let c = n.calls in omega (arith, c));
      vm = n.vm ∙ ap (λ r. let v : View = record x.vm { marks = marks_of x.vm.program r } in v) (sym n.now);
      fit = n.fit;
      shown = n.shown;
      acts = n.acts;
    }

-- nothing has changed of the marks
same-marks : (x : Parts) → AreFit x → AreShown x → x.vm ≡ record x.vm { marks = marks_of x.vm.program (revealed_in x) }
same-marks x fit shown = ap (λ (l : List Mark). let v : View = record x.vm { marks = l } in v) (fit.marks ∙ shown)

pub hears-still : (x : Parts) → AreFit x → AreShown x → is_idle (kept_in x).seen ≡ false → Hears x Settled x
hears-still x fit shown idle =
    let p = x.vm.program in
    let k = kept_in x in
    let later : Kept = at_point p x.vm.clock k (record k.seen { entered = [] }) in
    record {
      kept = ap (λ b. let r : Kept = if b then later else k in r) (sym idle);
      profile = refl;
      calls = omega arith;
      vm = same-marks x fit shown;
      fit = fit;
      shown = shown;
      acts = refl;
    }

pub hears-ended : (x new : Parts) → Hears x Settled new → Hears x Ended new
hears-ended x new h = record { kept = h.kept; profile = h.profile; calls = h.calls; vm = h.vm; fit = h.fit; shown = h.shown; acts = h.acts }

pub ended-by : {A E : Type 0} (r : Result A E) (Q : E → Type 0) (x new : Parts) → MatchResult r (λ a. Hears x Settled new) Q → MatchResult r (λ a. Hears x Ended new) Q
ended-by (Ok a) Q x new h = hears-ended x new h
ended-by (Err e) Q x new h = h

-- ---- an event

module _ (x : Parts) (e : Event) (t : Profile) (b : Held) (d : ℕ) where
  abbrev y : Parts
  y = record x { tree = t; buffer = b; depth = d }

  abbrev k : Kept
  k = kept_in x

  abbrev later : Kept
  later = at_point x.vm.program e.clock k (seen_event k.seen e)

  abbrev still : Kept
  still = record k { seen = seen_event k.seen e }

  opened-path : profile_in y ≡ event_taken (profile_in x) e → (profile_in y).open ≡ path_after (profile_in x).open e
  opened-path is = ap (λ (q : Profile). q.open) is ∙ open-taken (profile_in x) e

  entered-in : (opening : Bool) → opens (profile_in x).open e.kind ≡ opening
      → (let entered : List ℕ = if opening then with_entered e.method x.reveal.entered else x.reveal.entered in
      seen_event k.seen e ≡ record (seen_by (revealed_in x) (path_after (profile_in x).open e)) { entered = entered })
  entered-in opening is =
      ap (λ b. let s : Seen = record k.seen { entered = if b then with_entered e.method x.reveal.entered else x.reveal.entered; «open» = path_after (profile_in x).open e } in s) is

  -- that opens a path
  hears-opening : (new : Parts) → e.clock ≡ x.vm.clock → opens (profile_in x).open e.kind ≡ true → profile_in y ≡ event_taken (profile_in x) e → calls_in y ≤ calls_in x + entries_by e.kind
      → IsPoint y (with_method_entered e.method (revealed_in x)) new → Hears x (Probe e) new
  hears-opening new now opening profile calls n =
      let p = x.vm.program in
      let r : Revealed = with_method_entered e.method (revealed_in x) in
      let seen : seen_by r (profile_in y).open ≡ seen_event k.seen e = ap (seen_by r) (opened-path profile) ∙ sym (entered-in true opening) in
      record {
        kept = n.kept ∙ (ap₂ (λ clock s. at_point p clock k s) (sym now) seen ∙ ap (λ b. let q : Kept = if b then later else still in q) (sym opening));
        profile = n.profile ∙ profile;
        calls = (let c = n.calls in omega (arith, c, calls));
        vm = n.vm ∙ ap (λ r. let v : View = record x.vm { marks = marks_of p r } in v) (sym n.now);
        fit = n.fit;
        shown = n.shown;
        acts = n.acts;
      }

  -- and another one
  hears-another : AreFit y → AreShown x → opens (profile_in x).open e.kind ≡ false → profile_in y ≡ event_taken (profile_in x) e → calls_in y ≤ calls_in x + entries_by e.kind → Hears x (Probe e) y
  hears-another fit shown shut profile calls =
      let seen : seen_by (revealed_in x) (profile_in y).open ≡ seen_event k.seen e = ap (seen_by (revealed_in x)) (opened-path profile) ∙ sym (entered-in false shut) in
      record {
        kept = ap (λ s. let q : Kept = record k { seen = s } in q) seen ∙ ap (λ b. let q : Kept = if b then later else still in q) (sym shut);
        profile = profile;
        calls = (let c = calls in omega (arith, c));
        vm = same-marks y fit shown;
        fit = fit;
        shown = shown;
        acts = refl;
      }

pub hears-open : (x y new : Parts) (e : Event) → Takes x e y → e.clock ≡ x.vm.clock → opens (profile_in x).open e.kind ≡ true
    → IsPoint y (with_method_entered e.method (revealed_in y)) new → Hears x (Probe e) new
hears-open x y new e t now opening n = there y t.same t.profile t.calls n where
  there : (z : Parts) → z ≡ record x { tree = y.tree; buffer = y.buffer; depth = y.depth } → profile_in z ≡ event_taken (profile_in x) e → calls_in z ≤ calls_in x + entries_by e.kind
      → IsPoint z (with_method_entered e.method (revealed_in z)) new → Hears x (Probe e) new
  there z same profile calls n =
      hears-opening x e y.tree y.buffer y.depth new now opening (subst (λ (z : Parts). profile_in z ≡ event_taken (profile_in x) e) same profile)
      (subst (λ (z : Parts). calls_in z ≤ calls_in x + entries_by e.kind) same calls) (subst (λ (z : Parts). IsPoint z (with_method_entered e.method (revealed_in z)) new) same n)

pub hears-shut : (x y : Parts) (e : Event) → AreShown x → Takes x e y → opens (profile_in x).open e.kind ≡ false → Hears x (Probe e) y
hears-shut x y e shown t shut = subst (Hears x (Probe e)) (sym t.same) (there y t.same t.profile t.calls t.fit) where
  there : (z : Parts) → z ≡ record x { tree = y.tree; buffer = y.buffer; depth = y.depth } → profile_in z ≡ event_taken (profile_in x) e → calls_in z ≤ calls_in x + entries_by e.kind → AreFit z
      → Hears x (Probe e) (record x { tree = y.tree; buffer = y.buffer; depth = y.depth })
  there z same profile calls fit =
      hears-another x e y.tree y.buffer y.depth (subst AreFit same fit) shown shut (subst (λ (z : Parts). profile_in z ≡ event_taken (profile_in x) e) same profile)
      (subst (λ (z : Parts). calls_in z ≤ calls_in x + entries_by e.kind) same calls)
