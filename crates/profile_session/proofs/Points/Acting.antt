-- An action behind a step, or before the start, changes what is kept as its own point says, and nothing of what was
-- before.
use Rattle.std.proofs.Common.{◌≡◌, ℕ, zero, suc, ◌+◌, ◌<◌, ◌≤◌, Bool, true, false, ◌==◌, List, [], ◌∷◌, ◌++◌, map, Option, Some, None, slice_get, if◌then◌else◌, refl, sym, ap, ap₂, subst, ◌∙◌, arith, add-one}
use Rattle.std.specs.List.{AllByRecursion}
use Rattle.std.specs.Option.{option_map_or}
use Rattle.std.proofs.lemmas.Bool.{ne_eqb, eq-eqb}
use Rattle.jvm_model.specs.declared.event.Act.{Act}
use Rattle.jvm_model.specs.declared.event.Event.{Event}
use Rattle.jvm_model.specs.declared.program.Program.{Program}
use Rattle.jvm_model.specs.Profiling.Activations.{Activation, no_trace, trace, trace_before}
use Rattle.jvm_model.specs.Basis.Data.{World}
use Rattle.jvm_model.specs.Profiling.EventLists.{step_events}
use Rattle.jvm_model.specs.Codes.Originals.{original}
use Rattle.jvm_model.specs.Running.Run.{turn}
use Rattle.jvm_machine.specs.View.{View}
use Rattle.jvm_model.specs.Turns.Told.{Held, held_at, held_in, held_of, nothing_held}
use Rattle.jvm_model.proofs.Events.LaterActs.{AllBegunBy, all_begun-at, trace-all_begun, filter-push, filter-last, same-behind, same-all, same-events, same-marking}
use Rattle.jvm_model.specs.Soundness.Calls.{AreFrom, loads_of}
use Rattle.jvm_model.specs.Profiling.Points.{acts_at, acts_behind, marking_of}
use Rattle.jvm_model.specs.Profiling.Targets.{operations_of}
use Rattle.profile_session.specs.Keeping.{Kept, first_kept, kept_act, kept_acts, kept_before, kept_by-zero, kept_by-suc, kept_end, kept_step, kept_told, marks_seen}
use Rattle.profile_session.specs.Standing.{AtRest, told_before}

fold-last : (p : Program) (k : Kept) (acts : List Act) (x : Act) → kept_acts p k (acts ++ x ∷ []) ≡ kept_act p (kept_acts p k acts) x
fold-last p k [] x = refl
fold-last p k (a ∷ acts) x = fold-last p (kept_act p k a) acts x

pub from-last : (least : ℕ) (acts : List Act) (x : Act) → AreFrom least acts → least ≤ x.moment → AllByRecursion (λ (a : Act). a.moment ≤ x.moment) acts → AreFrom least (acts ++ x ∷ [])
from-last least [] x from le each = (le, tt)
from-last least (a ∷ acts) x from le each = (from.0, from-last a.moment acts x from.1 each.0 each.1)

moments-last : (clock : ℕ) (acts : List Act) (x : Act) → AllByRecursion (λ (a : Act). a.moment ≤ clock) acts → x.moment ≤ clock → AllByRecursion (λ (a : Act). a.moment ≤ clock) (acts ++ x ∷ [])
moments-last clock [] x each le = (le, tt)
moments-last clock (a ∷ acts) x each le = (each.0, moments-last clock acts x each.1 le)

module _ (w : World) (acts : List Act) (x : Act) where
  abbrev with_x : List Act
  with_x = acts ++ x ∷ []

  abbrev p : Program
  p = w.program

  module _ (behind : 1 ≤ x.moment) where
    same-step : (n : ℕ) → n ≤ x.moment → step_events (marking_of with_x w) w n ≡ step_events (marking_of acts w) w n
    same-step zero le = same-all acts x behind w (operations_of p) 0 no_trace (turn w 0).changes le tt
    same-step (suc n) le = same-all acts x behind w (operations_of p) (suc n) (trace w n) (turn w (suc n)).changes le (trace-all_begun w x.moment n (omega (arith, le)))

    same-kept : (n : ℕ) → n ≤ x.moment → kept_before with_x w n ≡ kept_before acts w n
    same-kept zero le =
        kept_by-zero with_x w (marking_of with_x w)
        ∙ (ap (kept_acts p (first_kept w)) (filter-push (λ (act : Act). act.moment == 0) acts x (ne_eqb x.moment 0 (λ same. omega (arith, same, behind))))
        ∙ sym (kept_by-zero acts w (marking_of acts w)))
    same-kept (suc n) le =
        let classes = loads_of (turn w n).changes in
        let less : n < x.moment = omega (arith, le) in
        kept_by-suc with_x w (marking_of with_x w) n
        ∙ (ap (λ k. kept_step p n k classes (step_events (marking_of with_x w) w n) (acts_behind n with_x)) (same-kept n (omega (arith, le)))
        ∙ (ap₂ (λ es todo. kept_step p n (kept_before acts w n) classes es todo) (same-step n (omega (arith, le))) (same-behind acts x behind w (original p) n less)
        ∙ sym (kept_by-suc acts w (marking_of acts w) n)))

    next-kept : (n : ℕ) → x.moment ≡ n → kept_before with_x w (suc n) ≡ kept_act p (kept_before acts w (suc n)) x
    next-kept zero e = absurd (omega (arith, behind, e))
    next-kept (suc j) e =
        let n : ℕ = suc j in
        let le : n ≤ x.moment = omega (arith, e) in
        let classes = loads_of (turn w n).changes in
        let k = kept_before acts w n in
        let events = step_events (marking_of acts w) w n in
        kept_by-suc with_x w (marking_of with_x w) n
        ∙ (ap₂ (λ k es. kept_step p n k classes es (acts_behind n with_x)) (same-kept n le) (same-step n le)
        ∙ (ap (kept_acts p (kept_end p n (kept_told p n k classes events))) (filter-last (λ (act : Act). act.moment == n) acts x (eq-eqb x.moment n e))
        ∙ (fold-last p (kept_end p n (kept_told p n k classes events)) (acts_behind n acts) x
        ∙ ap (λ k. kept_act p k x) (sym (kept_by-suc acts w (marking_of acts w) n)))))

    same-held : (activations : List Activation) (live : List ℕ) → AllBegunBy x.moment activations
        → map (held_at (marking_of with_x w) activations) live ≡ map (held_at (marking_of acts w) activations) live
    same-held activations [] each = refl
    same-held activations (number ∷ live) each = ap₂ (λ (h : Held) l. h ∷ l) (by (slice_get activations number) refl) (same-held activations live each) where
      by : (o : Option Activation) → slice_get activations number ≡ o → option_map_or (held_of (marking_of with_x w)) o nothing_held ≡ option_map_or (held_of (marking_of acts w)) o nothing_held
      by None e = refl
      by (Some a) e = ap (λ mark. let h : Held = record { method = a.method; mark = mark } in h)
          (same-marking acts x behind w (original p) (operations_of p) a.begin a.method (all_begun-at x.moment activations number a each e))

  zero-kept : x.moment ≡ 0 → kept_before with_x w 0 ≡ kept_act p (kept_before acts w 0) x
  zero-kept e =
      kept_by-zero with_x w (marking_of with_x w)
      ∙ (ap (kept_acts p (first_kept w)) (filter-last (λ (act : Act). act.moment == 0) acts x (eq-eqb x.moment 0 e))
      ∙ (fold-last p (first_kept w) (acts_at 0 acts) x ∙ ap (λ k. kept_act p k x) (sym (kept_by-zero acts w (marking_of acts w)))))

  record Same (n : ℕ) : Type 0 where
    kept : kept_before with_x w n ≡ kept_act p (kept_before acts w n) x
    delivered : told_before (marking_of with_x w) w n ≡ told_before (marking_of acts w) w n
    held : held_in (marking_of with_x w) (trace_before w n) ≡ held_in (marking_of acts w) (trace_before w n)

  same-before : (clock : ℕ) (started : Bool) → x.moment ≡ clock → (started ≡ false → clock ≡ 0) → (started ≡ true → 1 ≤ clock) → Same (if started then clock + 1 else 0)
  same-before clock false e before_the_run late = record { kept = zero-kept (e ∙ before_the_run refl); delivered = refl; held = refl }
  same-before clock true e before_the_run late =
      let one = late refl in
      let behind : 1 ≤ x.moment = omega (arith, e, one) in
      subst Same (sym (add-one clock)) (record {
        kept = next-kept behind clock e;
        delivered = same-events acts x behind w (operations_of p) clock (omega (arith, e));
        held = same-held behind (trace w clock).activations (trace w clock).live (trace-all_begun w x.moment clock (omega (arith, e)));
      })

  -- the action is accepted, and the images for it are installed
  pub acted : (es : List Event) (k : Kept) (v : View) → x.moment ≡ v.clock → (v.started ≡ true → 1 ≤ v.clock) → AtRest acts w es k v → (new : View)
      → new ≡ record v { marks = marks_seen p (kept_act p k x).seen } → AtRest with_x w es (kept_act p k x) new
  acted es k v moment late r new is_new =
      let same = same-before v.clock v.started moment r.before_the_run late in
      subst (AtRest with_x w es (kept_act p k x)) (sym is_new) (record {
        same = r.same;
        resting = r.resting;
        whole = r.whole;
        going = r.going;
        before_the_run = r.before_the_run;
        kept = ap (λ k. kept_act p k x) r.kept ∙ sym same.kept;
        delivered = r.delivered ∙ sym same.delivered;
        lives = r.lives ∙ sym same.held;
        marks = refl;
        moments = moments-last v.clock acts x r.moments (omega (arith, moment));
      })
