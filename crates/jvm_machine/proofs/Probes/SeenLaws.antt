-- The turns of a step together are the step: each event that is told is the next one, none is left at the end, and the
-- live activations are those after the step; with a marking that gives the versions' marks these are the events of the
-- event list.
use Rattle.std.proofs.Common.{◌≡◌, ℕ, zero, suc, List, [], ◌∷◌, drop, false, None, Some, refl, sym, ap, ap₂, ◌∙◌}
use Rattle.std.specs.Prelude.{not, ◌==◌, ◌&&◌}
use Rattle.std.specs.Option.{option_map_or}
use Rattle.std.proofs.Math.Bool.{and-false}
use Rattle.jvm_model.specs.declared.event.Event.{Event}
use Rattle.jvm_model.specs.declared.event.Mark.{Mark}
use Rattle.jvm_model.specs.Basis.Data.{Change, Loads, Began, Left, Unwound, World}
use Rattle.jvm_model.specs.Profiling.Activations.{all_changed, trace, trace_before, trace_in-suc, trace_in-zero}
use Rattle.jvm_model.specs.Profiling.EventLists.{Marking, step_events}
use Rattle.jvm_model.specs.Codes.Originals.{original}
use Rattle.jvm_model.specs.Running.Run.{turn}
use Rattle.jvm_model.specs.Rewriting.StandsFor.{mark_at}
use Rattle.jvm_model.specs.Turns.Told.{Held, held_in, all_held, changes_told}
use Rattle.jvm_model.specs.declared.due.Due.{Due}
use Rattle.jvm_model.specs.declared.due.Due.TheVariants.{Begins, Ends, Nothing}
use Rattle.jvm_model.specs.Turns.Pauses.{Stop, told_at, told_from, is_end, IsStop}
use Rattle.jvm_model.specs.Turns.Rest.{loads_first}
use Rattle.jvm_machine.specs.Turns.{Settles, Tells}
use Rattle.jvm_machine.specs.View.{View, step_begun, events_left, is_resting, live_then, next_event, next_stop, step_stopped, to_come, world}
use Rattle.jvm_machine.proofs.Steps.Going.{stop-begins}
use Rattle.jvm_model.proofs.Turns.Stops.{stop_from-is}
use Rattle.jvm_model.proofs.Events.Traces.{IsTrace, no_trace-is, trace_in-is}
use Rattle.jvm_model.proofs.Events.ToldTraces.{all_changed-held, all-told}
use Rattle.jvm_model.proofs.Turns.GoesOn.{drop-passed}

at-stop : (v : View) → IsStop (mark_at v.marks) v.clock v.passed v.delivered v.live (to_come v) (next_stop v)
at-stop v = stop_from-is (mark_at v.marks) v.clock v.delivered v.passed v.live (to_come v)

-- what is left behind a stop
left-there : (v : View) → to_come (step_stopped v) ≡ (at-stop v).more
left-there v =
    let is = at-stop v in
    ap (λ n. drop n (turn (world v) v.clock).changes) is.count ∙ drop-passed v.passed is.passed is.more (turn (world v) v.clock).changes is.all

pub stop-tells : (v : View) (e : Event) → next_event v ≡ Some e → events_left v ≡ e ∷ events_left (step_stopped v)
stop-tells v e delivered =
    let is = at-stop v in
    let s : Stop = next_stop v in
    is.tells
    ∙ (ap (λ o. option_map_or (λ e. e ∷ told_from (mark_at v.marks) v.clock (is_end s.due) s.live is.more) o []) delivered
    ∙ ap (λ more. e ∷ told_from (mark_at v.marks) v.clock (is_end s.due) s.live more) (sym (left-there v)))

pub stop-lives : (v : View) → live_then (step_stopped v) ≡ live_then v
stop-lives v = ap (all_held (mark_at v.marks) (next_stop v).live) (left-there v) ∙ (at-stop v).lives

pub end-tells : (v : View) → (next_stop v).due ≡ Nothing → events_left v ≡ []
end-tells v nothing =
    let is = at-stop v in
    let s : Stop = next_stop v in
    is.tells ∙ ap (λ d. option_map_or (λ e. e ∷ told_from (mark_at v.marks) v.clock (is_end s.due) s.live is.more) (told_at d v.clock s.live) []) nothing

pub end-lives : (v : View) → (next_stop v).due ≡ Nothing → (next_stop v).live ≡ live_then v
end-lives v nothing = let is = at-stop v in sym (ap (all_held (mark_at v.marks) (next_stop v).live) (is.ends nothing)) ∙ is.lives

-- ---- turns

-- an event is the next one
pub tells-next : (old new : View) (e : Event) → Tells old e new → events_left (step_begun old) ≡ e ∷ events_left new
tells-next old new e is = stop-tells (step_begun old) e is.next ∙ ap (λ (v : View). e ∷ events_left v) (sym is.stepped)

pub tells-lives : (old new : View) (e : Event) → Tells old e new → live_then new ≡ live_then (step_begun old)
tells-lives old new e is = ap live_then is.stepped ∙ stop-lives (step_begun old)

-- at the end none is left, and the live activations are those after the step
pub settles-none : (old new : View) → Settles old new → events_left (step_begun old) ≡ []
settles-none old new is = end-tells (step_begun old) is.all

pub settles-lives : (old new : View) → Settles old new → new.live ≡ live_then (step_begun old)
settles-lives old new is = ap (λ (v : View). v.live) is.stepped ∙ end-lives (step_begun old) is.all

-- ---- whole steps

trace-step : (w : World) (n : ℕ) → trace w n ≡ all_changed n (trace_before w n) (turn w n).changes
trace-step w zero = trace_in-zero w (original w.program)
trace-step w (suc n) = trace_in-suc w (original w.program) n

before-is : (w : World) (n : ℕ) → IsTrace (trace_before w n)
before-is w zero = no_trace-is
before-is w (suc n) = trace_in-is w (original w.program) n

-- The events that are left where a step begins are the step's, by any marking that gives the versions' marks.
pub all-events : (w : World) (n : ℕ) (marking : Marking) (marks : ℕ → Mark) (live : List Held) → marks ≡ marking n → live ≡ held_in marking (trace_before w n)
    → changes_told marks n live (turn w n).changes ≡ step_events marking w n
all-events w n marking marks live same lives =
    ap₂ (λ m l. changes_told m n l (turn w n).changes) same lives ∙ sym (all-told marking n (trace_before w n) (turn w n).changes (before-is w n))

-- and the live activations behind it are those of the trace
pub all-lives : (w : World) (n : ℕ) (marking : Marking) (marks : ℕ → Mark) (live : List Held) → marks ≡ marking n → live ≡ held_in marking (trace_before w n)
    → all_held marks live (turn w n).changes ≡ held_in marking (trace w n)
all-lives w n marking marks live same lives =
    ap₂ (λ m l. all_held m l (turn w n).changes) same lives
    ∙ sym (ap (held_in marking) (trace-step w n) ∙ all_changed-held marking n (trace_before w n) (turn w n).changes (before-is w n))

-- a load is behind: nothing was told of it
pub first-loads : (cs : List Change) (c : ℕ) (more : List ℕ) → loads_first cs ≡ c ∷ more → (marks : ℕ → Mark) (n : ℕ) (live : List Held)
    → (changes_told marks n live (drop 1 cs) ≡ changes_told marks n live cs) × (all_held marks live (drop 1 cs) ≡ all_held marks live cs)
first-loads [] c more e marks n live = absurd (let h : [] ≡ c ∷ more = e in cc)
first-loads (Loads classes ∷ rest) c more e marks n live = (refl, refl)
first-loads (Began m ∷ rest) c more e marks n live = absurd (let h : [] ≡ c ∷ more = e in cc)
first-loads (Left ∷ rest) c more e marks n live = absurd (let h : [] ≡ c ∷ more = e in cc)
first-loads (Unwound ∷ rest) c more e marks n live = absurd (let h : [] ≡ c ∷ more = e in cc)

-- ---- a stop that tells is within the step

pub stopped-busy : (v : View) (e : Event) → next_event v ≡ Some e → is_resting (step_stopped v) ≡ false
stopped-busy v e delivered = by (next_stop v).due refl where
  by : (d : Due) → (next_stop v).due ≡ d → is_resting (step_stopped v) ≡ false
  by Nothing is = absurd (let h : None ≡ Some e = sym (ap (λ d. told_at d v.clock (next_stop v).live) is) ∙ delivered in cc)
  by (Ends k) is = ap (λ d. (next_stop v).passed == 0 && not (is_end d)) is ∙ and-false ((next_stop v).passed == 0)
  by Begins is = ap (λ b. b && not (is_end (next_stop v).due)) (stop-begins (mark_at v.marks) v.delivered v.passed v.live (to_come v) is)
