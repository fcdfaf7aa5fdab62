-- What holds of a session: between steps, and within one.
use Rattle.std.specs.Prelude.{◌≡◌, ◌≤◌, ◌<◌, is_some, ℕ, ◌+◌, zero, suc, true, false, fold, List, [], ◌++◌, if◌then◌else◌}
use Rattle.std.specs.List.{AllByRecursion}
use Rattle.jvm_model.specs.declared.event.Act.{Act}
use Rattle.jvm_model.specs.declared.event.Event.{Event}
use Rattle.jvm_model.specs.Profiling.Activations.{trace, trace_before}
use Rattle.jvm_model.specs.Running.Changes.{AreOrdered}
use Rattle.jvm_model.specs.Basis.Data.{World}
use Rattle.jvm_model.specs.Profiling.EventLists.{Marking, events_of}
use Rattle.jvm_model.specs.Profiling.Points.{acts_behind, marking_of}
use Rattle.jvm_model.specs.Running.Run.{run}
use Rattle.jvm_model.specs.Turns.Told.{held_in}
use Rattle.jvm_machine.specs.View.{View, events_left, is_resting, live_then, to_come, world}
use Rattle.profile_session.specs.Keeping.{Kept, kept_event, kept_before, kept_behind, marks_seen}

-- the step that comes next
abbrev pub next_step : View → ℕ
next_step v = if v.started then v.clock + 1 else 0

-- the events before a step
abbrev pub told_before : Marking → World → ℕ → List Event
told_before marking w zero = []
told_before marking w (suc n) = events_of marking w n

-- Between steps, with the accepted actions, the events so far, and what is kept beside the machine: it is what stands
-- before the next step.
pub record AtRest (acts : List Act) (w : World) (es : List Event) (k : Kept) (v : View) : Type 0 where
  pub same : world v ≡ w
  pub resting : is_resting v ≡ true
  pub whole : v.broken ≡ false
  pub going : (m : ℕ) → m < v.clock → is_some (run w m).ending ≡ false
  pub before_the_run : v.started ≡ false → v.clock ≡ 0
  pub kept : k ≡ kept_before acts w (next_step v)
  pub delivered : es ≡ told_before (marking_of acts w) w (next_step v)
  pub lives : v.live ≡ held_in (marking_of acts w) (trace_before w (next_step v))
  pub marks : v.marks ≡ marks_seen w.program k.seen
  pub moments : AllByRecursion (λ (a : Act). a.moment ≤ v.clock) acts

-- Within a step, with its classes loaded: with what is left to be told it comes to what stands behind it.
pub record InStep (acts : List Act) (w : World) (es : List Event) (k : Kept) (v : View) : Type 0 where
  pub same : world v ≡ w
  pub whole : v.broken ≡ false
  pub going : (m : ℕ) → m < v.clock → is_some (run w m).ending ≡ false
  pub started : v.started ≡ true
  pub kept : fold (kept_event w.program) k (events_left v) ≡ kept_behind acts w v.clock
  pub delivered : es ++ events_left v ≡ events_of (marking_of acts w) w v.clock
  pub lives : live_then v ≡ held_in (marking_of acts w) (trace w v.clock)
  pub marks : v.marks ≡ marks_seen w.program k.seen
  pub order : AreOrdered (to_come v)
  pub none : (n : ℕ) → v.clock ≤ n → acts_behind n acts ≡ []
  pub moments : AllByRecursion (λ (a : Act). a.moment ≤ v.clock) acts

-- Both, by whether a step is in hand.
pub data AtRestOrInStep (acts : List Act) (w : World) (es : List Event) (k : Kept) (v : View) : Type 0 where
  rests : AtRest acts w es k v → AtRestOrInStep acts w es k v
  within : is_resting v ≡ false → InStep acts w es k v → AtRestOrInStep acts w es k v
