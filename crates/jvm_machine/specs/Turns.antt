-- What one call of `step` says of a machine.
use Rattle.std.specs.Prelude.{◌≡◌, ℕ, ◌<◌, true, false, List, [], length, Option, Some, None, Bool, ◌&&◌, if◌then◌else◌}
use Rattle.jvm_model.specs.declared.due.Due.TheVariants.{Nothing}
use Rattle.jvm_model.specs.declared.event.Event.{Event}
use Rattle.jvm_machine.specs.declared.turn.Turn.{Turn}
use Rattle.jvm_machine.specs.declared.turn.Turn.TheVariants.{Settled, Loaded, Probe, Ended, Broken, NoMemory}
use Rattle.jvm_machine.specs.Probes.{ComesFromProbe}
use Rattle.jvm_machine.specs.View.{IsGoingOn, View, step_begun, has_ended, is_resting, loads_next, next_event, next_stop, step_rested, step_stopped}

-- the classes that the step has loaded are told, one or more, in order; it has not gone on
pub record TellsLoads (old : View) (classes : List ℕ) (new : View) : Type 0 where
  pub whole : old.broken ≡ false
  pub went_on : IsGoingOn old
  pub first : is_resting old ≡ true
  pub some : 0 < length classes
  pub loads : loads_next (step_begun old) ≡ classes
  pub stepped : new ≡ record (step_begun old) { passed = 1 }

-- the next event of the step is told, by a probe that stands in the current version where its frame does
pub record Tells (old : View) (event : Event) (new : View) : Type 0 where
  pub whole : old.broken ≡ false
  pub went_on : IsGoingOn old
  pub loads : loads_next (step_begun old) ≡ []
  pub next : next_event (step_begun old) ≡ Some event
  pub stepped : new ≡ step_stopped (step_begun old)
  pub probe : ComesFromProbe new event

-- the step is done: its classes and all its events were told, and the run goes on
pub record Settles (old new : View) : Type 0 where
  pub whole : old.broken ≡ false
  pub went_on : IsGoingOn old
  pub loads : loads_next (step_begun old) ≡ []
  pub all : (next_stop (step_begun old)).due ≡ Nothing
  pub stepped : new ≡ step_rested (step_begun old)
  pub goes_on : has_ended new ≡ false

-- the run had ended before, or it has ended in this step, of which nothing is left to tell
abbrev pub after_last : View → View
after_last old = if is_resting old && has_ended old then old else step_rested (step_begun old)

pub record Ends (old new : View) : Type 0 where
  pub whole : old.broken ≡ false
  pub loads : IsGoingOn old → loads_next (step_begun old) ≡ []
  pub all : IsGoingOn old → (next_stop (step_begun old)).due ≡ Nothing
  pub stepped : new ≡ after_last old
  pub ended : has_ended new ≡ true

-- memory has run out before
pub record Refuses (old new : View) : Type 0 where
  pub broken : old.broken ≡ true
  pub same : new ≡ old

-- memory has run out in this call
pub record Breaks (old new : View) : Type 0 where
  pub whole : old.broken ≡ false
  pub went_on : IsGoingOn old
  pub stepped : new ≡ record (step_begun old) { broken = true; passed = new.passed; delivered = new.delivered; live = new.live }

abbrev pub Turns : View → Turn → View → Type 0
Turns old Settled new = Settles old new
Turns old (Loaded classes) new = TellsLoads old classes new
Turns old (Probe event) new = Tells old event new
Turns old Ended new = Ends old new
Turns old Broken new = Refuses old new
Turns old NoMemory new = Breaks old new

-- an event, or the end of the step
abbrev pub turn_by : Option Event → Bool → Turn
turn_by (Some event) ended = Probe event
turn_by None ended = if ended then Ended else Settled
