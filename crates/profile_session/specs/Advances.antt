-- How a session's parts go on with turns and steps.
use Rattle.std.specs.Prelude.{◌≡◌, ℕ, suc, ◌+◌, ◌-◌, ◌≤◌, ◌<◌, Bool, true, false, length, Option, Some, None}
use Rattle.jvm_machine.specs.declared.turn.Turn.{Turn}
use Rattle.jvm_machine.specs.declared.turn.Turn.TheVariants.{Settled, Loaded, Probe, Ended, Broken, NoMemory}
use Rattle.jvm_machine.specs.View.{IsGoingOn, step_begun, has_ended, is_resting, world, events_left}
use Rattle.profile_session.specs.declared.parts.Parts.{Parts}
use Rattle.profile_session.specs.Keeping.{is_idle}
use Rattle.profile_session.specs.Parts.{IsBusy, Rests, kept_in}
use Rattle.profile_session.specs.Standing.{next_step}

pub record Stays (old new : Parts) : Type 0 where
  pub world_is : world new.vm ≡ world old.vm
  pub acts : new.acts ≡ old.acts

-- the step is done
pub record Finished (old : Parts) (ended : Bool) (new : Parts) : Type 0 where
  pub stays : Stays old new
  pub rests : Rests new
  pub ended_is : has_ended new.vm ≡ ended
  pub clock : new.vm.clock ≡ (step_begun old.vm).clock
  pub started : new.vm.started ≡ true

-- it goes on
pub record Goes (old new : Parts) : Type 0 where
  pub stays : Stays old new
  pub busy : IsBusy new
  pub clock : new.vm.clock ≡ (step_begun old.vm).clock

-- with one event less that is left
pub record Tells (old new : Parts) : Type 0 where
  pub goes : Goes old new
  pub fewer : suc (length (events_left new.vm)) ≡ length (events_left (step_begun old.vm))

-- classes are told first
pub record Loads (old new : Parts) : Type 0 where
  pub goes : Goes old new
  pub first : is_resting old.vm ≡ true

abbrev pub After : Parts → Turn → Parts → Type 0
After old Settled new = Finished old false new
After old Ended new = Finished old true new
After old (Loaded classes) new = Loads old new
After old (Probe e) new = Tells old new
After old Broken new = ⊥
After old NoMemory new = ⊥

-- steps that tell nothing, and one turn more
pub record Ran (old : Parts) (most : ℕ) (turn : Turn) (new : Parts) : Type 0 where
  pub between : Parts
  pub rests : Rests between
  pub stays : Stays old between
  pub low : next_step old.vm ≤ next_step between.vm
  pub high : next_step between.vm < next_step old.vm + most
  pub last : After between turn new

-- From a step in hand: its turn; or one turn has settled it, and then came steps that tell nothing, and one turn more.
pub data RanOn (old : Parts) (most : ℕ) (turn : Turn) (new : Parts) : Type 0 where
  at_once : After old turn new → RanOn old most turn new
  later : (mid : Parts) → Finished old false mid → Ran mid (most - 1) turn new → RanOn old most turn new

-- what the last turn of a step says: whether the run has ended in it
abbrev pub ended_by : Turn → Option Bool
ended_by Settled = Some false
ended_by Ended = Some true
ended_by (Loaded classes) = None
ended_by (Probe e) = None
ended_by Broken = None
ended_by NoMemory = None

-- Several steps can be made at once: none is in hand and the run goes on; or one is in hand, and something is selected
-- or a path is open, so that nothing is done behind it.
pub data IsReady (x : Parts) : Type 0 where
  at_rest : Rests x → IsGoingOn x.vm → IsReady x
  in_step : IsBusy x → is_idle (kept_in x).seen ≡ false → IsReady x

-- from either
pub data RanFrom (old : Parts) (most : ℕ) (turn : Turn) (new : Parts) : Type 0 where
  from_rest : Rests old → Ran old most turn new → RanFrom old most turn new
  from_step : IsBusy old → RanOn old most turn new → RanFrom old most turn new

-- the step in hand goes on where something is selected or a path is open
pub record GoesBusily (old new : Parts) : Type 0 where
  pub goes : Goes old new
  pub profiles : is_idle (kept_in new).seen ≡ false
  pub left : length (events_left new.vm) ≤ length (events_left old.vm)

-- turns of the step in hand: it is done, and the run has ended in it or has not; or it goes on there
abbrev pub TurnedTo : Parts → Option Bool → Parts → Type 0
TurnedTo old (Some ended) new = Finished old ended new
TurnedTo old None new = GoesBusily old new

-- one step or several, no more than this
pub record Sliced (old : Parts) (most : ℕ) (ended : Bool) (new : Parts) : Type 0 where
  pub stays : Stays old new
  pub rests : Rests new
  pub ended_is : has_ended new.vm ≡ ended
  pub started : new.vm.started ≡ true
  pub low : next_step old.vm ≤ new.vm.clock
  pub high : new.vm.clock < next_step old.vm + most

pub record Makes (old : Parts) (steps : ℕ) (ended : Bool) (new : Parts) : Type 0 where
  pub rests : Rests new
  pub world_is : world new.vm ≡ world old.vm
  pub acts : new.acts ≡ old.acts
  pub ended_is : has_ended new.vm ≡ ended
  pub started : new.vm.started ≡ true
  pub clock : ended ≡ false → new.vm.clock ≡ old.vm.clock + steps
  pub later : old.vm.clock ≤ new.vm.clock
  pub within : new.vm.clock ≤ old.vm.clock + steps
