-- What the calls of a session answer.
use Rattle.std.specs.Prelude.{◌≡◌, ℕ, ◌+◌, ◌≤◌, ◌<◌, Bool, true, false, not, Option, Some, None, is_some}
use Rattle.jvm_model.specs.Running.Run.{ending_of}
use Rattle.profile_session.specs.declared.answer.ActError.{ActError}
use Rattle.profile_session.specs.declared.answer.ActError.TheVariants as act
use Rattle.profile_session.specs.declared.answer.Run.{Run}
use Rattle.profile_session.specs.declared.answer.Run.TheVariants as run
use Rattle.profile_session.specs.Sessions.{LiveRunOn, Profiling, is_over, is_selected_in, with_act, world_of}

-- Some steps further, each of which was made while the run went on; what is live runs the version in which it began.
pub record Onward (old : Profiling) (steps : ℕ) (new : Profiling) : Type 0 where
  pub same : new ≡ record old { started = true; clock = new.clock; gathered = false; live = new.live }
  pub later : old.clock ≤ new.clock
  pub within : new.clock ≤ old.clock + steps
  pub first : (m : ℕ) → m < new.clock → is_some (ending_of (world_of old) m) ≡ false
  pub live : LiveRunOn new

-- all steps were made and no ending stands
pub record IsStill (old : Profiling) (steps : ℕ) (new : Profiling) : Type 0 where
  pub whole : old.broken ≡ false
  pub going : is_over old ≡ false
  pub onward : Onward old steps new
  pub all : new.clock ≡ old.clock + steps
  pub goes_on : is_over new ≡ false

-- an ending stands: it stood before, or the run has ended in the last step
pub record IsEnded (old : Profiling) (steps : ℕ) (new : Profiling) : Type 0 where
  pub whole : old.broken ≡ false
  pub same : is_over old ≡ true → new ≡ old
  pub onward : is_over old ≡ false → Onward old steps new
  pub ended : is_over new ≡ true

-- memory has run out before
pub record Refuses (old new : Profiling) : Type 0 where
  pub broken : old.broken ≡ true
  pub same : new ≡ old

-- or in this call: it is still a session of the same program and input
pub record Breaks (old new : Profiling) : Type 0 where
  pub whole : old.broken ≡ false
  pub broken : new.broken ≡ true
  pub same : world_of new ≡ world_of old

-- in an action or an advance, which are made while no ending stands
pub record BreaksOff (old new : Profiling) : Type 0 where
  pub breaks : Breaks old new
  pub going : is_over old ≡ false

abbrev pub Advances : Profiling → ℕ → Run → Profiling → Type 0
Advances old steps run.Still new = IsStill old steps new
Advances old steps run.Ended new = IsEnded old steps new
Advances old steps run.Broken new = Refuses old new
Advances old steps run.NoMemory new = BreaksOff old new

abbrev pub run_by : Bool → Run
run_by true = run.Ended
run_by false = run.Still

-- ---- actions

-- accepted: no ending stands, the method was not selected, or was, and the action is the last one now; its swaps move
-- nothing that is live
pub record Accepts (old : Profiling) (select : Bool) (method : ℕ) (new : Profiling) : Type 0 where
  pub whole : old.broken ≡ false
  pub going : is_over old ≡ false
  pub other : is_selected_in old method ≡ not select
  pub same : new ≡ with_act select method old
  pub live : LiveRunOn new

pub record IsOver (old new : Profiling) : Type 0 where
  pub whole : old.broken ≡ false
  pub over : is_over old ≡ true
  pub same : new ≡ old

pub record IsSo (old : Profiling) (selected : Bool) (method : ℕ) (new : Profiling) : Type 0 where
  pub whole : old.broken ≡ false
  pub going : is_over old ≡ false
  pub is : is_selected_in old method ≡ selected
  pub same : new ≡ old

abbrev pub RefusesAct : Profiling → Bool → ℕ → ActError → Profiling → Type 0
RefusesAct old select method act.AlreadySelected new = (select ≡ true) × IsSo old true method new
RefusesAct old select method act.NotSelected new = (select ≡ false) × IsSo old false method new
RefusesAct old select method act.Ended new = IsOver old new
RefusesAct old select method act.Broken new = Refuses old new
RefusesAct old select method act.NoMemory new = BreaksOff old new

abbrev pub refusal_of : Bool → Bool → Option ActError
refusal_of true true = Some act.AlreadySelected
refusal_of false false = Some act.NotSelected
refusal_of true false = None
refusal_of false true = None

-- ---- the tree

-- the tree holds all that was told, and the steps up to the clock; nothing else has changed
pub record Gathers (old new : Profiling) : Type 0 where
  pub whole : old.broken ≡ false
  pub same : new ≡ record old { gathered = true }

-- of a broken session nothing is gathered, or memory runs out in this call
abbrev pub RefusesTree : Profiling → ActError → Profiling → Type 0
RefusesTree old act.Broken new = Refuses old new
RefusesTree old act.NoMemory new = Breaks old new
RefusesTree old act.AlreadySelected new = ⊥
RefusesTree old act.NotSelected new = ⊥
RefusesTree old act.Ended new = ⊥

-- why none is lent
abbrev pub LendsNoTree : Profiling → ActError → Type 0
LendsNoTree old act.Broken = old.broken ≡ true
LendsNoTree old act.NoMemory = old.broken ≡ false
LendsNoTree old act.AlreadySelected = ⊥
LendsNoTree old act.NotSelected = ⊥
LendsNoTree old act.Ended = ⊥
