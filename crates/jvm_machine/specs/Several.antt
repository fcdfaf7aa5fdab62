-- Several steps in one call.
use Rattle.std.specs.Prelude.{◌≡◌, ℕ, Bool, true, false, suc, ◌≤◌, Option, Some, None}
use Rattle.jvm_model.specs.declared.due.Due.{Due}
use Rattle.jvm_machine.specs.declared.advancing.Telling.TheVariants as telling
use Rattle.jvm_machine.specs.declared.turn.Turn.{Turn}
use Rattle.jvm_machine.specs.declared.turn.Turn.TheVariants.{Settled, Loaded, Probe, Ended, Broken, NoMemory}
use Rattle.jvm_machine.specs.Advances.{Stops}
use Rattle.jvm_machine.specs.Probes.{IfLeaves}
use Rattle.jvm_machine.specs.Turns.{Settles, Turns}
use Rattle.jvm_machine.specs.View.{IsGoingOn, View}

abbrev pub is_settled : Turn → Bool
is_settled Settled = true
is_settled (Loaded classes) = false
is_settled (Probe event) = false
is_settled Ended = false
is_settled Broken = false
is_settled NoMemory = false

-- so many steps that told nothing: each of them was settled in one turn
pub data Passes (old : View) : ℕ → View → Type 0 where
  none : Passes old 0 old
  more : (n : ℕ) (mid new : View) → Passes old n mid → Settles mid new → Passes old (suc n) new

-- the next step has come to where this is due
pub record Reaches (old : View) (due : Due) (new : View) : Type 0 where
  pub whole : old.broken ≡ false
  pub went_on : IsGoingOn old
  pub stops : Stops old due new
  pub leaves : IfLeaves (telling.Due due) new
  pub after : new.broken ≡ false

-- it has, or nothing was done
abbrev pub ReachesIf : View → Option Due → View → Type 0
ReachesIf old None new = new ≡ old
ReachesIf old (Some due) new = Reaches old due new

-- so many steps that told nothing, and then the next one up to where this is due, if it has come to there
pub record PassesUpTo (old : View) (n : ℕ) (due : Option Due) (new : View) : Type 0 where
  pub between : View
  pub passes : Passes old n between
  pub reaches : ReachesIf between due new

-- so many steps that told nothing, and one turn more
pub record TurnsBehind (old : View) (n : ℕ) (turn : Turn) (new : View) : Type 0 where
  pub between : View
  pub passes : Passes old n between
  pub last : Turns between turn new

-- ---- from a step in hand

-- it is done, nothing was told of its end, and then so many steps and the next one as above
pub record EndsUpTo (old : View) (n : ℕ) (due : Option Due) (new : View) : Type 0 where
  pub first : View
  pub ends : Settles old first
  pub behind : PassesUpTo first n due new

-- the same, and one turn more
pub record EndsBehind (old : View) (n : ℕ) (turn : Turn) (new : View) : Type 0 where
  pub first : View
  pub ends : Settles old first
  pub behind : TurnsBehind first n turn new

-- ---- a call

-- What as many calls of `step` do, up to the first one that tells more than that a step is done: the last of them
-- answers.
pub record RunsOn (old : View) (most : ℕ) (turn : Turn) (new : View) : Type 0 where
  pub steps : ℕ
  pub between : View
  pub passes : Passes old steps between
  pub last : Turns between turn new
  pub within : suc steps ≤ most
  pub all : turn ≡ Settled → suc steps ≡ most
