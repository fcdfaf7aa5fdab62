-- How a session takes the actions of its program's plan at their moments, one slice after the other.
use Rattle.std.specs.Prelude.{◌≡◌, ℕ, ◌<◌, ◌≤◌, true, false, not, Bool, List, [], ◌∷◌, ◌++◌, length, take, drop, Option, Some, slice_get, IfSome}
use Rattle.std.specs.List.{AllByRecursion}
use Rattle.plan_text.specs.declared.plan.Action.{Action}
use Rattle.plan_text.specs.Lines.{selected_after}
use Rattle.jvm_model.specs.declared.event.Act.{Act}
use Rattle.jvm_model.specs.Soundness.Calls.{AreFrom}
use Rattle.jvm_model.specs.Classes.Load.{is_among}
use Rattle.jvm_model.specs.Profiling.Points.{methods_selected}
use Rattle.profile_session.specs.Sessions.{LiveRunOn, Profiling}
use Rattle.jfluid_cli.specs.declared.running.Reached.{Reached}
use Rattle.byte_streams.specs.Streams.{PutsPrefix}
use Rattle.jfluid_cli.specs.Runs.{IsPlanned, RanFor, is_ended_at, output_at, slice_end, written_between}

-- ---- which actions can be taken

-- what is selected behind actions, where these methods were selected before
abbrev pub chosen_by : List ℕ → List Act → List ℕ
chosen_by selected [] = selected
chosen_by selected (act ∷ more) = chosen_by (methods_selected act selected) more

-- Each action that stands behind others selects a method that is not selected then, or deselects one
-- that is.
abbrev pub Alternate : List Act → List Act → Type 0
Alternate earlier [] = Unit {0}
Alternate earlier (act ∷ more) =
    (is_among act.method (chosen_by [] earlier) ≡ not act.select)
    × Alternate (earlier ++ act ∷ []) more

-- Moments do not fall, and no action asks for what is so already.
pub record CanBeTaken (acts : List Act) : Type 0 where
  pub in_order : AreFrom 0 acts
  pub alternate : Alternate [] acts

-- the same of a plan's actions, by the names of their roots
abbrev pub AlternateRoots : List Action → List Action → Type 0
AlternateRoots earlier [] = Unit {0}
AlternateRoots earlier (action ∷ more) =
    (selected_after false action.root earlier ≡ not action.select)
    × AlternateRoots (earlier ++ action ∷ []) more

-- ---- how far they were taken

-- An action that is still to come: not at an earlier step than the session's, and behind the start
-- none of moment 0.
pub record IsToCome (s : Profiling) (act : Act) : Type 0 where
  pub later : s.clock ≤ act.moment
  pub behind : s.started ≡ true → 0 < act.moment

-- The session has taken the actions before this position, none of which is of a later step than its
-- own, and all others are to come.
pub record IsAlong (s : Profiling) (next : ℕ) : Type 0 where
  pub within : next ≤ length s.program.acts
  pub acts : s.acts ≡ take next s.program.acts
  pub taken : AllByRecursion (λ a. a.moment ≤ s.clock) (take next s.program.acts)
  pub to_come : AllByRecursion (IsToCome s) (drop next s.program.acts)

-- the action at this position is due later
abbrev pub IsLater : Profiling → ℕ → Type 0
IsLater s next = IfSome (slice_get s.program.acts next) (λ a. s.clock < a.moment)

-- The action at this position is one of the session's moment.
pub record IsDue (s : Profiling) (at : ℕ) (act : Act) : Type 0 where
  pub there : slice_get s.program.acts at ≡ Some act
  pub now : act.moment ≡ s.clock

-- What is due was taken.
pub record Takes (old new : Profiling) (next : ℕ) : Type 0 where
  pub same : new ≡ record old { acts = new.acts; gathered = new.gathered }
  pub along : IsAlong new next
  pub later : IsLater new next

-- A slice was made, with the actions that were due before it, up to this budget at most.
pub record GoesOn (old new : Profiling) (budget : ℕ) (r : Reached) : Type 0 where
  pub same : new ≡ record old { acts = new.acts; started = true; clock = new.clock; gathered = false; live = new.live }
  pub some : old.clock < new.clock
  pub most : new.clock ≤ budget
  pub end : new.clock ≤ slice_end old.program.acts budget old.clock
  pub whole : r.ended ≡ false → new.clock ≡ slice_end old.program.acts budget old.clock
  pub answer : is_ended_at old new.clock ≡ r.ended
  pub first : (m : ℕ) → m < new.clock → is_ended_at old m ≡ false
  pub along : IsAlong new r.next
  pub planned : IsPlanned new
  pub live : LiveRunOn new

-- The start was made, with the actions of moment 0 before it.
pub record Begins (old new : Profiling) (r : Reached) : Type 0 where
  pub same : new ≡ record old { acts = new.acts; started = true; clock = 0; gathered = false; live = new.live }
  pub answer : is_ended_at old 0 ≡ r.ended
  pub along : IsAlong new r.next
  pub planned : IsPlanned new
  pub live : LiveRunOn new

-- ---- where a put of output failed

-- The steps were made, and of what they wrote a front was put.
pub record IsCutSlice (old new : Profiling) (steps : ℕ) (o n : Option (List ℕ)) : Type 0 where
  pub ended : Bool
  pub ran : RanFor old new steps ended
  pub put : PutsPrefix o n (written_between old old.clock new.clock)

-- The actions that were due were taken and the slice behind them was made, and of what it wrote a front was put.
pub record IsCutOn (old new : Profiling) (budget : ℕ) (o n : Option (List ℕ)) : Type 0 where
  pub reached : Reached
  pub goes : GoesOn old new budget reached
  pub put : PutsPrefix o n (written_between old old.clock new.clock)

-- The start was made, and of what it wrote a front was put.
pub record IsCutBegin (old new : Profiling) (o n : Option (List ℕ)) : Type 0 where
  pub reached : Reached
  pub begins : Begins old new reached
  pub put : PutsPrefix o n (output_at old 0)
