-- What is in hand between two turns of a step, over versions: the machine's state stands for a state of the original
-- code from which the rest of the step goes on. So many of the step's changes are behind it; the probe of the end that
-- comes next has told, or has not.
use Rattle.std.specs.Prelude.{◌≡◌, ℕ, suc, Bool, true, false, List, [], ◌∷◌, drop}
use Rattle.jvm_model.specs.declared.event.Mark.{Mark}
use Rattle.jvm_model.specs.Basis.Data.{State, Turn, Listing, World}
use Rattle.jvm_model.specs.Codes.Moved.{state_moved, IsPlaced, at_homes}
use Rattle.jvm_model.specs.Rewriting.StandsForRun.{StandsFor, versions_forgotten, norm_by}
use Rattle.jvm_model.specs.Turns.Rest.{Todo, Attempt, Moves, rest}
use Rattle.jvm_model.specs.Turns.Told.{Held, helds}
use Rattle.jvm_model.specs.Turns.Pauses.{later_of, Nothing, Pause, step_paused, is_end, stop_from, stop_of}
use Rattle.jvm_model.specs.Turns.StepPauses.{step_pause, Awaits, NeedsNoLoad}

-- The versions: of which method each is, where its places stand, and its mark. They are the same for a version as long
-- as a frame runs it.
pub record Versioned : Type 0 where
  pub norm : ℕ → ℕ → ℕ
  pub method_of : ℕ → ℕ
  pub homes : ℕ → ℕ → ℕ
  pub mark_of : ℕ → Mark

-- the state of the original code that a state with versions is
abbrev pub original_of : Versioned → State → State
original_of x s = state_moved (versions_forgotten x.method_of) s

abbrev pub versioned_of : Versioned → State → State
versioned_of x s = state_moved (at_homes x.homes) s

-- `t` is the original code, `turn` the whole step, `s` the machine's state.
pub record InHand (w : World) (t : Listing) (x : Versioned) (turn : Turn) (passed : ℕ) (delivered : Bool) (live : List Held) (todo : Todo) (s : State) : Type 0 where
  pub between : State
  pub versioned : s ≡ versioned_of x between
  pub placed : IsPlaced (norm_by x.method_of x.norm) between
  pub same : (rest w t todo (original_of x between)).after ≡ turn.after
  pub tells : (rest w t todo (original_of x between)).changes ≡ drop passed turn.changes
  pub lives : live ≡ helds x.mark_of s.stack
  pub awaits : delivered ≡ true → Awaits w t todo (original_of x between)
  pub loaded : NeedsNoLoad w t todo (original_of x between)

-- ---- how the machine goes on, over the listing that is in force now

-- without the frame that is unwound
abbrev pub goes_from : World → Listing → Versioned → Bool → ℕ → Todo → State → State → Pause
goes_from w u x delivered n Attempt s unwound = step_pause w u x.mark_of delivered n s
goes_from w u x false n Moves s unwound = step_paused w u x.mark_of n s
goes_from w u x true n Moves s unwound = step_paused w u x.mark_of (suc n) unwound

-- What the machine comes to by that: where the step's changes say, with the rest of the same step in hand; and where
-- nothing is told more, it stands for the state after the step.
pub record GoesOn (w : World) (t : Listing) (x : Versioned) (current : ℕ → ℕ) (turn : Turn) (passed : ℕ) (delivered : Bool) (live : List Held) (p : Pause) : Type 0 where
  pub later : Todo
  pub hand : InHand w t x turn p.passed (is_end p.due) (helds x.mark_of p.state.stack) later p.state
  pub stops : stop_from (λ m. x.mark_of (current m)) delivered passed live (drop passed turn.changes) ≡ stop_of x.mark_of p
  pub later_is : (p.due ≡ Nothing → ⊥) → later ≡ later_of p.due
  pub ends : p.due ≡ Nothing → StandsFor x.norm x.method_of x.homes p.state turn.after

-- ---- how a step begins

-- the load of the step is the first of its changes
abbrev pub behind_load : List ℕ → ℕ
behind_load [] = 0
behind_load (c ∷ more) = 1

-- without the current frame
abbrev pub frame_popped : State → State
frame_popped s = record s { stack = drop 1 s.stack }
