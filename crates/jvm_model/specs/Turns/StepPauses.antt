-- Where a step stops on its way that begins with an attempt: before a return of which a probe tells, behind an
-- invocation, or on the way of the moves.
use Rattle.std.specs.Prelude.{◌≡◌, ℕ, Bool, true, false, not, List, [], ◌∷◌, ◌++◌, Option, Some, None, ◌==◌, ◌&&◌, if◌then◌else◌}
use Rattle.std.specs.Option.{option_map_or}
use Rattle.jvm_model.specs.declared.event.EventKind.TheVariants as kind
use Rattle.jvm_model.specs.declared.event.Mark.{Mark}
use Rattle.jvm_model.specs.Rewriting.Images.{is_off}
use Rattle.jvm_model.specs.Basis.Data.{Shared, Locals, Operands, Frame, Entry, Active, Ending, State, Change, Turn, Return, Local, Operation, Within, Instruction, Outcome, Returns, Breaks, Listing, World}
use Rattle.jvm_model.specs.Basis.SharedState.{phase_of}
use Rattle.jvm_model.specs.Instructions.Does.{does}
use Rattle.jvm_model.specs.Running.Applies.{still, breaks, applies}
use Rattle.jvm_model.specs.Running.Run.{starts, is_ready, is_going_on}
use Rattle.jvm_model.specs.Turns.Rest.{step_loads, Todo, Attempt, Moves, rest, IsPart}
use Rattle.jvm_model.specs.Turns.Told.{Held, frame_held, helds, mark_now}
use Rattle.jvm_model.specs.Turns.Pauses.{later_of, Due, Nothing, Ends, Begins, changes_due, stop_from, stop_of, passed_by, Pause, step_paused, is_end, Unwinds}

-- the instruction alone, from the state without the current frame
abbrev pub instruction_attempted : World → Listing → Instruction → State → Frame → Turn
instruction_attempted w t i s f =
    let d = does w i.operation s.shared f.locals f.operands in
    applies w t i d.outcome (record s { shared = d.shared; output = s.output ++ d.wrote }) f

-- an activation that has begun is told at once; an end was told before, or is not told
abbrev pub pause_behind : Due → Pause → Pause → Pause
pause_behind Begins begun later = begun
pause_behind Nothing begun later = later
pause_behind (Ends k) begun later = later

-- behind an instruction
abbrev pub turn_pause : World → Listing → (ℕ → Mark) → ℕ → List Held → Turn → Pause
turn_pause w t v n live a =
    pause_behind (changes_due (mark_now v t) live a.changes) (record { state = a.after; passed = passed_by n a.changes; due = Begins })
    (step_paused w t v (passed_by n a.changes) a.after)

abbrev pub is_nothing : Due → Bool
is_nothing Nothing = true
is_nothing (Ends k) = false
is_nothing Begins = false

-- Where the class that it had to wait for is ready, and nothing has begun or ended, it is attempted again, by the frame
-- that is current then.
abbrev pub again_pause : World → Listing → (ℕ → Mark) → ℕ → List Held → Instruction → State → Frame → Option ℕ → Pause → Pause
again_pause w t v n live i s f None p = p
again_pause w t v n live i s f (Some c) p =
    if is_nothing p.due && p.passed == n && is_ready (phase_of p.state.shared c) && is_going_on p.state.ending p.state.thrown
    then turn_pause w t v n live (instruction_attempted w t i (record p.state { stack = s.stack }) f)
    else p

abbrev pub is_return : Operation Local → Bool
is_return (Within (Return k)) = true
is_return _ = false

-- whether the activation ends by an outcome
abbrev pub ends_by : Outcome → Bool
ends_by (Returns d) = true
ends_by (Breaks ends) = ends
ends_by _ = false

-- Only returns end an activation: a law of the rules.
abbrev pub EndsByReturn : World → Type 0
EndsByReturn w = (op : Operation Local) (s : Shared) (l : Locals) (o : Operands) → ends_by (does w op s l o).outcome ≡ true → is_return op ≡ true

-- a probe tells of it first, unless it has told
abbrev pub leave_due : Bool → Mark → Operation Local → Bool
leave_due delivered m op = not delivered && not (is_off m) && is_return op

abbrev pub line_pause : World → Listing → (ℕ → Mark) → Bool → ℕ → State → Frame → Instruction → Pause
line_pause w t v delivered n s f i =
    if leave_due delivered (v f.version) i.operation
    then record { state = record s { stack = Active f ∷ s.stack }; passed = n; due = Ends kind.Leave }
    else again_pause w t v n (frame_held v f ∷ helds v s.stack) i s f (starts (does w i.operation s.shared f.locals f.operands).outcome)
    (turn_pause w t v n (frame_held v f ∷ helds v s.stack) (instruction_attempted w t i s f))

abbrev pub frame_pause : World → Listing → (ℕ → Mark) → Bool → ℕ → State → Frame → Option Instruction → Pause
frame_pause w t v delivered n s f None = record { state = breaks s f 0; passed = n; due = Nothing }
frame_pause w t v delivered n s f (Some i) = line_pause w t v delivered n s f i

abbrev pub stack_pause : World → Listing → (ℕ → Mark) → Bool → ℕ → State → Option Ending → List Entry → Pause
stack_pause w t v delivered n s None (Active f ∷ below) = frame_pause w t v delivered n (record s { stack = below }) f (t.at f.version f.place)
stack_pause w t v delivered n s _ _ = record { state = s; passed = n; due = Nothing }

-- Its classes are loaded, and so many changes of the step are behind it; whether the probe before its return has told.
abbrev pub step_pause : World → Listing → (ℕ → Mark) → Bool → ℕ → State → Pause
step_pause w t v delivered n s = stack_pause w t v delivered n s s.ending s.stack

-- a return stands there
abbrev pub is_at_return : Listing → Option Ending → List Entry → Bool
is_at_return t None (Active f ∷ below) = option_map_or (λ (i : Instruction). is_return i.operation) (t.at f.version f.place) false
is_at_return t _ _ = false

-- The end that was told comes next: the return is attempted, or the current frame is taken off.
abbrev pub Awaits : World → Listing → Todo → State → Type 0
Awaits w t Attempt s = is_at_return t s.ending s.stack ≡ true
Awaits w t Moves s = Unwinds w t s

-- what an attempt needs is loaded
abbrev pub NeedsNoLoad : World → Listing → Todo → State → Type 0
NeedsNoLoad w t Attempt s = step_loads w t s ≡ []
NeedsNoLoad w t Moves s = Unit {0}

-- What it has to do with the step.
pub record IsStepPaused (w : World) (t : Listing) (v : ℕ → Mark) (delivered : Bool) (n : ℕ) (s : State) (p : Pause) : Type 0 where
  pub todo : Todo
  pub changes : List Change
  pub part : IsPart w t Attempt s changes todo p.state
  pub count : p.passed ≡ passed_by n changes
  pub stops : stop_from (mark_now v t) delivered n (helds v s.stack) (rest w t Attempt s).changes ≡ stop_of v p
  pub ends : p.due ≡ Nothing → rest w t todo p.state ≡ still p.state
  pub awaits : is_end p.due ≡ true → Awaits w t todo p.state
  pub loaded : NeedsNoLoad w t todo p.state
  pub later : (p.due ≡ Nothing → ⊥) → todo ≡ later_of p.due
