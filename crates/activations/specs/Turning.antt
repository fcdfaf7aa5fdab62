-- Moves over versions with probes, one at a time: what each has done, and up to which the machine makes them before it
-- tells something.
use Rattle.std.specs.Prelude.{ℕ, suc, Bool, true, false, List, [], ◌∷◌, map, drop, length, is_some, Option, Some, None, ◌==◌}
use Rattle.std.specs.Option.{option_map_or}
use Rattle.frame_stack.specs.FrameLists.{PlacedFrame}
use Rattle.jvm_model.specs.declared.state.State.{State}
use Rattle.jvm_model.specs.Basis.Data.{Change, Began, Turn}
use Rattle.jvm_model.specs.Running.Moves.{move}
use Rattle.jvm_model.specs.Turns.Told.{Held, helds, mark_now}
use Rattle.jvm_model.specs.Turns.InHand.{frame_popped}
use Rattle.jvm_model.specs.Turns.Rest.{step_loads}
use Rattle.jvm_model.specs.declared.due.Due.{Due}
use Rattle.jvm_model.specs.declared.due.Due.TheVariants.{Nothing, Ends, Begins}
use Rattle.jvm_model.specs.declared.event.EventKind.TheVariants as kind
use Rattle.jvm_model.specs.Turns.Pauses.{changes_due, end_due, unless_off, Pause, step_paused}
use Rattle.activations.specs.declared.turning.Moved.{Moved}
use Rattle.activations.specs.declared.turning.Moved.TheVariants as moved
use Rattle.prepared_code.specs.States.{active}
use Rattle.activations.specs.Settling.{after_move}
use Rattle.prepared_code.specs.Tables.{Versions}
use Rattle.prepared_code.specs.Versions.{Setup, listing_of, mark_of}

abbrev pub helds_in : Versions → List PlacedFrame → List Held
helds_in v fs = helds (mark_of v) (map active fs)

-- the method that has begun by a move
abbrev pub begun_in : List Change → Option ℕ
begun_in (Began m ∷ more) = Some m
begun_in _ = None

-- ---- one move

abbrev pub found_move : Setup → State → Option Turn
found_move w s = move w.world (listing_of w.versions) s

abbrev pub changes_of : Option Turn → List Change
changes_of next = option_map_or (λ (turn : Turn). turn.changes) next []

-- what is due by such changes
abbrev pub due_by : Setup → State → List Change → Due
due_by w s changes = changes_due (mark_now (mark_of w.versions) (listing_of w.versions)) (helds (mark_of w.versions) s.stack) changes

-- an end that a probe tells of has not come yet
abbrev pub moved_by : List Change → Due → Moved
moved_by [] due = moved.On
moved_by (c ∷ more) (Ends k) = moved.Unwinds
moved_by (c ∷ more) Begins = moved.Enters
moved_by (Began m ∷ more) Nothing = moved.Began
moved_by (c ∷ more) Nothing = moved.Unwound

abbrev pub moved_if : Bool → List Change → Due → Moved
moved_if true changes due = moved_by changes due
moved_if false changes due = moved.Nothing

abbrev pub moved_as : Setup → State → Moved
moved_as w s = let next = found_move w s in moved_if (is_some next) (changes_of next) (due_by w s (changes_of next))

abbrev pub state_by : State → State → Due → State
state_by s after (Ends k) = s
state_by s after Nothing = after
state_by s after Begins = after

abbrev pub moved_to : Setup → State → State
moved_to w s = state_by s (after_move w s) (due_by w s (changes_of (found_move w s)))

-- what a method that begins comes to
abbrev pub begun_as : Versions → Option ℕ → Moved
begun_as v None = moved.On
begun_as v (Some m) = moved_by (Began m ∷ []) (unless_off (mark_now (mark_of v) (listing_of v) m) Begins)

-- the frames with the current one taken off, unless a probe tells of that first
abbrev pub unwound_by : Due → List PlacedFrame → List PlacedFrame
unwound_by (Ends k) fs = fs
unwound_by Nothing fs = drop 1 fs
unwound_by Begins fs = drop 1 fs

abbrev pub unwind_due : Versions → List PlacedFrame → Due
unwind_due v fs = end_due kind.Unwind (helds_in v fs)

-- ---- all moves, up to the first that is told

-- where the machine has stopped: its state, how many changes of the step are behind it, and what is due
abbrev pub pause_at : State → ℕ → Due → Pause
pause_at s n due = record { state = s; passed = n; due = due }

abbrev pub paused_in : Setup → ℕ → State → Pause
paused_in w n s = step_paused w.world (listing_of w.versions) (mark_of w.versions) n s

-- behind the event of an unwinding, the frame is taken off
abbrev pub frame_resumed : Bool → State → State
frame_resumed true s = frame_popped s
frame_resumed false s = s

abbrev pub resumed_count : Bool → ℕ → ℕ
resumed_count true n = suc n
resumed_count false n = n

-- where moves alone are left of a step
abbrev pub goes_by_moves : Setup → Bool → ℕ → State → Pause
goes_by_moves w delivered n s = paused_in w (resumed_count delivered n) (frame_resumed delivered s)

-- ---- an attempt in two parts

-- the classes that a step loads first
abbrev pub loads_in : Setup → State → List ℕ
loads_in w s = step_loads w.world (listing_of w.versions) s

abbrev pub loads_none : Setup → State → Bool
loads_none w s = length (loads_in w s) == 0
