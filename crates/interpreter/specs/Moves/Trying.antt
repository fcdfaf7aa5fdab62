-- A step that begins with an attempt, over the frames: what it has changed, and where it stops.
use Rattle.std.specs.Prelude.{ℕ, Bool, true, false, not, List, [], ◌∷◌, length, Option, Some, None, nat_lt, ◌&&◌, ◌==◌}
use Rattle.frame_stack.specs.FrameLists.{PlacedFrame}
use Rattle.jvm_model.specs.declared.due.Due.{Due}
use Rattle.jvm_model.specs.declared.due.Due.TheVariants.{Nothing, Ends, Begins}
use Rattle.jvm_model.specs.declared.state.State.{State}
use Rattle.jvm_model.specs.declared.instruction.Operation.{Operation}
use Rattle.jvm_model.specs.declared.instruction.Operation.TheVariants as operation
use Rattle.jvm_model.specs.Basis.Data.{Change}
use Rattle.jvm_model.specs.Rewriting.Images.{is_off}
use Rattle.jvm_model.specs.Running.Run.{is_going_on, is_ready}
use Rattle.jvm_model.specs.Basis.SharedState.{phase_of}
use Rattle.jvm_model.specs.Turns.Told.{mark_now}
use Rattle.jvm_model.specs.Running.Between.{changes_between, depths_compared, attempt_followed}
use Rattle.jvm_model.specs.Turns.Pauses.{Pause, changes_due}
use Rattle.jvm_model.specs.Turns.StepPauses.{is_nothing, step_pause}
use Rattle.prepared_lines.specs.declared.line.LocalAction.{LocalAction}
use Rattle.prepared_lines.specs.declared.line.LocalAction.TheVariants as local_action
use Rattle.prepared_lines.specs.declared.line.Line.{Line}
use Rattle.prepared_code.specs.Tables.{Versions}
use Rattle.prepared_code.specs.Versions.{Setup, line_at, listing_of, mark_of}

-- ---- before an attempt

-- the line is a return
abbrev pub returns_by : Operation LocalAction → Bool
returns_by (operation.Within (local_action.Return k)) = true
returns_by _ = false

abbrev pub is_return_line : Option Line → Bool
is_return_line None = false
is_return_line (Some line) = returns_by line.operation

-- a probe tells of it first
abbrev pub leaves_at : Versions → ℕ → ℕ → Bool
leaves_at v version place = not (is_off (mark_of v version)) && is_return_line (line_at v version place)

abbrev pub leaves_in : Versions → List PlacedFrame → Bool
leaves_in v [] = false
leaves_in v (f ∷ fs) = leaves_at v f.version f.place

-- ---- behind an attempt

-- what it has changed, by the frames, of which there were so many before
abbrev pub top_frame_method : List PlacedFrame → ℕ
top_frame_method [] = 0
top_frame_method (f ∷ fs) = f.method

abbrev pub changes_since : ℕ → List PlacedFrame → List Change
changes_since n fs = depths_compared (nat_lt (length fs) n) (nat_lt n (length fs)) (top_frame_method fs)

abbrev pub is_begins : Due → Bool
is_begins Begins = true
is_begins Nothing = false
is_begins (Ends k) = false

-- a method has begun of which a probe tells
abbrev pub enters_by : Versions → List Change → Bool
enters_by v changes = is_begins (changes_due (mark_now (mark_of v) (listing_of v)) [] changes)

-- where the step stops, where so many activations were live before
abbrev pub pause_behind_attempt : Setup → ℕ → ℕ → State → Pause
pause_behind_attempt w live n s =
    attempt_followed w.world (listing_of w.versions) (mark_of w.versions) n (changes_between live s.stack) s

-- its class is ready, and nothing else has happened
abbrev pub tries_again : ℕ → ℕ → Pause → Bool
tries_again n class p =
    is_nothing p.due && p.passed == n && is_ready (phase_of p.state.shared class) && is_going_on p.state.ending p.state.thrown

-- ---- all of it

abbrev pub tried_in : Setup → Bool → ℕ → State → Pause
tried_in w delivered n s = step_pause w.world (listing_of w.versions) (mark_of w.versions) delivered n s
