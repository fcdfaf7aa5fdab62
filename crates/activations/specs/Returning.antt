-- Returns over the parts of a machine.
use Rattle.std.specs.Prelude.{ℕ, Bool, true, List, [], ◌∷◌, Option, Some, None, is_some}
use Rattle.std.specs.Option.{option_map}
use Rattle.heap_objects.specs.declared.datum.Datum.{Datum}
use Rattle.const_pool.specs.declared.descriptor.Kind.{Kind}
use Rattle.frame_stack.specs.FrameLists.{top_operands, without_frame}
use Rattle.jvm_model.specs.Basis.Data.{Operands}
use Rattle.prepared_code.specs.Tables.{Versions}
use Rattle.jvm_model.specs.Basis.Values.{as_value, with_value}
use Rattle.jvm_model.specs.Running.Applies.{breaks, goes}
use Rattle.jvm_model.specs.declared.state.Entry.{Entry}
use Rattle.jvm_model.specs.declared.state.Entry.TheVariants.{Active, Initializing}
use Rattle.jvm_model.specs.declared.state.Frame.{Frame}
use Rattle.jvm_model.specs.declared.state.State.{State}
use Rattle.prepared_code.specs.declared.passage.Passage.{Passage}
use Rattle.prepared_code.specs.declared.parts.Parts.{Parts}
use Rattle.activations.specs.Applied.{run_ended, gives_back_line}
use Rattle.activations.specs.Going.{top_datum}
use Rattle.prepared_code.specs.States.{state_in}

-- a caller goes on, by what is known of its line
abbrev pub resumes_by : State → Frame → Option Datum → Option Passage → State
resumes_by s caller d None = breaks s caller 0
resumes_by s caller d (Some q) = goes s caller q.own caller.locals (with_value (option_map as_value d) caller.operands) q.next

abbrev pub gives_back_by : State → Option Datum → Option Passage → List Entry → State
gives_back_by s d q [] = s
gives_back_by s d q (Initializing c part ∷ below) = s
gives_back_by s d q (Active caller ∷ below) = resumes_by (record s { stack = below }) caller d q

-- without the current frame
abbrev pub left_by : Parts → State
left_by p = state_in (record p { frames = without_frame p.frames })

-- with this operand, if it has one
abbrev pub returns_found : Versions → ℕ → ℕ → Option Datum → Parts → State
returns_found v method own None parts = left_by (run_ended method own parts)
returns_found v method own (Some d) parts = let s = left_by parts in gives_back_line v s (Some d) s.stack

abbrev pub returns_given : Versions → ℕ → ℕ → Kind → Parts → State
returns_given v method own k parts = returns_found v method own (top_datum k (top_operands parts.frames.frames)) parts

-- the operand on top is a result of this kind, where there is to be one
abbrev pub has_result : Option Kind → Operands → Bool
has_result None o = true
has_result (Some k) o = is_some (top_datum k o)
