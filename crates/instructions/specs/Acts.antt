-- What becomes of a state by the line of its current frame (JVM Specification 2.6.4, 2.6.5, 2.10, 6.5): what `applies`
-- of the model says of the instruction that the line stands for. From the state without that frame, and the frame.
use Rattle.std.specs.Prelude.{◌≡◌, ℕ, Bool, true, false, ◌&&◌, ◌||◌, is_some, is_none, List, [], ◌∷◌, ◌++◌, Option, Some, None, Result, OnOk}
use Rattle.jf_bytes.specs.declared.error.NoMemory.{NoMemory}
use Rattle.std.specs.Option.{option_map_or}
use Rattle.frame_stack.specs.FrameLists.{PlacedFrame, has_frame}
use Rattle.jvm_model.specs.declared.state.Entry.{Entry}
use Rattle.jvm_model.specs.declared.state.Entry.TheVariants.{Active}
use Rattle.jvm_model.specs.declared.state.Frame.{Frame}
use Rattle.jvm_model.specs.declared.state.State.{State}
use Rattle.jvm_model.specs.declared.state.Shared.{Shared}
use Rattle.jvm_model.specs.Basis.Data.{Locals, Operands, Done, World}
use Rattle.jvm_model.specs.Basis.Data as model
use Rattle.jvm_model.specs.declared.instruction.SymbolicReference.{SymbolicReference}
use Rattle.jvm_model.specs.declared.instruction.Operation.{Operation}
use Rattle.jvm_model.specs.declared.instruction.Operation.TheVariants as operation
use Rattle.jvm_model.specs.Running.Applies.{breaks, goes, throws_at}
use Rattle.jvm_model.specs.Instructions.ConstantRules.{pushes_string}
use Rattle.jvm_model.specs.Instructions.LocalRules.{arithmetic_exception, by_zero}
use Rattle.jvm_model.specs.Instructions.SymbolicReference.{newly_loaded}
use Rattle.jvm_model.specs.Instructions.ReferenceRules.{does_named}
use Rattle.jvm_model.specs.Instructions.ObjectRules.{done, loads_element, makes, measures, array_element_of, stores_element, storing_of, throws, watches}
use Rattle.jvm_model.specs.Running.Run.{starts}
use Rattle.jvm_model.specs.Basis.SharedState.{exception_raised}
use Rattle.jvm_model.specs.Basis.Values.{int_of, ref_of}
use Rattle.jvm_basic.specs.Outcomes.{Outcome as Comes, GoesOn, Raises, Breaks, Leaves}
use Rattle.jvm_basic.specs.Rules.{rule_of}
use Rattle.prepared_lines.specs.declared.line.LocalAction.{LocalAction}
use Rattle.prepared_lines.specs.declared.line.LocalAction.TheVariants as local_action
use Rattle.prepared_lines.specs.declared.line.Line.{Line}
use Rattle.prepared_code.specs.declared.initializations.Initialization.{Initialization}
use Rattle.prepared_code.specs.declared.parts.Parts.{Parts}
use Rattle.prepared_code.specs.Initializations.{is_executing, state_of, with_initializations}
use Rattle.prepared_code.specs.States.{frame_in, state_with, state_in}
use Rattle.prepared_code.specs.Versions.{Setup, line_at}
use Rattle.activations.specs.Applied.{acts_return, acts_asked, on_parts}

-- ---- what sees the frame alone

abbrev pub comes_to : Setup → Line → State → Frame → Comes → State
comes_to w line s f (GoesOn l o place) = goes s f line.instr.at l o (Some place)
comes_to w line s f (Raises class) = throws_at s f (exception_raised w.world s.shared arithmetic_exception (Some by_zero))
comes_to w line s f Breaks = breaks s f line.instr.at
comes_to w line s f Leaves = breaks s f line.instr.at

abbrev pub acts_alone : Setup → Line → State → Frame → State
acts_alone w line s f = comes_to w line s f (rule_of line.instr line.constant line.next f.locals f.operands)

-- ---- by what the model's rule asks for

-- and where it does
abbrev pub acts_done : Setup → Line → State → Frame → Done → State
acts_done w line s f d = acts_asked w line (record s { shared = d.shared }) f d.outcome

-- ---- instructions that name something

-- with the classes that it loads
abbrev pub ready_for : Setup → SymbolicReference → State → Frame → State
ready_for w n s f =
    record s { shared = record s.shared { loaded = s.shared.loaded ++ newly_loaded w.world.program s.shared.loaded n f.operands } }

-- what its rule says over what is loaded then
abbrev pub named_done : Setup → SymbolicReference → State → Frame → Done
named_done w n s f = does_named w.world n (ready_for w n s f).shared f.locals f.operands

-- what a rule leaves and writes
abbrev pub with_done : Done → State → State
with_done d s = record s { shared = d.shared; output = s.output ++ d.wrote }

abbrev pub acts_named : Setup → Line → SymbolicReference → State → Frame → State
acts_named w line n s f = let d = named_done w n s f in acts_asked w line (with_done d s) f d.outcome

-- ---- what an instruction that sees objects does to what is shared, and asks for

abbrev pub sees_objects : World → Operation LocalAction → Shared → Locals → Operands → Done
sees_objects w operation.Athrow s l o = done s (throws w s (ref_of o))
sees_objects w operation.Monitor s l o = done s (watches (ref_of o) l o)
sees_objects w operation.Arraylength s l o = done s (measures (ref_of o) s l o)
sees_objects w (operation.Newarray kind) s l o = makes kind (int_of o) s l o
sees_objects w (operation.LoadElement k) s l o = done s (loads_element k (array_element_of o) s l o)
sees_objects w (operation.StoreElement k) s l o = stores_element w.program k (storing_of k o) s l o
sees_objects w (operation.LdcString units) s l o = pushes_string w.program units s l o
sees_objects w _ s l o = done s (model.Breaks false)

-- where it is a newarray, of its kind
abbrev pub IfNewarray : Operation LocalAction → (ℕ → Type 0) → Type 0
IfNewarray (operation.Newarray kind) Holds = Holds kind
IfNewarray _ Holds = Unit {0}

-- ---- every line

abbrev pub acts_by : Setup → Line → State → Frame → Operation LocalAction → State
acts_by w line s f (operation.Within local_action.Basic) = acts_alone w line s f
acts_by w line s f (operation.Within (local_action.Return k)) = acts_return w line k s f
acts_by w line s f (operation.Named n) = acts_named w line n s f
acts_by w line s f o = acts_done w line s f (sees_objects w.world o s.shared f.locals f.operands)

abbrev pub acts : Setup → Line → State → Frame → State
acts w line s f = acts_by w line s f line.operation

-- what stands at the frame's place is attempted; where nothing does the run ends
abbrev pub attempts_line : Setup → State → Frame → Option Line → State
attempts_line w s f None = breaks s f 0
attempts_line w s f (Some line) = acts w line s f

abbrev pub attempts_on : Setup → State → List Entry → State
attempts_on w s (Active f ∷ below) = attempts_line w (record s { stack = below }) f (line_at w.versions f.version f.place)
attempts_on w s _ = s

-- ---- the parts of a machine

-- the parts are then that state
abbrev pub Becomes : {A : Type 0} → Result A NoMemory → Parts → (State → Frame → State) → Parts → Type 0
Becomes result new does old = OnOk result (state_in new ≡ on_parts does old)

-- nothing follows by itself: the run has ended, or nothing is thrown, and there is a frame with no initialization on it
abbrev pub is_at_rest : List Initialization → Parts → Bool
is_at_rest ms p = is_some p.ending || (is_none p.thrown && (has_frame p.frames.frames && is_executing ms p))

-- the run has not ended, and there is a frame with no initialization on it
abbrev pub goes_on_in : List Initialization → Parts → Bool
goes_on_in ms p = is_none p.ending && (has_frame p.frames.frames && is_executing ms p)

-- ---- a class that is initialized before

abbrev pub is_named : Operation LocalAction → Bool
is_named (operation.Named n) = true
is_named _ = false

abbrev pub named_in : Option Line → Bool
named_in line = option_map_or (λ (l : Line). is_named l.operation) line false

-- by a line with this operation (5.5)
abbrev pub class_awaited : Setup → State → Frame → Operation LocalAction → Option ℕ
class_awaited w s f (operation.Named n) = starts (named_done w n s f).outcome
class_awaited w s f _ = None

abbrev pub awaited_by : Setup → State → Frame → Option Line → Option ℕ
awaited_by w s f None = None
awaited_by w s f (Some line) = class_awaited w s f line.operation

-- by the line of the current frame
abbrev pub awaited_on : Setup → State → List Entry → Option ℕ
awaited_on w s (Active f ∷ below) = awaited_by w (record s { stack = below }) f (line_at w.versions f.version f.place)
awaited_on w s _ = None

abbrev pub awaited_in : Setup → State → Option ℕ
awaited_in w s = awaited_on w s s.stack

-- the parts are then, beneath these initializations, what becomes of the state by its top frame
abbrev pub becomes_beneath : List Initialization → (State → Frame → State) → Parts → List PlacedFrame → State
becomes_beneath ms does p [] = state_of ms p
becomes_beneath ms does p (f ∷ fs) = does (with_initializations ms (state_with fs p)) (frame_in f)

abbrev pub BecomesBeneath : {A : Type 0} → Result A NoMemory → List Initialization → Parts → (State → Frame → State) → Parts → Type 0
BecomesBeneath result ms new does old = OnOk result (state_of ms new ≡ becomes_beneath ms does old old.frames.frames)
