-- What becomes of a state, or of the parts of a machine, by what an instruction asks for (JVM Specification 2.6.4,
-- 2.6.5, 2.10).
use Rattle.std.specs.Prelude.{◌≡◌, ℕ, List, [], ◌∷◌, Option, Some, None}
use Rattle.std.specs.Option.{option_map}
use Rattle.heap_objects.specs.declared.datum.Datum.{Datum}
use Rattle.const_pool.specs.declared.descriptor.Kind.{Kind}
use Rattle.frame_stack.specs.FrameLists.{PlacedFrame}
use Rattle.jvm_model.specs.declared.ending.Ending.TheVariants.{Unverifiable}
use Rattle.jvm_model.specs.declared.state.Entry.{Entry}
use Rattle.jvm_model.specs.declared.state.Entry.TheVariants.{Active, Initializing}
use Rattle.jvm_model.specs.declared.state.Frame.{Frame}
use Rattle.jvm_model.specs.declared.state.State.{State}
use Rattle.jvm_model.specs.Basis.Data.{Instruction, Outcome, Returns, World}
use Rattle.jvm_model.specs.declared.instruction.Local.TheVariants.{Nop}
use Rattle.jvm_model.specs.declared.instruction.Operation.TheVariants.{Within}
use Rattle.jvm_model.specs.Running.Applies.{breaks, goes, applies}
use Rattle.jvm_model.specs.Codes.Lines.{targets_of}
use Rattle.jvm_model.specs.Instructions.LocalRules.{returns}
use Rattle.jvm_model.specs.Basis.SharedState.{Allocated, exception_raised}
use Rattle.jvm_model.specs.Basis.Values.{as_value, with_value}
use Rattle.jvm_basic.specs.declared.effect.Effect.{Effect}
use Rattle.jvm_basic.specs.declared.effect.Effect.TheVariants.{Next, Throws, Bad, Other}
use Rattle.prepared_lines.specs.declared.line.Line.{Line}
use Rattle.jvm_model.specs.declared.exception.Exception.{Exception}
use Rattle.prepared_code.specs.declared.parts.Parts.{Parts}
use Rattle.symbolic_references.specs.Runtimes.{with_shared}
use Rattle.jvm_model.specs.Instructions.Exceptions.{exception_name}
use Rattle.prepared_code.specs.States.{frame_in, state_with, state_in}
use Rattle.prepared_code.specs.Versions.{Setup, next_in, listing_of, line_at}
use Rattle.prepared_code.specs.Tables.{Versions}

-- the instruction that the line stands for, where control goes on behind it
abbrev pub placed_line : Line → Instruction
placed_line line = record { operation = Within Nop; own = line.instr.at; next = Some line.next; targets = targets_of line.instr.arg }

-- a caller goes on behind its own line, with the result on top
abbrev pub resumes_line : State → Frame → Option Datum → Option Line → State
resumes_line s caller d None = breaks s caller 0
resumes_line s caller d (Some line) = goes s caller line.instr.at caller.locals (with_value (option_map as_value d) caller.operands) (next_in line)

abbrev pub gives_back_line : Versions → State → Option Datum → List Entry → State
gives_back_line v s d [] = s
gives_back_line v s d (Initializing c part ∷ below) = s
gives_back_line v s d (Active caller ∷ below) = resumes_line (record s { stack = below }) caller d (line_at v caller.version caller.place)

-- where its operand is missing or of another kind the activation ends with the run
abbrev pub returns_or_ends : Setup → Line → State → Frame → Outcome → State
returns_or_ends w line s f (Returns d) = gives_back_line w.versions s d s.stack
returns_or_ends w line s f _ = record s { ending = Some (Unverifiable f.method line.instr.at) }

abbrev pub acts_return : Setup → Line → Option Kind → State → Frame → State
acts_return w line k s f = returns_or_ends w line s f (returns k f.operands)

-- where it changes nothing that is shared
abbrev pub acts_asked : Setup → Line → State → Frame → Outcome → State
acts_asked w line s f q = (applies w.world (listing_of w.versions) (placed_line line) q s f).after

-- what becomes of the top frame and the state without it, if there is a frame
abbrev pub on_top : (State → Frame → State) → Parts → List PlacedFrame → State
on_top does p [] = state_in p
on_top does p (f ∷ fs) = does (state_with fs p) (frame_in f)

abbrev pub on_parts : (State → Frame → State) → Parts → State
on_parts does p = on_top does p p.frames.frames

-- the current frame is one of this method
abbrev pub IsTop : ℕ → List PlacedFrame → Type 0
IsTop method [] = ⊥
IsTop method (f ∷ fs) = method ≡ f.method

-- the run ends at this offset of this method
abbrev pub run_ended : ℕ → ℕ → Parts → Parts
run_ended method own p = record p { ending = Some (Unverifiable method own) }

-- it ends, unless the frame has gone on
abbrev pub ended_unless : ℕ → ℕ → Effect → Parts → Parts
ended_unless method own Next p = p
ended_unless method own (Throws class) p = run_ended method own p
ended_unless method own Bad p = run_ended method own p
ended_unless method own Other p = run_ended method own p

-- what was made is thrown
abbrev pub with_allocated : Allocated → Parts → Parts
with_allocated a p = record p { runtime = with_shared a.shared p.runtime; thrown = Some a.reference }

-- an exception of the class with this name is thrown, with this message
abbrev pub raised_in : World → List ℕ → Option (List ℕ) → Parts → Parts
raised_in w name message p = let a = exception_raised w p.runtime.shared name message in with_allocated a p

-- one that the machine makes
abbrev pub raising : World → Exception → Option (List ℕ) → Parts → Parts
raising w e message p = raised_in w (exception_name e) message p

-- a return that no caller sees: the activation of a static initializer ends
abbrev pub ends_initializer : Line → State → Frame → Outcome → State
ends_initializer line s f (Returns d) = s
ends_initializer line s f _ = record s { ending = Some (Unverifiable f.method line.instr.at) }

abbrev pub acts_end : Line → Option Kind → State → Frame → State
acts_end line k s f = ends_initializer line s f (returns k f.operands)
