-- What a machine's state is made of, what an instruction is, and what it asks for (JVM Specification 2.5, 2.6, 2.10,
-- 5.5).
use Rattle.std.specs.Prelude.{ℕ, Bool, List, Option, ℤ}
pub use Rattle.heap_objects.specs.declared.datum.Datum.{Datum}
pub use Rattle.heap_objects.specs.declared.Value.{Value}
pub use Rattle.jvm_model.specs.declared.ending.Ending.{Ending}
pub use Rattle.jvm_model.specs.declared.ending.Ending.TheVariants.{Returned, Exited, Uncaught, Unverifiable}
pub use Rattle.jvm_model.specs.declared.program.MethodPlace.{MethodPlace}
pub use Rattle.jvm_model.specs.declared.program.Program.{Program}
pub use Rattle.jvm_model.specs.declared.family.IntOperator.{IntOperator}
pub use Rattle.jvm_model.specs.declared.family.LongOperator.{LongOperator}
pub use Rattle.jvm_model.specs.declared.family.Division.{Division}
pub use Rattle.jvm_model.specs.declared.family.LongShift.{LongShift}
pub use Rattle.jvm_model.specs.declared.family.OfInt.{OfInt}
pub use Rattle.jvm_model.specs.declared.family.OfLong.{OfLong}
pub use Rattle.jvm_model.specs.declared.family.Comparison.{Comparison}
pub use Rattle.jvm_model.specs.declared.family.Test.{Test}
pub use Rattle.jvm_model.specs.declared.family.Test.TheVariants.{WithZero, OfInts, OfReferences, IsNull}
pub use Rattle.jvm_model.specs.declared.family.StackInstruction.{StackInstruction}
pub use Rattle.jvm_model.specs.declared.instruction.Keys.{Keys}
pub use Rattle.jvm_model.specs.declared.instruction.Keys.TheVariants.{Consecutive, Listed}
pub use Rattle.jvm_model.specs.declared.instruction.Local.{Local}
pub use Rattle.jvm_model.specs.declared.instruction.Local.TheVariants.{Nop, Constant, Load, Store, ManageStack, BinaryOfInts, BinaryOfLongs, DivisionOfInts, DivisionOfLongs, ShiftOfLong, UnaryOfInt, UnaryOfLong, Lcmp, Iinc, Branch, Goto, Switch, Jsr, Ret, Return}
pub use Rattle.jvm_model.specs.declared.instruction.SymbolicReference.{SymbolicReference}
pub use Rattle.jvm_model.specs.declared.instruction.SymbolicReference.TheVariants.{New, Getfield, Putfield, Getstatic, Putstatic, Invokevirtual, Invokespecial, Invokestatic, Invokeinterface, Checkcast, Instanceof, Anewarray, Multianewarray, LdcClass}
pub use Rattle.jvm_model.specs.declared.instruction.Operation.{Operation}
pub use Rattle.jvm_model.specs.declared.instruction.Operation.TheVariants.{Within, Named, Athrow, Monitor, Newarray, Arraylength, LoadElement, StoreElement, LdcString}
pub use Rattle.jvm_model.specs.declared.state.Frame.{Frame}
pub use Rattle.jvm_model.specs.declared.state.Part.{Part}
pub use Rattle.jvm_model.specs.declared.state.Part.TheVariants.{Constants, Superclass, Initializer, Finish}
pub use Rattle.jvm_model.specs.declared.state.Entry.{Entry}
pub use Rattle.jvm_model.specs.declared.state.Entry.TheVariants.{Active, Initializing}
pub use Rattle.jvm_model.specs.declared.state.Phase.{Phase}
pub use Rattle.jvm_model.specs.declared.state.Phase.TheVariants.{Fresh, Running, Ready, Erroneous}
pub use Rattle.jvm_model.specs.declared.state.Shared.{Shared}
pub use Rattle.jvm_model.specs.declared.state.State.{State}

abbrev pub Locals : Type 0
Locals = List (Option Value)

abbrev pub Operands : Type 0
Operands = List Value

-- What is run: a program on an input. The rules of instructions see both, and no version of a method.
pub record World : Type 0 where
  pub program : Program
  pub input : List ℕ

-- ---- instructions

-- one form of a stack instruction: which of the topmost operands are long, and which of them are put in their place
pub record StackForm : Type 0 where
  pub takes : List Bool
  pub puts : List ℕ

-- An instruction in a method: its offset in the original code, the place behind it, unless control never goes on there,
-- and the places that it names.
pub record Instruction : Type 0 where
  pub operation : Operation Local
  pub own : ℕ
  pub next : Option ℕ
  pub targets : List ℕ

-- An entry of an exception table (2.10, 4.7.3), with the name of the class that it catches; without one it catches all.
pub record Catcher : Type 0 where
  pub start : ℕ
  pub finish : ℕ
  pub target : ℕ
  pub catches : Option (List ℕ)

-- The listing of the code that is run: which version a method begins in, and at which place; and for each version the
-- instruction at a place, and the handlers. Original code is the listing in which places are offsets and each method's
-- version is its number.
pub record Listing : Type 0 where
  pub current : ℕ → ℕ
  pub first : ℕ → ℕ
  pub at : ℕ → ℕ → Option Instruction
  pub handlers : ℕ → List Catcher

-- ---- what an instruction asks for

-- where a frame goes on: behind the instruction, at one of its targets, or at a return address that it found
pub data Where : Type 0 where
  Next : Where
  Target : ℕ → Where
  Back : ℕ → Where

-- What an instruction asks for. It knows no place but a return address that it found, so that it can compute with none.
pub data Outcome : Type 0 where
  -- the frame goes on with these locals and operands
  GoesOn : Locals → Operands → Where → Outcome
  -- it goes on at its first target, with the place behind it as a return address
  Subroutine : Outcome
  -- a method is invoked with these arguments; these operands are left
  Invokes : ℕ → List Datum → Operands → Outcome
  Returns : Option Datum → Outcome
  -- an object is thrown, or an exception of the class of this name, which the machine makes, with this message
  Throws : ℕ → Outcome
  Raises : List ℕ → Option (List ℕ) → Outcome
  -- the class at this position is initialized before
  Initializes : ℕ → Outcome
  Exits : ℤ → Outcome
  -- the code is unverifiable; whether the activation ends, as it does at a return
  Breaks : Bool → Outcome

-- with what is shared afterwards, and what was written: an instruction sees no output, and can but add to it
pub record Done : Type 0 where
  pub shared : Shared
  pub wrote : List ℕ
  pub outcome : Outcome

-- ---- what a step does

-- What a step did to the classes and activations, in order: it loaded these classes, an activation of this method
-- began, the current one ended at a return, or it was unwound by a throw.
pub data Change : Type 0 where
  Loads : List ℕ → Change
  Began : ℕ → Change
  Left : Change
  Unwound : Change

-- a state, and the changes on the way to it
pub record Turn : Type 0 where
  pub after : State
  pub changes : List Change
