-- What the rule of an instruction which names something says of the current frame, over what it loads, and the
-- arguments of a method that is invoked (JVM Specification 5.4.3, 6.5).
use Rattle.std.specs.Prelude.{◌≡◌, List, ◌++◌, Some, drop, length, reverse, take}
use Rattle.heap_objects.specs.declared.datum.Datum.{Datum}
use Rattle.const_pool.specs.declared.descriptor.Kind.{Kind}
use Rattle.frame_stack.specs.FrameLists.{PlacedFrame, top_operands}
use Rattle.jvm_basic.specs.Outcomes.{top_locals}
use Rattle.jvm_model.specs.declared.state.Shared.{Shared}
use Rattle.jvm_model.specs.Basis.Data.{Done, Invokes, Operands, Outcome}
use Rattle.jvm_model.specs.Basis.Values.{data_of}
use Rattle.jvm_model.specs.declared.instruction.SymbolicReference.{SymbolicReference}
use Rattle.jvm_model.specs.Instructions.SymbolicReference.{newly_loaded}
use Rattle.jvm_model.specs.Instructions.ReferenceRules.{does_named}
use Rattle.prepared_code.specs.Versions.{Setup}

abbrev pub done_top : Setup → SymbolicReference → Shared → List PlacedFrame → Done
done_top w n s fs =
    let ready = record s { loaded = s.loaded ++ newly_loaded w.world.program s.loaded n (top_operands fs) } in
    does_named w.world n ready (top_locals fs) (top_operands fs)

-- the arguments are the topmost operands, each of its kind, and are taken off
pub record Takes (o : Operands) (args : List Datum) (below : Operands) : Type 0 where
  pub kinds : List Kind
  pub are : data_of kinds (reverse (take (length kinds) o)) ≡ Some args
  pub off : below ≡ drop (length args) o

-- those of a method that is invoked are such
abbrev pub TakesArguments : Outcome → Operands → Type 0
TakesArguments (Invokes m args below) o = Takes o args below
TakesArguments q o = Unit {0}
