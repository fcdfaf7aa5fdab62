-- What one instruction is prepared to: a line, with the names that it gives (JVM Specification 6.5).
use Rattle.std.specs.Prelude.{ℕ, Option}
use Rattle.std.specs.Option.{option_map}
use Rattle.const_pool.specs.declared.class.ClassFile.{ClassFile}
use Rattle.code_model.specs.declared.instr.Arg.{Arg}
use Rattle.code_model.specs.declared.instr.Instr.{Instr}
use Rattle.code_model.specs.Instructions.{end_of}
use Rattle.jvm_model.specs.declared.instruction.Local.{Local}
use Rattle.jvm_model.specs.declared.instruction.Local.TheVariants.{Return}
use Rattle.jvm_model.specs.Basis.Families.{family_of}
use Rattle.jvm_model.specs.Codes.Lines.{constant_in, operation_of}
use Rattle.jvm_model.specs.Basis.Values.{as_value}
use Rattle.jvm_model.specs.declared.family.Family.{Family}
use Rattle.jvm_basic.specs.declared.hot.Hot.{Hot}
use Rattle.jvm_basic.specs.declared.hot.Hot.TheVariants as hot
use Rattle.jvm_basic.specs.Hot.{hot_by}
use Rattle.jvm_model.specs.declared.instruction.Operation.{Operation}
use Rattle.jvm_model.specs.declared.instruction.Operation.TheVariants as operation
use Rattle.prepared_lines.specs.declared.line.LocalAction.{LocalAction}
use Rattle.prepared_lines.specs.declared.line.LocalAction.TheVariants as local_action
use Rattle.prepared_lines.specs.declared.line.Line.{Line}

-- ---- operations, as lines keep them

-- returns end an activation; all others that see their frame alone are done by it
abbrev pub local_kept : Local → LocalAction
local_kept (Return k) = local_action.Return k
local_kept _ = local_action.Basic

abbrev pub operation_kept : Operation Local → Operation LocalAction
operation_kept (operation.Within i) = operation.Within (local_kept i)
operation_kept (operation.Named n) = operation.Named n
operation_kept operation.Athrow = operation.Athrow
operation_kept operation.Monitor = operation.Monitor
operation_kept (operation.Newarray kind) = operation.Newarray kind
operation_kept operation.Arraylength = operation.Arraylength
operation_kept (operation.LoadElement k) = operation.LoadElement k
operation_kept (operation.StoreElement k) = operation.StoreElement k
operation_kept (operation.LdcString units) = operation.LdcString units

-- ---- lines

-- as it is run: what its frame does by itself by its form, elements by their kind, and nothing of the others
abbrev pub hot_in : Operation LocalAction → Family → Arg → ℕ → Hot
hot_in (operation.Within local_action.Basic) f a next = hot_by f a next
hot_in (operation.LoadElement k) f a next = hot.LoadElement k
hot_in (operation.StoreElement k) f a next = hot.StoreElement k
hot_in _ f a next = hot.Cold

abbrev pub line_with : ClassFile → Instr → Operation LocalAction → Line
line_with c i o = record {
  hot = hot_in o (family_of i.op) i.arg (end_of i);
  instr = i;
  family = family_of i.op;
  constant = option_map as_value (constant_in c.pool i.arg);
  next = end_of i;
  operation = o;
}

abbrev pub line_of : ClassFile → Instr → Option Line
line_of c i = option_map (line_with c i) (option_map operation_kept (operation_of c i))
