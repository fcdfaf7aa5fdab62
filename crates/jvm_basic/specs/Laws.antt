-- When an instruction is left to others, when it throws, and which operand it has.
use Rattle.std.specs.Prelude.{◌≡◌, ℕ, Bool, true, false, IsTrue, List, Option, Some, None, is_some, not, ◌||◌, ℤ, pos}
use Rattle.std.specs.Ordering.{int_eq}
use Rattle.std.specs.Int.{is_in_range}
use Rattle.op_table.specs.declared.Form.{Form}
use Rattle.op_table.specs.declared.Form.TheVariants.{Array, Interface, Multi, Pool, Wide, Unknown}
use Rattle.op_table.specs.Opcodes.{row_of}
use Rattle.code_model.specs.declared.instr.Arg.{Arg}
use Rattle.code_model.specs.declared.instr.Instr.{Instr}
use Rattle.code_model.specs.Instructions.{instruction_at}
use Rattle.jvm_model.specs.declared.family.Family.{Family}
use Rattle.jvm_model.specs.declared.family.Family.TheVariants.{DivisionOfInts, DivisionOfLongs, OperandConstant, Load, Store, Ret, Iinc, Branch, Goto, Jsr, Switch}
use Rattle.jvm_model.specs.Basis.Data.{Operands}
use Rattle.jvm_model.specs.Basis.Families.{family_of}
use Rattle.jvm_model.specs.Codes.Lines.{value_in, slot_in, increment_in, target_in, keys_in, object_among, object_rows}
use Rattle.jvm_model.specs.Basis.Values.{ints_of, longs_of}

abbrev pub is_no_instruction : Form → Bool
is_no_instruction Wide = true
is_no_instruction Unknown = true
is_no_instruction _ = false

-- Its operand names a member, a class or the type of an array; of what is named by an entry of the pool ldc_w and
-- ldc2_w load a constant.
abbrev pub names_something : ℕ → Form → Bool
names_something op Pool = not (is_in_range 19 20 op)
names_something op Interface = true
names_something op Multi = true
names_something op Array = true
names_something op _ = false

-- The opcodes that a frame does not do by itself (6.5): returns, what takes or gives a float or a double, what is no
-- instruction, as `wide` alone, what names something, and what is done with an object that it finds among the operands.
abbrev pub is_elsewhere : ℕ → Bool
is_elsewhere op =
    (row_of op).returns || ((row_of op).floating || (is_no_instruction (row_of op).form
    || (names_something op (row_of op).form || is_some (object_among object_rows op))))

abbrev pub has_zero_divisor : Option (ℤ × ℤ) → Bool
has_zero_divisor None = false
has_zero_divisor (Some p) = int_eq p.1 (pos 0)

-- idiv, irem, ldiv or lrem by 0
abbrev pub divides_by_zero : Family → Operands → Bool
divides_by_zero (DivisionOfInts op) o = has_zero_divisor (ints_of o)
divides_by_zero (DivisionOfLongs op) o = has_zero_divisor (longs_of o)
divides_by_zero _ o = false

-- ---- operands: what an instruction of a family has, as its opcode's form says

pub data Need : Type 0 where
  Nothing : Need
  Number : Need
  Slot : Need
  Increment : Need
  BranchTarget : Need
  Choice : Need

abbrev pub need_of : Family → Need
need_of OperandConstant = Number
need_of (Load k) = Slot
need_of (Store k) = Slot
need_of Ret = Slot
need_of Iinc = Increment
need_of (Branch test) = BranchTarget
need_of Goto = BranchTarget
need_of Jsr = BranchTarget
need_of Switch = Choice
need_of _ = Nothing

abbrev pub has_operand : Need → Arg → Bool
has_operand Nothing a = true
has_operand Number a = is_some (value_in a)
has_operand Slot a = is_some (slot_in a)
has_operand Increment a = is_some (increment_in a)
has_operand BranchTarget a = is_some (target_in a)
has_operand Choice a = is_some (keys_in a)

-- an instruction that stands in a code has the operand that its family needs, so that its rule never breaks for want of
-- one
abbrev pub HasItsOperand : Instr → Type 0
HasItsOperand i =
    (bytes : List ℕ) (at : ℕ) → instruction_at bytes at ≡ Some i → IsTrue (has_operand (need_of (family_of i.op)) i.arg)
