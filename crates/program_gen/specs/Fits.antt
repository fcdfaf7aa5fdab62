-- Rows whose class files are class files: their numbers are in the range of their fields, and there are not too many.
use Rattle.std.specs.Prelude.{◌<◌, ◌≤◌, ◌^◌, length}
use Rattle.std.specs.List.{AllByRecursion}
use Rattle.program_gen.specs.declared.rows.ClassName.{ClassName}
use Rattle.program_gen.specs.declared.rows.ClassName.TheVariants.{Numbered}
use Rattle.program_gen.specs.declared.rows.Instruction.{Instruction}
use Rattle.program_gen.specs.declared.rows.Instruction.TheVariants.{Plain, Byte, Short, OfClass, OfMember}
use Rattle.program_gen.specs.declared.rows.MethodRow.{MethodRow}
use Rattle.program_gen.specs.declared.rows.ClassRow.{ClassRow}

-- no program has more classes
abbrev pub FitsName : ClassName → Type 0
FitsName (Numbered number) = number < 200
FitsName _ = 0 ≤ 0

abbrev pub FitsInstruction : Instruction → Type 0
FitsInstruction (Plain op) = op < 2 ^ 8
FitsInstruction (Byte op operand) = (op < 2 ^ 8) × (operand < 2 ^ 8)
FitsInstruction (Short op operand) = op < 2 ^ 8
FitsInstruction (OfClass op class) = (op < 2 ^ 8) × FitsName class
FitsInstruction (OfMember op class member) = (op < 2 ^ 8) × FitsName class

pub record FitsMethod (row : MethodRow) : Type 0 where
  pub access_fits : row.access < 2 ^ 16
  pub stack : row.max_stack < 2 ^ 16
  pub locals : row.max_locals < 2 ^ 16
  pub some : 0 < length row.code
  pub few : length row.code ≤ 26
  pub each : AllByRecursion FitsInstruction row.code

pub record FitsClass (row : ClassRow) : Type 0 where
  pub itself : FitsName row.name
  pub above : FitsName row.superclass
  pub few : length row.methods ≤ 2
  pub each : AllByRecursion FitsMethod row.methods
