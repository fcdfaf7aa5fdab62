-- The instructions of a row, as they are read.
use Rattle.std.proofs.Common.{ℕ, suc, ◌+◌, List, [], ◌∷◌}
use Rattle.std.specs.Prelude.{false, ◌==◌, if◌then◌else◌}
use Rattle.std.specs.Int.{w8, w16, cast_signed}
use Rattle.code_model.specs.declared.instr.Arg.{Arg}
use Rattle.code_model.specs.declared.instr.Arg.TheVariants as arg
use Rattle.code_model.specs.declared.instr.Instr.{Instr}
use Rattle.code_model.specs.Operands.{target_reached}
use Rattle.program_gen.specs.declared.rows.Instruction.{Instruction}
use Rattle.program_gen.specs.declared.rows.Instruction.TheVariants.{Plain, Byte, Short, OfClass, OfMember}

abbrev pub op_of : Instruction → ℕ
op_of (Plain op) = op
op_of (Byte op operand) = op
op_of (Short op operand) = op
op_of (OfClass op class) = op
op_of (OfMember op class member) = op

abbrev pub size_of : Instruction → ℕ
size_of (Plain op) = 1
size_of (Byte op operand) = 2
size_of _ = 3

-- ifgt has the one target
abbrev pub short_arg : ℕ → ℕ → ℕ → Arg
short_arg at op operand = if op == 157 then arg.Target (target_reached at (cast_signed w16 operand)) else arg.Value (cast_signed w16 operand)

abbrev pub arg_of : ℕ → Instruction → ℕ → Arg
arg_of at (Plain op) index = arg.Plain
arg_of at (Byte op operand) index = arg.Value (cast_signed w8 operand)
arg_of at (Short op operand) index = short_arg at op operand
arg_of at (OfClass op class) index = arg.Pool index
arg_of at (OfMember op class member) index = arg.Pool index

abbrev pub instr_of : ℕ → Instruction → ℕ → Instr
instr_of at i index = record { at = at; op = op_of i; wide = false; arg = arg_of at i index }

-- the instructions from this offset on, where the k-th has this index
abbrev pub instrs_of : ℕ → List Instruction → (ℕ → ℕ) → List Instr
instrs_of at [] index = []
instrs_of at (i ∷ rest) index = instr_of at i (index 0) ∷ instrs_of (at + size_of i) rest (λ k. index (suc k))
