-- One instruction is read.
use Rattle.std.proofs.Common.{◌≡◌, ℕ, ◌+◌, ◌<◌, ◌^◌, List, [], ◌∷◌, ◌++◌, Ok, false, refl, ap, sym, subst, ◌∙◌}
use Rattle.std.specs.Int.{w8, w16, cast_signed, to_be_bytes}
use Rattle.op_table.specs.Opcodes.{row_of}
use Rattle.op_table.specs.declared.Form.{Form}
use Rattle.op_table.specs.declared.Form.TheVariants as form
use Rattle.code_model.specs.declared.instr.Arg.{Arg}
use Rattle.code_model.specs.declared.instr.Arg.TheVariants as arg
use Rattle.code_model.specs.Formats.{number}
use Rattle.code_model.specs.Operands.{instr_with, operand, number_signed, target, target_reached, is_wide}
use Rattle.code_model.specs.Reading.{read_instruction}
use Rattle.code_model.proofs.Reading.Again.{instr_of_operand, made_of, number_again, short_again, back16}
use Rattle.code_model.proofs.Reading.OperandLaws.{instruction_is_read}

-- an opcode of this form, with its operand
read-form : (f : Form) (at op : ℕ) (text rest : List ℕ) (a : Arg) → (row_of op).form ≡ f → is_wide f ≡ false → (operand f false at).Spells text a
    → read_instruction at (op ∷ text ++ rest) ≡ Ok (instr_with at false op a, rest)
read-form f at op text rest a has plain spelled =
    (instruction_is_read at).again 0 (op ∷ text) rest (instr_with at false op a)
    (instr_of_operand at false op text a (ap is_wide has ∙ plain) (subst (λ (g : Form). (operand g false at).Spells text a) (sym has) spelled))

pub read-plain : (at op : ℕ) (rest : List ℕ) → (row_of op).form ≡ form.Plain → read_instruction at (op ∷ rest) ≡ Ok (instr_with at false op arg.Plain, rest)
read-plain at op rest has = read-form form.Plain at op [] rest arg.Plain has refl (refl, refl)

pub read-byte : (at op n : ℕ) (rest : List ℕ) → (row_of op).form ≡ form.Byte → read_instruction at (op ∷ n ∷ rest) ≡ Ok (instr_with at false op (arg.Value (cast_signed w8 n)), rest)
read-byte at op n rest has =
    read-form form.Byte at op (n ∷ []) rest (arg.Value (cast_signed w8 n)) has refl
    (made_of (number_signed at w8) arg.Value (n ∷ []) (cast_signed w8 n) (made_of (number at w8) (cast_signed w8) (n ∷ []) n (refl, refl)))

pub read-short : (at op n : ℕ) (rest : List ℕ) → (row_of op).form ≡ form.Short → n < 2 ^ 16
    → read_instruction at (op ∷ to_be_bytes w16 n ++ rest) ≡ Ok (instr_with at false op (arg.Value (cast_signed w16 n)), rest)
read-short at op n rest has small =
    read-form form.Short at op (to_be_bytes w16 n) rest (arg.Value (cast_signed w16 n)) has refl
    (made_of (number_signed at w16) arg.Value (to_be_bytes w16 n) (cast_signed w16 n) (short_again at n small))

pub read-jump : (at op n : ℕ) (rest : List ℕ) → (row_of op).form ≡ form.Jump → n < 2 ^ 16
    → read_instruction at (op ∷ to_be_bytes w16 n ++ rest) ≡ Ok (instr_with at false op (arg.Target (target_reached at (cast_signed w16 n))), rest)
read-jump at op n rest has small =
    read-form form.Jump at op (to_be_bytes w16 n) rest (arg.Target (target_reached at (cast_signed w16 n))) has refl
    (made_of (target at w16) arg.Target (to_be_bytes w16 n) (target_reached at (cast_signed w16 n)) (made_of (number_signed at w16) (target_reached at) (to_be_bytes w16 n) (cast_signed w16 n) (short_again at n small)))

pub read-pool : (at op index : ℕ) (rest : List ℕ) → (row_of op).form ≡ form.Pool → index < 2 ^ 16
    → read_instruction at (op ∷ to_be_bytes w16 index ++ rest) ≡ Ok (instr_with at false op (arg.Pool index), rest)
read-pool at op index rest has small =
    read-form form.Pool at op (to_be_bytes w16 index) rest (arg.Pool index) has refl
    (made_of (number at w16) arg.Pool (to_be_bytes w16 index) index (number_again at w16 index back16 small))
