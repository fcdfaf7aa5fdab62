-- Reading operands and instructions reads their formats.
use Rattle.std.proofs.Common.{◌≡◌, ℕ, Bool, true, false, cond, List, map, Ok, Err, refl}
use Rattle.std.specs.Prelude.{ℤ, int_le}
use Rattle.std.specs.Int.{w8, w16, w32}
use Rattle.op_table.specs.declared.Form.{Form}
use Rattle.op_table.specs.declared.Form.TheVariants as form
use Rattle.op_table.specs.Opcodes.{row_of}
use Rattle.byte_formats.proofs.Items.{same_read}
use Rattle.byte_formats.proofs.Turns.{made_is_read, fails_is_read, in_turn_is_read, many_is_read}
use Rattle.byte_formats.proofs.Conditions.{either_is_read}
use Rattle.code_model.specs.declared.instr.Arg.{Arg}
use Rattle.code_model.specs.declared.instr.Arg.TheVariants.{Plain, Value, Pool, Local, Inc, Target, Table, Lookup, Interface, Multi, Array}
use Rattle.code_model.specs.declared.error.CodeError.TheVariants.{BadOpcode, BadSwitch}
use Rattle.code_model.specs.Formats.{number, in_turn, value_made, value_tested, many}
use Rattle.code_model.specs.Operands.{slot_width, padding_len, case_count, is_count, keys_rise, key_of, target_of, pair, number_signed, operand, form_of, instr_with, behind_opcode, behind_wide, is_wide, instruction}
use Rattle.code_model.specs.Operands as format
use Rattle.code_model.specs.Reading.{◌>>=◌, Read, number_at, signed_at, many_at, pair_at, high_at, table_at, count_at, columns_at, lookup_at, value_at, index_at, local_at, increment_at, branch_at, interface_at, multi_at, array_at, operand_at, behind_opcode_at, behind_wide_at, read_instruction}
use Rattle.code_model.proofs.Reading.Items.{IsRead}
use Rattle.code_model.proofs.Reading.Conditions.{kept, tested_at, tested_is_read}
use Rattle.code_model.proofs.Reading.NumberLaws.{number_is_read, run_is_read, signed_is_read, target_is_read}

-- ---- switches

pub pair_is_read : (at : ℕ) → IsRead (pair_at at) (pair at)
unfolding pair_at
pair_is_read at = in_turn_is_read (signed_is_read at w32) (λ key. in_turn_is_read (target_is_read at w32) (λ t. made_is_read (key, t)))

high_is_read : (at : ℕ) (low : ℤ) → IsRead (high_at at low) (value_tested (number_signed at w32) (λ high. int_le low high) (BadSwitch at))
unfolding high_at
high_is_read at low = tested_is_read (signed_at at w32) (number_signed at w32) (λ high. int_le low high) (BadSwitch at) (signed_is_read at w32)

table_is_read : (at : ℕ) → IsRead (table_at at) (format.table at)
unfolding table_at
table_is_read at =
    in_turn_is_read (run_is_read at (padding_len at)) (λ padding.
    in_turn_is_read (target_is_read at w32) (λ default.
    in_turn_is_read (signed_is_read at w32) (λ low.
    in_turn_is_read (high_is_read at low) (λ high.
    in_turn_is_read (many_is_read (target_is_read at w32) (case_count low high)) (λ targets.
    made_is_read (Table default low targets))))))

count_is_read : (at : ℕ) → IsRead (count_at at) (value_tested (number at w32) is_count (BadSwitch at))
unfolding count_at
count_is_read at = tested_is_read (number_at at w32) (number at w32) is_count (BadSwitch at) (number_is_read at w32)

-- what a lookupswitch has behind its count: pairs whose keys rise
abbrev rising : List (ℤ × ℕ) → Bool
rising pairs = keys_rise (map key_of pairs)

abbrev by_columns : ℕ → ℕ → ℕ → List ℕ → Read Arg
by_columns at default count bytes =
    columns_at at count bytes >>= λ columns. cond (keys_rise columns.0.0) (Ok (Lookup default columns.0.0 columns.0.1, columns.1)) (Err (BadSwitch at))

abbrev made_of : ℕ → List (ℤ × ℕ) × List ℕ → Read Arg
made_of default x = Ok (Lookup default (map key_of x.0) (map target_of x.0), x.1)

abbrev by_pairs : ℕ → ℕ → ℕ → List ℕ → Read Arg
by_pairs at default count bytes = tested_at (many_at (pair_at at) count) rising (BadSwitch at) bytes >>= made_of default

abbrev as_columns : List (ℤ × ℕ) × List ℕ → Read (List ℤ × List ℕ)
as_columns x = Ok ((map key_of x.0, map target_of x.0), x.1)

abbrev if_rising : ℕ → ℕ → (List ℤ × List ℕ) × List ℕ → Read Arg
if_rising at default columns = cond (keys_rise columns.0.0) (Ok (Lookup default columns.0.0 columns.0.1, columns.1)) (Err (BadSwitch at))

one_pairs : (at default : ℕ) (b : Bool) (x : List (ℤ × ℕ) × List ℕ) → cond b (made_of default x) (Err (BadSwitch at)) ≡ (cond b (Ok x) (Err (BadSwitch at)) >>= made_of default)
one_pairs at default true x = refl
one_pairs at default false x = refl

same_pairs : (at default count : ℕ) (bytes : List ℕ) → by_columns at default count bytes ≡ by_pairs at default count bytes
unfolding columns_at
same_pairs at default count bytes = by_case (many_at (pair_at at) count bytes)
  where
    by_case : (read : Read (List (ℤ × ℕ))) → ((read >>= as_columns) >>= if_rising at default) ≡ ((read >>= kept rising (BadSwitch at)) >>= made_of default)
    by_case (Ok x) = one_pairs at default (rising x.0) x
    by_case (Err fault) = refl

pairs_is_read : (at default count : ℕ) → IsRead (by_columns at default count)
    (in_turn (value_tested (many (pair at) count) rising (BadSwitch at)) (λ pairs. value_made (Lookup default (map key_of pairs) (map target_of pairs))))
pairs_is_read at default count =
    same_read (λ limit. by_pairs at default count) (λ limit. by_columns at default count) _ (λ limit. same_pairs at default count)
    (in_turn_is_read
    (tested_is_read (many_at (pair_at at) count) (many (pair at) count) rising (BadSwitch at) (many_is_read (pair_is_read at) count))
    (λ pairs. made_is_read (Lookup default (map key_of pairs) (map target_of pairs))))

lookup_is_read : (at : ℕ) → IsRead (lookup_at at) (format.lookup at)
unfolding lookup_at
lookup_is_read at =
    in_turn_is_read (run_is_read at (padding_len at)) (λ padding.
    in_turn_is_read (target_is_read at w32) (λ default.
    in_turn_is_read (count_is_read at) (λ count. pairs_is_read at default count)))

-- ---- the forms

pub operand_is_read : (f : Form) (wide : Bool) (at : ℕ) → IsRead (operand_at f wide at) (operand f wide at)
unfolding operand_at value_at index_at local_at increment_at branch_at interface_at multi_at array_at
operand_is_read form.Plain wide at = made_is_read Plain
operand_is_read form.Byte wide at = in_turn_is_read (signed_is_read at w8) (λ n. made_is_read (Value n))
operand_is_read form.Short wide at = in_turn_is_read (signed_is_read at w16) (λ n. made_is_read (Value n))
operand_is_read form.PoolByte wide at = in_turn_is_read (number_is_read at w8) (λ n. made_is_read (Pool n))
operand_is_read form.Pool wide at = in_turn_is_read (number_is_read at w16) (λ n. made_is_read (Pool n))
operand_is_read form.Local wide at = in_turn_is_read (number_is_read at (slot_width wide)) (λ n. made_is_read (Local n))
operand_is_read form.Inc wide at = in_turn_is_read (number_is_read at (slot_width wide)) (λ slot. in_turn_is_read (signed_is_read at (slot_width wide)) (λ n. made_is_read (Inc slot n)))
operand_is_read form.Jump wide at = in_turn_is_read (target_is_read at w16) (λ t. made_is_read (Target t))
operand_is_read form.JumpWide wide at = in_turn_is_read (target_is_read at w32) (λ t. made_is_read (Target t))
operand_is_read form.Table wide at = table_is_read at
operand_is_read form.Lookup wide at = lookup_is_read at
operand_is_read form.Interface wide at =
    in_turn_is_read (number_is_read at w16) (λ index. in_turn_is_read (number_is_read at w8) (λ count. in_turn_is_read (number_is_read at w8) (λ zero. made_is_read (Interface index count zero))))
operand_is_read form.Multi wide at = in_turn_is_read (number_is_read at w16) (λ index. in_turn_is_read (number_is_read at w8) (λ dimensions. made_is_read (Multi index dimensions)))
operand_is_read form.Array wide at = in_turn_is_read (number_is_read at w8) (λ kind. made_is_read (Array kind))
operand_is_read form.Wide wide at = fails_is_read (BadOpcode at)
operand_is_read form.Unknown wide at = fails_is_read (BadOpcode at)

-- ---- instructions

behind_opcode_is_read : (at : ℕ) (wide : Bool) (op : ℕ) → IsRead (behind_opcode_at at wide op) (behind_opcode at wide op)
unfolding behind_opcode_at
behind_opcode_is_read at wide op = in_turn_is_read (operand_is_read (form_of wide op) wide at) (λ arg. made_is_read (instr_with at wide op arg))

behind_wide_is_read : (at : ℕ) → IsRead (behind_wide_at at) (behind_wide at)
unfolding behind_wide_at
behind_wide_is_read at = in_turn_is_read (number_is_read at w8) (behind_opcode_is_read at true)

pub instruction_is_read : (at : ℕ) → IsRead (read_instruction at) (instruction at)
unfolding read_instruction
instruction_is_read at =
    in_turn_is_read (number_is_read at w8) (λ op. either_is_read (is_wide (row_of op).form) (behind_wide_is_read at) (behind_opcode_is_read at false op))
