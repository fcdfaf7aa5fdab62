-- The operand of each form: how its bytes lie behind the opcode (JVM Specification 6.5). `at` is the offset of the
-- opcode, or of the wide in front of it.
use Rattle.std.specs.Prelude.{ℕ, suc, ◌-◌, ◌%◌, Bool, true, List, [], ◌∷◌, map, ℤ, pos, negsuc, ◌+ℤ◌, ◌-ℤ◌, int_le, int_lt, nat_le, nat_lt, ◌&&◌, false, if◌then◌else◌}
use Rattle.std.specs.Int.{Width, w8, w16, w32, cast_signed}
use Rattle.op_table.specs.declared.Form.{Form}
use Rattle.op_table.specs.declared.Form.TheVariants as form
use Rattle.op_table.specs.Opcodes.{row_of, wide_row_of}
use Rattle.code_model.specs.declared.instr.Arg.{Arg}
use Rattle.code_model.specs.declared.instr.Arg.TheVariants.{Plain, Value, Pool, Local, Inc, Target, Table, Lookup, Interface, Multi, Array}
use Rattle.code_model.specs.declared.instr.Instr.{Instr}
use Rattle.code_model.specs.declared.error.CodeError.TheVariants.{BadOpcode, BadSwitch}
use Rattle.code_model.specs.Formats.{Format, number, run, value_made, fails, in_turn, many, value_tested, either}

-- ---- numbers

-- behind wide a slot has two bytes, and so has an increment
abbrev pub slot_width : Bool → Width
slot_width wide = if wide then w16 else w8

-- A target is kept as its absolute offset. One outside 0 to 65535 is kept as 65535, where no instruction begins.
abbrev pub target_clamped : ℤ → ℕ
target_clamped (pos n) = if nat_le n 65535 then n else 65535
target_clamped (negsuc n) = 65535

-- where a branch offset leads: it is relative to the opcode
abbrev pub target_reached : ℕ → ℤ → ℕ
target_reached at distance = target_clamped (pos at +ℤ distance)

abbrev pub number_signed : ℕ → Width → Format ℤ
number_signed at w = in_turn (number at w) (λ n. value_made (cast_signed w n))

abbrev pub target : ℕ → Width → Format ℕ
target at w = in_turn (number_signed at w) (λ distance. value_made (target_reached at distance))

-- ---- switches

-- how many bytes stand between the opcode of a switch and its default, which begins at a multiple of four
abbrev pub padding_len : ℕ → ℕ
padding_len at = 3 - at % 4

-- how many offsets a tableswitch has
abbrev pub offsets_counted : ℤ → ℕ
offsets_counted (pos n) = suc n
offsets_counted (negsuc n) = 0

abbrev pub case_count : ℤ → ℤ → ℕ
case_count low high = offsets_counted (high -ℤ low)

-- a count of pairs, which as a signed number is not negative
abbrev pub is_count : ℕ → Bool
is_count n = nat_lt n 2147483648

-- each key is above the one before it, the first above this one
abbrev pub rise_above : ℤ → List ℤ → Bool
rise_above low [] = true
rise_above low (key ∷ keys) = int_lt low key && rise_above key keys

abbrev pub keys_rise : List ℤ → Bool
keys_rise [] = true
keys_rise (key ∷ keys) = rise_above key keys

abbrev pub key_of : ℤ × ℕ → ℤ
key_of pair = pair.0

abbrev pub target_of : ℤ × ℕ → ℕ
target_of pair = pair.1

abbrev pub pair : ℕ → Format (ℤ × ℕ)
pair at = in_turn (number_signed at w32) (λ key. in_turn (target at w32) (λ t. value_made (key, t)))

abbrev pub table : ℕ → Format Arg
table at =
    in_turn (run at (padding_len at)) (λ padding.
    in_turn (target at w32) (λ default.
    in_turn (number_signed at w32) (λ low.
    in_turn (value_tested (number_signed at w32) (λ high. int_le low high) (BadSwitch at)) (λ high.
    in_turn (many (target at w32) (case_count low high)) (λ targets.
    value_made (Table default low targets))))))

abbrev pub lookup : ℕ → Format Arg
lookup at =
    in_turn (run at (padding_len at)) (λ padding.
    in_turn (target at w32) (λ default.
    in_turn (value_tested (number at w32) is_count (BadSwitch at)) (λ count.
    in_turn (value_tested (many (pair at) count) (λ pairs. keys_rise (map key_of pairs)) (BadSwitch at)) (λ pairs.
    value_made (Lookup default (map key_of pairs) (map target_of pairs))))))

-- ---- the forms

abbrev pub operand : Form → Bool → ℕ → Format Arg
operand form.Plain wide at = value_made Plain
operand form.Byte wide at = in_turn (number_signed at w8) (λ n. value_made (Value n))
operand form.Short wide at = in_turn (number_signed at w16) (λ n. value_made (Value n))
operand form.PoolByte wide at = in_turn (number at w8) (λ index. value_made (Pool index))
operand form.Pool wide at = in_turn (number at w16) (λ index. value_made (Pool index))
operand form.Local wide at = in_turn (number at (slot_width wide)) (λ slot. value_made (Local slot))
operand form.Inc wide at = in_turn (number at (slot_width wide)) (λ slot. in_turn (number_signed at (slot_width wide)) (λ n. value_made (Inc slot n)))
operand form.Jump wide at = in_turn (target at w16) (λ t. value_made (Target t))
operand form.JumpWide wide at = in_turn (target at w32) (λ t. value_made (Target t))
operand form.Table wide at = table at
operand form.Lookup wide at = lookup at
operand form.Interface wide at =
    in_turn (number at w16) (λ index. in_turn (number at w8) (λ count. in_turn (number at w8) (λ last. value_made (Interface index count last))))
operand form.Multi wide at = in_turn (number at w16) (λ index. in_turn (number at w8) (λ dimensions. value_made (Multi index dimensions)))
operand form.Array wide at = in_turn (number at w8) (λ kind. value_made (Array kind))
operand form.Wide wide at = fails (BadOpcode at)
operand form.Unknown wide at = fails (BadOpcode at)

-- ---- instructions

-- the form that an opcode has, by itself or behind wide
abbrev pub form_of : Bool → ℕ → Form
form_of wide op = if wide then (wide_row_of op).form else (row_of op).form

abbrev pub instr_with : ℕ → Bool → ℕ → Arg → Instr
instr_with at wide op arg = record { at = at; op = op; wide = wide; arg = arg }

-- what stands behind an opcode of this form
abbrev pub behind_opcode : ℕ → Bool → ℕ → Format Instr
behind_opcode at wide op = in_turn (operand (form_of wide op) wide at) (λ arg. value_made (instr_with at wide op arg))

-- behind wide stands another opcode
abbrev pub behind_wide : ℕ → Format Instr
behind_wide at = in_turn (number at w8) (behind_opcode at true)

abbrev pub is_wide : Form → Bool
is_wide form.Wide = true
is_wide _ = false

-- an instruction whose opcode, or the wide in front of it, stands at this offset
abbrev pub instruction : ℕ → Format Instr
instruction at = in_turn (number at w8) (λ op. either (is_wide (row_of op).form) (behind_wide at) (behind_opcode at false op))
