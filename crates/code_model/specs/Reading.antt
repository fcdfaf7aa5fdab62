-- Reading an instruction from left to right: what stands at the front of the bytes, and the bytes after it, or the
-- first fault.
use Rattle.std.specs.Prelude.{ℕ, Bool, List, [], ◌++◌, map, Result, Ok, Err, ℤ, int_le, true, false, if◌then◌else◌}
use Rattle.std.specs.Int.{Width, w8, w16, w32, byte_len, from_be_bytes, cast_signed}
use Rattle.op_table.specs.declared.Form.{Form}
use Rattle.op_table.specs.declared.Form.TheVariants as form
use Rattle.op_table.specs.Opcodes.{row_of}
use Rattle.byte_formats.specs.Reading as reading
pub use Rattle.byte_formats.specs.Reading.{◌>>=◌, with_front}
unfoldable pub use Rattle.byte_formats.specs.Reading.{many_at}
use Rattle.code_model.specs.declared.instr.Arg.{Arg}
use Rattle.code_model.specs.declared.instr.Arg.TheVariants.{Plain, Value, Pool, Local, Inc, Target, Table, Lookup, Interface, Multi, Array}
use Rattle.code_model.specs.declared.instr.Instr.{Instr}
use Rattle.code_model.specs.declared.error.CodeError.{CodeError}
use Rattle.code_model.specs.declared.error.CodeError.TheVariants.{BadOpcode, Cut, BadSwitch, NoMemory}
use Rattle.code_model.specs.Operands.{slot_width, target_reached, padding_len, case_count, is_count, keys_rise, key_of, target_of, form_of, instr_with, is_wide}

-- what was read from the front of the bytes, and the bytes after it
abbrev pub Read : Type 0 → Type 0
Read = reading.Read CodeError

-- What a function returned, seen by view, is what reading gives, unless memory ran out.
abbrev pub Gives : {X Y : Type 0} → (X → Y) → Result X CodeError → Result Y CodeError → Type 0
Gives = reading.Gives NoMemory

-- ---- numbers

unfoldable pub number_at : ℕ → Width → List ℕ → Read ℕ
number_at at w bytes = reading.made_of_front (Cut at) (byte_len w) (from_be_bytes w) bytes

unfoldable pub run_at : ℕ → ℕ → List ℕ → Read (List ℕ)
run_at at len bytes = reading.made_of_front (Cut at) len (λ run. run) bytes

unfoldable pub signed_at : ℕ → Width → List ℕ → Read ℤ
signed_at at w bytes = do
  n ← number_at at w bytes
  Ok (cast_signed w n.0, n.1)

unfoldable pub target_at : ℕ → Width → List ℕ → Read ℕ
target_at at w bytes = do
  distance ← signed_at at w bytes
  Ok (target_reached at distance.0, distance.1)

-- ---- switches

unfoldable pub pair_at : ℕ → List ℕ → Read (ℤ × ℕ)
pair_at at bytes = do
  key ← signed_at at w32 bytes
  t ← target_at at w32 key.1
  Ok ((key.0, t.0), t.1)

unfoldable pub high_at : ℕ → ℤ → List ℕ → Read ℤ
high_at at low bytes = do
  high ← signed_at at w32 bytes
  if int_le low high.0 then Ok high else Err (BadSwitch at)

unfoldable pub table_at : ℕ → List ℕ → Read Arg
table_at at bytes = do
  padding ← run_at at (padding_len at) bytes
  default ← target_at at w32 padding.1
  low ← signed_at at w32 default.1
  high ← high_at at low.0 low.1
  targets ← many_at (target_at at w32) (case_count low.0 high.0) high.1
  Ok (Table default.0 low.0 targets.0, targets.1)

unfoldable pub count_at : ℕ → List ℕ → Read ℕ
count_at at bytes = do
  count ← number_at at w32 bytes
  if is_count count.0 then Ok count else Err (BadSwitch at)

-- the keys and the targets of pairs, behind those that were read before
abbrev pub with_columns : List ℤ → List ℕ → Read (List (ℤ × ℕ)) → Read (List ℤ × List ℕ)
with_columns keys targets read = read >>= λ x. Ok ((keys ++ map key_of x.0, targets ++ map target_of x.0), x.1)

unfoldable pub columns_at : ℕ → ℕ → List ℕ → Read (List ℤ × List ℕ)
columns_at at count bytes = with_columns [] [] (many_at (pair_at at) count bytes)

unfoldable pub lookup_at : ℕ → List ℕ → Read Arg
lookup_at at bytes = do
  padding ← run_at at (padding_len at) bytes
  default ← target_at at w32 padding.1
  count ← count_at at default.1
  columns ← columns_at at count.0 count.1
  if keys_rise columns.0.0 then Ok (Lookup default.0 columns.0.0 columns.0.1, columns.1) else Err (BadSwitch at)

-- ---- the forms

unfoldable pub value_at : ℕ → Width → List ℕ → Read Arg
value_at at w bytes = do
  n ← signed_at at w bytes
  Ok (Value n.0, n.1)

unfoldable pub index_at : ℕ → Width → List ℕ → Read Arg
index_at at w bytes = do
  index ← number_at at w bytes
  Ok (Pool index.0, index.1)

unfoldable pub local_at : ℕ → Bool → List ℕ → Read Arg
local_at at wide bytes = do
  slot ← number_at at (slot_width wide) bytes
  Ok (Local slot.0, slot.1)

unfoldable pub increment_at : ℕ → Bool → List ℕ → Read Arg
increment_at at wide bytes = do
  slot ← number_at at (slot_width wide) bytes
  n ← signed_at at (slot_width wide) slot.1
  Ok (Inc slot.0 n.0, n.1)

unfoldable pub branch_at : ℕ → Width → List ℕ → Read Arg
branch_at at w bytes = do
  t ← target_at at w bytes
  Ok (Target t.0, t.1)

unfoldable pub interface_at : ℕ → List ℕ → Read Arg
interface_at at bytes = do
  index ← number_at at w16 bytes
  count ← number_at at w8 index.1
  last ← number_at at w8 count.1
  Ok (Interface index.0 count.0 last.0, last.1)

unfoldable pub multi_at : ℕ → List ℕ → Read Arg
multi_at at bytes = do
  index ← number_at at w16 bytes
  dimensions ← number_at at w8 index.1
  Ok (Multi index.0 dimensions.0, dimensions.1)

unfoldable pub array_at : ℕ → List ℕ → Read Arg
array_at at bytes = do
  kind ← number_at at w8 bytes
  Ok (Array kind.0, kind.1)

unfoldable pub operand_at : Form → Bool → ℕ → List ℕ → Read Arg
operand_at form.Plain wide at bytes = Ok (Plain, bytes)
operand_at form.Byte wide at bytes = value_at at w8 bytes
operand_at form.Short wide at bytes = value_at at w16 bytes
operand_at form.PoolByte wide at bytes = index_at at w8 bytes
operand_at form.Pool wide at bytes = index_at at w16 bytes
operand_at form.Local wide at bytes = local_at at wide bytes
operand_at form.Inc wide at bytes = increment_at at wide bytes
operand_at form.Jump wide at bytes = branch_at at w16 bytes
operand_at form.JumpWide wide at bytes = branch_at at w32 bytes
operand_at form.Table wide at bytes = table_at at bytes
operand_at form.Lookup wide at bytes = lookup_at at bytes
operand_at form.Interface wide at bytes = interface_at at bytes
operand_at form.Multi wide at bytes = multi_at at bytes
operand_at form.Array wide at bytes = array_at at bytes
operand_at form.Wide wide at bytes = Err (BadOpcode at)
operand_at form.Unknown wide at bytes = Err (BadOpcode at)

-- ---- instructions

unfoldable pub behind_opcode_at : ℕ → Bool → ℕ → List ℕ → Read Instr
behind_opcode_at at wide op bytes = do
  arg ← operand_at (form_of wide op) wide at bytes
  Ok (instr_with at wide op arg.0, arg.1)

unfoldable pub behind_wide_at : ℕ → List ℕ → Read Instr
behind_wide_at at bytes = do
  op ← number_at at w8 bytes
  behind_opcode_at at true op.0 op.1

-- the instruction at the front of the bytes, which begin at the offset `at`
unfoldable pub read_instruction : ℕ → List ℕ → Read Instr
read_instruction at bytes = do
  op ← number_at at w8 bytes
  if is_wide (row_of op.0).form then behind_wide_at at op.1 else behind_opcode_at at false op.0 op.1
