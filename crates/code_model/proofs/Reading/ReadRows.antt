-- Reading, computed on worked instructions.
use Rattle.std.specs.Prelude.{◌≡◌, ℕ, true, false, List, [], ◌∷◌, Some, Err, pos, negsuc, refl}
use Rattle.op_table.specs.Opcodes.{row_of, groups, wide_row_of, wide_groups}
use Rattle.code_model.specs.declared.error.CodeError.TheVariants.{BadOpcode, Cut, BadSwitch}
use Rattle.code_model.specs.declared.instr.Arg.TheVariants.{Inc, Target, Table}
use Rattle.code_model.specs.Instructions.{instruction_at}
use Rattle.code_model.specs.Reading.{number_at, run_at, signed_at, target_at, many_at, pair_at, high_at, table_at, count_at, columns_at, lookup_at, increment_at, branch_at, operand_at, behind_opcode_at, behind_wide_at, read_instruction}

-- iload_0, and a tableswitch from 0 to 0: its padding has two bytes, which are ignored
abbrev switch : List ℕ
switch = 26 ∷ 170 ∷ 7 ∷ 9 ∷ 0 ∷ 0 ∷ 0 ∷ 21 ∷ 0 ∷ 0 ∷ 0 ∷ 0 ∷ 0 ∷ 0 ∷ 0 ∷ 0 ∷ 0 ∷ 0 ∷ 0 ∷ 19 ∷ []

switch_reads : instruction_at switch 1 ≡ Some (record { at = 1; op = 170; wide = false; arg = Table 22 (pos 0) (20 ∷ []) })
unfolding instruction_at read_instruction behind_opcode_at operand_at table_at run_at target_at signed_at number_at high_at many_at row_of groups
switch_reads = refl

-- a lookupswitch whose second key is the first again
equal_keys : read_instruction 3 (171 ∷ 0 ∷ 0 ∷ 0 ∷ 9 ∷ 0 ∷ 0 ∷ 0 ∷ 2 ∷ 0 ∷ 0 ∷ 0 ∷ 5 ∷ 0 ∷ 0 ∷ 0 ∷ 9 ∷ 0 ∷ 0 ∷ 0 ∷ 5 ∷ 0 ∷ 0 ∷ 0 ∷ 9 ∷ []) ≡ Err (BadSwitch 3)
unfolding read_instruction behind_opcode_at operand_at lookup_at run_at target_at signed_at number_at count_at columns_at many_at pair_at row_of groups
equal_keys = refl

-- the same keys, with a target cut off
cut_pairs : read_instruction 3 (171 ∷ 0 ∷ 0 ∷ 0 ∷ 9 ∷ 0 ∷ 0 ∷ 0 ∷ 2 ∷ 0 ∷ 0 ∷ 0 ∷ 5 ∷ 0 ∷ 0 ∷ 0 ∷ 9 ∷ 0 ∷ 0 ∷ 0 ∷ 5 ∷ 0 ∷ 0 ∷ 0 ∷ []) ≡ Err (Cut 3)
unfolding read_instruction behind_opcode_at operand_at lookup_at run_at target_at signed_at number_at count_at columns_at many_at pair_at row_of groups
cut_pairs = refl

-- wide iinc 256 by −2
wide_increment : instruction_at (196 ∷ 132 ∷ 1 ∷ 0 ∷ 255 ∷ 254 ∷ []) 0 ≡ Some (record { at = 0; op = 132; wide = true; arg = Inc 256 (negsuc 1) })
unfolding instruction_at read_instruction behind_wide_at behind_opcode_at operand_at increment_at signed_at number_at row_of groups wide_row_of wide_groups
wide_increment = refl

-- wide before iadd, and invokedynamic
wide_add : read_instruction 0 (196 ∷ 96 ∷ []) ≡ Err (BadOpcode 0)
unfolding read_instruction behind_wide_at behind_opcode_at operand_at number_at row_of groups wide_row_of wide_groups
wide_add = refl

dynamic : read_instruction 7 (186 ∷ []) ≡ Err (BadOpcode 7)
unfolding read_instruction behind_opcode_at operand_at number_at row_of groups
dynamic = refl

-- a goto before the start: no instruction stands where it leads
goto_before : instruction_at (0 ∷ 167 ∷ 255 ∷ 252 ∷ []) 1 ≡ Some (record { at = 1; op = 167; wide = false; arg = Target 65535 })
unfolding instruction_at read_instruction behind_opcode_at operand_at branch_at target_at signed_at number_at row_of groups
goto_before = refl
