-- Codes and faults by hand, from the instructions' pages of the JVM Specification, 6.5: bytes to instructions and back.
use Rattle.std.proofs.Common.{◌≡◌, ℕ, zero, suc, List, [], ◌∷◌, Some, None, refl}
use Rattle.std.specs.Prelude.{Option, Result, Ok, Err, drop, take}
use Rattle.op_table.specs.Opcodes.{groups, row_of, wide_groups, wide_row_of}
use Rattle.code_model.specs.declared.instr.Instr.{Instr}
use Rattle.code_model.specs.declared.error.CodeError.{CodeError}
use Rattle.code_model.specs.declared.error.CodeError.TheVariants.{BadOpcode, Cut, BadSwitch}
use Rattle.code_model.specs.Instructions.{instruction_at, end_of}
use Rattle.code_model.specs.Layout.{code_bytes}
use Rattle.code_model.specs.Reading.{Read, read_instruction, number_at, run_at, behind_opcode_at, behind_wide_at, operand_at, signed_at, target_at, branch_at, increment_at, local_at, value_at, index_at, table_at, high_at, count_at, columns_at, lookup_at, pair_at, many_at}

abbrev go_on : Option Instr → (Instr → List Instr) → List Instr
go_on None rest = []
go_on (Some i) rest = i ∷ rest i

-- at most so many instructions from an offset on
abbrev pub decoded : ℕ → ℕ → List ℕ → List Instr
decoded zero at bytes = []
decoded (suc n) at bytes = go_on (instruction_at bytes at) (λ i. decoded n (end_of i) bytes)

-- the bytes of the instructions that these are
abbrev again : List ℕ → List ℕ
again bytes = code_bytes (decoded 12 0 bytes)

-- main of a class that prints
abbrev pub main : List ℕ
main =
    178 ∷ 0 ∷ 10 ∷ 16 ∷ 41 ∷ 184 ∷ 0 ∷ 14 ∷ 182 ∷ 0 ∷ 20 ∷ 177 ∷ []

main_again : again main ≡ main
unfolding instruction_at read_instruction number_at run_at behind_opcode_at behind_wide_at operand_at signed_at target_at branch_at increment_at local_at value_at index_at table_at high_at count_at columns_at lookup_at pair_at many_at row_of groups wide_row_of wide_groups
main_again = refl

-- iload_0, iconst_1, iadd, ireturn
abbrev pub straight : List ℕ
straight =
    26 ∷ 4 ∷ 96 ∷ 172 ∷ []

straight_again : again straight ≡ straight
unfolding instruction_at read_instruction number_at run_at behind_opcode_at behind_wide_at operand_at signed_at target_at branch_at increment_at local_at value_at index_at table_at high_at count_at columns_at lookup_at pair_at many_at row_of groups wide_row_of wide_groups
straight_again = refl

-- iinc 0 by -1, iload_0, ifgt 0, iload_0, ireturn
abbrev pub backward : List ℕ
backward =
    132 ∷ 0 ∷ 255 ∷ 26 ∷ 157 ∷ 255 ∷ 252 ∷ 26 ∷ 172 ∷ []

backward_again : again backward ≡ backward
unfolding instruction_at read_instruction number_at run_at behind_opcode_at behind_wide_at operand_at signed_at target_at branch_at increment_at local_at value_at index_at table_at high_at count_at columns_at lookup_at pair_at many_at row_of groups wide_row_of wide_groups
backward_again = refl

-- iload_0, ifeq 8, iconst_1, goto 9, iconst_2, ireturn
abbrev pub to_return : List ℕ
to_return =
    26 ∷ 153 ∷ 0 ∷ 7 ∷ 4 ∷ 167 ∷ 0 ∷ 4 ∷ 5 ∷ 172 ∷ []

to_return_again : again to_return ≡ to_return
unfolding instruction_at read_instruction number_at run_at behind_opcode_at behind_wide_at operand_at signed_at target_at branch_at increment_at local_at value_at index_at table_at high_at count_at columns_at lookup_at pair_at many_at row_of groups wide_row_of wide_groups
to_return_again = refl

-- iload_0, tableswitch 0 to 0 (20, else 22), iconst_1, ireturn, iconst_2, ireturn
abbrev pub switch : List ℕ
switch =
    26 ∷ 170 ∷ 0 ∷ 0 ∷ 0 ∷ 0 ∷ 0 ∷ 21 ∷ 0 ∷ 0 ∷ 0 ∷ 0 ∷ 0 ∷ 0 ∷ 0 ∷ 0 ∷ 0 ∷ 0 ∷ 0 ∷ 19 ∷ 4 ∷ 172 ∷ 5 ∷ 172 ∷ []

switch_again : again switch ≡ switch
unfolding instruction_at read_instruction number_at run_at behind_opcode_at behind_wide_at operand_at signed_at target_at branch_at increment_at local_at value_at index_at table_at high_at count_at columns_at lookup_at pair_at many_at row_of groups wide_row_of wide_groups
switch_again = refl

-- jsr 5, iload_0, ireturn, astore_1, iinc 0 1, ret 1
abbrev pub subroutine : List ℕ
subroutine =
    168 ∷ 0 ∷ 5 ∷ 26 ∷ 172 ∷ 76 ∷ 132 ∷ 0 ∷ 1 ∷ 169 ∷ 1 ∷ []

subroutine_again : again subroutine ≡ subroutine
unfolding instruction_at read_instruction number_at run_at behind_opcode_at behind_wide_at operand_at signed_at target_at branch_at increment_at local_at value_at index_at table_at high_at count_at columns_at lookup_at pair_at many_at row_of groups wide_row_of wide_groups
subroutine_again = refl

-- wide iinc 256 by -2, lookupswitch (-1: 0, 5: 32, else 0), goto_w 0, goto_w 37
abbrev pub wide_forms : List ℕ
wide_forms =
    196 ∷ 132 ∷ 1 ∷ 0 ∷ 255 ∷ 254 ∷ 171 ∷ 0 ∷ 255 ∷ 255 ∷ 255 ∷ 250 ∷ 0 ∷ 0 ∷ 0 ∷ 2 ∷ 255 ∷ 255 ∷ 255 ∷ 255 ∷ 255 ∷
    255 ∷ 255 ∷ 250 ∷ 0 ∷ 0 ∷ 0 ∷ 5 ∷ 0 ∷ 0 ∷ 0 ∷ 26 ∷ 200 ∷ 255 ∷ 255 ∷ 255 ∷ 224 ∷ 200 ∷ 0 ∷ 0 ∷ 0 ∷ 0 ∷ []

wide_forms_again : again wide_forms ≡ wide_forms
unfolding instruction_at read_instruction number_at run_at behind_opcode_at behind_wide_at operand_at signed_at target_at branch_at increment_at local_at value_at index_at table_at high_at count_at columns_at lookup_at pair_at many_at row_of groups wide_row_of wide_groups
wide_forms_again = refl

-- padding is read over
abbrev pub padded : List ℕ
padded =
    26 ∷ 170 ∷ 9 ∷ 9 ∷ 0 ∷ 0 ∷ 0 ∷ 21 ∷ 0 ∷ 0 ∷ 0 ∷ 0 ∷ 0 ∷ 0 ∷ 0 ∷ 0 ∷ 0 ∷ 0 ∷ 0 ∷ 19 ∷ 4 ∷ 172 ∷ 5 ∷ 172 ∷ []

padding : again padded ≡ switch
unfolding instruction_at read_instruction number_at run_at behind_opcode_at behind_wide_at operand_at signed_at target_at branch_at increment_at local_at value_at index_at table_at high_at count_at columns_at lookup_at pair_at many_at row_of groups wide_row_of wide_groups
padding = refl

-- ---- faults, at the offset where the instruction begins

abbrev fault_at : ℕ → List ℕ → Read Instr
fault_at at bytes = read_instruction at (drop at bytes)

dynamic : fault_at 1 (4 ∷ 186 ∷ 0 ∷ 1 ∷ 0 ∷ 0 ∷ []) ≡ Err (BadOpcode 1)
unfolding instruction_at read_instruction number_at run_at behind_opcode_at behind_wide_at operand_at signed_at target_at branch_at increment_at local_at value_at index_at table_at high_at count_at columns_at lookup_at pair_at many_at row_of groups wide_row_of wide_groups
dynamic = refl

wide_add : fault_at 2 (0 ∷ 0 ∷ 196 ∷ 96 ∷ []) ≡ Err (BadOpcode 2)
unfolding instruction_at read_instruction number_at run_at behind_opcode_at behind_wide_at operand_at signed_at target_at branch_at increment_at local_at value_at index_at table_at high_at count_at columns_at lookup_at pair_at many_at row_of groups wide_row_of wide_groups
wide_add = refl

cut_wide : fault_at 1 (0 ∷ 196 ∷ []) ≡ Err (Cut 1)
unfolding instruction_at read_instruction number_at run_at behind_opcode_at behind_wide_at operand_at signed_at target_at branch_at increment_at local_at value_at index_at table_at high_at count_at columns_at lookup_at pair_at many_at row_of groups wide_row_of wide_groups
cut_wide = refl

cut_padding : fault_at 1 (0 ∷ 170 ∷ 0 ∷ []) ≡ Err (Cut 1)
unfolding instruction_at read_instruction number_at run_at behind_opcode_at behind_wide_at operand_at signed_at target_at branch_at increment_at local_at value_at index_at table_at high_at count_at columns_at lookup_at pair_at many_at row_of groups wide_row_of wide_groups
cut_padding = refl

equal_keys : fault_at 3 (0 ∷ 0 ∷ 0 ∷ 171 ∷ 0 ∷ 0 ∷ 0 ∷ 9 ∷ 0 ∷ 0 ∷ 0 ∷ 2 ∷ 0 ∷ 0 ∷ 0 ∷ 5 ∷ 0 ∷ 0 ∷ 0 ∷ 9 ∷ 0 ∷ 0 ∷ 0 ∷ 5 ∷ 0 ∷ 0 ∷ 0 ∷ 9 ∷ []) ≡ Err (BadSwitch 3)
unfolding instruction_at read_instruction number_at run_at behind_opcode_at behind_wide_at operand_at signed_at target_at branch_at increment_at local_at value_at index_at table_at high_at count_at columns_at lookup_at pair_at many_at row_of groups wide_row_of wide_groups
equal_keys = refl

cut_pairs : fault_at 3 (0 ∷ 0 ∷ 0 ∷ 171 ∷ 0 ∷ 0 ∷ 0 ∷ 9 ∷ 0 ∷ 0 ∷ 0 ∷ 2 ∷ 0 ∷ 0 ∷ 0 ∷ 5 ∷ 0 ∷ 0 ∷ 0 ∷ 9 ∷ 0 ∷ 0 ∷ 0 ∷ 5 ∷ 0 ∷ 0 ∷ 0 ∷ []) ≡ Err (Cut 3)
unfolding instruction_at read_instruction number_at run_at behind_opcode_at behind_wide_at operand_at signed_at target_at branch_at increment_at local_at value_at index_at table_at high_at count_at columns_at lookup_at pair_at many_at row_of groups wide_row_of wide_groups
cut_pairs = refl
