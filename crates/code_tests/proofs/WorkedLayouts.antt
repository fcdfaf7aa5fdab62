-- Codes laid out with probes in front, behind and before each ireturn.
use Rattle.std.proofs.Common.{◌≡◌, ℕ, List, [], ◌∷◌, refl, map}
use Rattle.std.specs.Prelude.{◌==◌, if◌then◌else◌}
use Rattle.op_table.specs.Opcodes.{groups, row_of, wide_groups, wide_row_of}
use Rattle.code_model.specs.declared.instr.Instr.{Instr}
use Rattle.code_model.specs.declared.laying.Group.{Group}
use Rattle.code_model.specs.declared.laying.Laid.{Laid}
use Rattle.code_model.specs.Instructions.{instruction_at}
use Rattle.code_model.specs.Layout.{laid_of}
use Rattle.code_model.specs.Reading.{read_instruction, number_at, run_at, behind_opcode_at, behind_wide_at, operand_at, signed_at, target_at, branch_at, increment_at, local_at, value_at, index_at, table_at, high_at, count_at, columns_at, lookup_at, pair_at, many_at}
use Rattle.code_tests.proofs.WorkedCodes.{decoded, straight, backward, to_return, padded, subroutine}

abbrev entry : List ℕ
entry = 17 ∷ 0 ∷ 0 ∷ 184 ∷ 0 ∷ 29 ∷ []

abbrev leaving : List ℕ
leaving = 17 ∷ 0 ∷ 0 ∷ 184 ∷ 0 ∷ 35 ∷ []

abbrev unwinding : List ℕ
unwinding = 17 ∷ 0 ∷ 0 ∷ 184 ∷ 0 ∷ 38 ∷ 191 ∷ []

-- in front of each ireturn
abbrev grouped : Instr → Group
grouped i = record { before = if i.op == 172 then leaving else []; instr = i }

abbrev laid : List ℕ → Laid
laid bytes = laid_of entry (map grouped (decoded 12 0 bytes)) unwinding

straight_laid : laid straight ≡ record {
  code =
      17 ∷ 0 ∷ 0 ∷ 184 ∷ 0 ∷ 29 ∷ 26 ∷ 4 ∷ 96 ∷ 17 ∷ 0 ∷ 0 ∷ 184 ∷ 0 ∷ 35 ∷ 172 ∷ 17 ∷ 0 ∷ 0 ∷ 184 ∷ 0 ∷ 38 ∷ 191 ∷
      [];
  homes = record { from = 0 ∷ 1 ∷ 2 ∷ 3 ∷ 4 ∷ []; home = 6 ∷ 7 ∷ 8 ∷ 9 ∷ 16 ∷ []; place = 6 ∷ 7 ∷ 8 ∷ 15 ∷ 16 ∷ [] };
}
unfolding instruction_at read_instruction number_at run_at behind_opcode_at behind_wide_at operand_at signed_at target_at branch_at increment_at local_at value_at index_at table_at high_at count_at columns_at lookup_at pair_at many_at row_of groups wide_row_of wide_groups
straight_laid = refl

backward_laid : laid backward ≡ record {
  code =
      17 ∷ 0 ∷ 0 ∷ 184 ∷ 0 ∷ 29 ∷ 132 ∷ 0 ∷ 255 ∷ 26 ∷ 157 ∷ 255 ∷ 252 ∷ 26 ∷ 17 ∷ 0 ∷ 0 ∷ 184 ∷ 0 ∷ 35 ∷ 172 ∷ 17 ∷
      0 ∷ 0 ∷ 184 ∷ 0 ∷ 38 ∷ 191 ∷ [];
  homes = record { from = 0 ∷ 3 ∷ 4 ∷ 7 ∷ 8 ∷ 9 ∷ []; home = 6 ∷ 9 ∷ 10 ∷ 13 ∷ 14 ∷ 21 ∷ []; place = 6 ∷ 9 ∷ 10 ∷ 13 ∷ 20 ∷ 21 ∷ [] };
}
unfolding instruction_at read_instruction number_at run_at behind_opcode_at behind_wide_at operand_at signed_at target_at branch_at increment_at local_at value_at index_at table_at high_at count_at columns_at lookup_at pair_at many_at row_of groups wide_row_of wide_groups
backward_laid = refl

to_return_laid : laid to_return ≡ record {
  code =
      17 ∷ 0 ∷ 0 ∷ 184 ∷ 0 ∷ 29 ∷ 26 ∷ 153 ∷ 0 ∷ 7 ∷ 4 ∷ 167 ∷ 0 ∷ 4 ∷ 5 ∷ 17 ∷ 0 ∷ 0 ∷ 184 ∷ 0 ∷ 35 ∷ 172 ∷ 17 ∷
      0 ∷ 0 ∷ 184 ∷ 0 ∷ 38 ∷ 191 ∷ [];
  homes = record { from = 0 ∷ 1 ∷ 4 ∷ 5 ∷ 8 ∷ 9 ∷ 10 ∷ []; home = 6 ∷ 7 ∷ 10 ∷ 11 ∷ 14 ∷ 15 ∷ 22 ∷ []; place = 6 ∷ 7 ∷ 10 ∷ 11 ∷ 14 ∷ 21 ∷ 22 ∷ [] };
}
unfolding instruction_at read_instruction number_at run_at behind_opcode_at behind_wide_at operand_at signed_at target_at branch_at increment_at local_at value_at index_at table_at high_at count_at columns_at lookup_at pair_at many_at row_of groups wide_row_of wide_groups
to_return_laid = refl

padded_laid : laid padded ≡ record {
  code =
      17 ∷ 0 ∷ 0 ∷ 184 ∷ 0 ∷ 29 ∷ 26 ∷ 170 ∷ 0 ∷ 0 ∷ 0 ∷ 25 ∷ 0 ∷ 0 ∷ 0 ∷ 0 ∷ 0 ∷ 0 ∷ 0 ∷ 0 ∷ 0 ∷ 0 ∷ 0 ∷ 17 ∷ 4 ∷
      17 ∷ 0 ∷ 0 ∷ 184 ∷ 0 ∷ 35 ∷ 172 ∷ 5 ∷ 17 ∷ 0 ∷ 0 ∷ 184 ∷ 0 ∷ 35 ∷ 172 ∷ 17 ∷ 0 ∷ 0 ∷ 184 ∷ 0 ∷ 38 ∷ 191 ∷ [];
  homes = record { from = 0 ∷ 1 ∷ 20 ∷ 21 ∷ 22 ∷ 23 ∷ 24 ∷ []; home = 6 ∷ 7 ∷ 24 ∷ 25 ∷ 32 ∷ 33 ∷ 40 ∷ []; place = 6 ∷ 7 ∷ 24 ∷ 31 ∷ 32 ∷ 39 ∷ 40 ∷ [] };
}
unfolding instruction_at read_instruction number_at run_at behind_opcode_at behind_wide_at operand_at signed_at target_at branch_at increment_at local_at value_at index_at table_at high_at count_at columns_at lookup_at pair_at many_at row_of groups wide_row_of wide_groups
padded_laid = refl

subroutine_laid : laid subroutine ≡ record {
  code =
      17 ∷ 0 ∷ 0 ∷ 184 ∷ 0 ∷ 29 ∷ 168 ∷ 0 ∷ 11 ∷ 26 ∷ 17 ∷ 0 ∷ 0 ∷ 184 ∷ 0 ∷ 35 ∷ 172 ∷ 76 ∷ 132 ∷ 0 ∷ 1 ∷ 169 ∷ 1 ∷
      17 ∷ 0 ∷ 0 ∷ 184 ∷ 0 ∷ 38 ∷ 191 ∷ [];
  homes = record { from = 0 ∷ 3 ∷ 4 ∷ 5 ∷ 6 ∷ 9 ∷ 11 ∷ []; home = 6 ∷ 9 ∷ 10 ∷ 17 ∷ 18 ∷ 21 ∷ 23 ∷ []; place = 6 ∷ 9 ∷ 16 ∷ 17 ∷ 18 ∷ 21 ∷ 23 ∷ [] };
}
unfolding instruction_at read_instruction number_at run_at behind_opcode_at behind_wide_at operand_at signed_at target_at branch_at increment_at local_at value_at index_at table_at high_at count_at columns_at lookup_at pair_at many_at row_of groups wide_row_of wide_groups
subroutine_laid = refl
