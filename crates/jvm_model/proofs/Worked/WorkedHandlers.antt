-- A code whose handler's range ends at the code's end is sound.
use Rattle.std.specs.Prelude.{[], ◌∷◌, refl}
use Rattle.const_pool.specs.declared.class.CodeAttribute.{CodeAttribute}
use Rattle.code_model.specs.Instructions.{instruction_at}
use Rattle.code_model.specs.Reading.{read_instruction, behind_opcode_at, operand_at, value_at, index_at, signed_at, number_at}
use Rattle.op_table.specs.Opcodes.{row_of, groups}
use Rattle.jvm_model.specs.Soundness.Whole.{HasSoundCode}

-- aconst_null, athrow, and a handler over both
abbrev caught : CodeAttribute
caught = record {
  max_stack = 1;
  max_locals = 1;
  code = 1 ∷ 191 ∷ [];
  handlers = record { start = 0; end = 2; handler = 1; catch_class = 0 } ∷ [];
  attributes = [];
}

caught-sound : HasSoundCode caught
unfolding instruction_at read_instruction behind_opcode_at operand_at value_at index_at signed_at number_at row_of groups
caught-sound = record { reads = (refl, (refl, refl)); targets = (tt, (tt, tt)); handlers = ((refl, refl, refl), tt) }
