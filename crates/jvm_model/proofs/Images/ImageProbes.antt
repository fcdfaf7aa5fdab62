-- The call in a probe of an image: where its bytes stand there is invokestatic.
use Rattle.std.proofs.Common.{◌≡◌, ℕ, ◌<◌, ◌^◌, false, List, ◌∷◌, ◌++◌, length, Some, refl}
use Rattle.std.specs.Int.{w16}
use Rattle.code_model.specs.declared.instr.Arg.TheVariants as arg
use Rattle.op_table.specs.Opcodes.{row_of, groups}
use Rattle.code_model.specs.Formats.{number}
use Rattle.code_model.specs.Operands.{instr_with}
use Rattle.code_model.specs.Instructions.{instruction_at}
use Rattle.code_model.specs.Layout.{u2}
use Rattle.code_model.proofs.Reading.Again.{made_of, number_again, back16, instr_of_operand}
use Rattle.code_model.proofs.Reading.Readings.{stands_to}

pub invokestatic_at : (p ys : List ℕ) (index n : ℕ) → index < 2 ^ 16 → length p ≡ n
    → instruction_at (p ++ (184 ∷ (u2 index ++ ys))) n ≡ Some (instr_with n false 184 (arg.Pool index))
unfolding row_of groups
invokestatic_at p ys index n lt len =
    let operand = made_of (number n w16) arg.Pool (u2 index) index (number_again n w16 index back16 lt) in
    stands_to (p ++ (184 ∷ (u2 index ++ ys))) n (instr_with n false 184 (arg.Pool index))
    (record { front = p; text = 184 ∷ u2 index; rest = ys; parts = refl; place = len; spelled = instr_of_operand n false 184 (u2 index) (arg.Pool index) refl operand })
