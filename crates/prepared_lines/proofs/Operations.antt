-- What an instruction does by its family, as a line keeps it.
use Rattle.std.proofs.Common.{◌≡◌, ℕ, Option, Some, None, refl}
use Rattle.std.specs.Option.{option_map}
use Rattle.const_pool.specs.declared.class.ClassFile.{ClassFile}
use Rattle.code_model.specs.declared.instr.Arg.{Arg}
use Rattle.jvm_model.specs.declared.family.Family.{Family}
use Rattle.jvm_model.specs.declared.family.Family.TheVariants as family
use Rattle.jvm_model.specs.declared.instruction.Local.{Local}
use Rattle.jvm_model.specs.declared.instruction.Operation.TheVariants.{Within}
use Rattle.jvm_model.specs.Codes.Lines.{local_of, constant_in, operation_by}
use Rattle.prepared_lines.specs.Lines.{local_kept, operation_kept}

local-kept : (i : Option Local) → option_map Within (option_map local_kept i) ≡ option_map operation_kept (option_map Within i)
local-kept None = refl
local-kept (Some i) = refl

-- of a family that tells by itself what its instructions do
pub family-kept : (c : ClassFile) (op : ℕ) (a : Arg) (f : Family) → (f ≡ family.NotLocal → ⊥) → (f ≡ family.PoolConstant → ⊥)
    → option_map Within (option_map local_kept (local_of f a (constant_in c.pool a))) ≡ option_map operation_kept (operation_by c op a f)
family-kept c op a family.NotLocal apart given = absurd (apart refl)
family-kept c op a family.PoolConstant apart given = absurd (given refl)
family-kept c op a f apart given = local-kept (local_of f a (constant_in c.pool a))
