-- The code of a method of a class file: that it is formed, that its bytes are bytes, and what stands where it is read.
use Rattle.std.proofs.Common.{◌≡◌, ℕ, zero, suc, List, [], ◌∷◌, slice_get, Some, ap, subst, ◌∙◌, arith}
use Rattle.std.specs.List.{AllByRecursion}
use Rattle.std.proofs.lemmas.Option.{same_Some, none-some}
use Rattle.const_pool.specs.declared.pool.Const.{Const}
use Rattle.const_pool.specs.declared.class.Attribute.{Attribute}
use Rattle.const_pool.specs.declared.class.Attribute.TheVariants.{ConstantValue, Code, Other}
use Rattle.const_pool.specs.declared.class.CodeAttribute.{CodeAttribute}
use Rattle.const_pool.specs.ClassFile.{IsByte, IsCode, IsMethodAttribute}
use Rattle.code_model.specs.declared.instr.Instr.{Instr}
use Rattle.code_model.specs.Instructions.{instruction_at, end_of, Reads}
use Rattle.code_model.specs.Groups.{IsBytes}
use Rattle.code_model.proofs.Reading.Readings.{at-instruction_at}
use Rattle.jvm_model.specs.Basis.Methods.{code_among}

-- the code among a method's attributes is formed
pub code-among : (pool : List Const) (attributes : List Attribute) (code : CodeAttribute) → AllByRecursion (IsMethodAttribute pool) attributes → code_among attributes ≡ Some code → IsCode pool code
code-among pool [] code formed e = absurd (none-some code e)
code-among pool (ConstantValue name index ∷ rest) code formed e = absurd formed.0
code-among pool (Code name here ∷ rest) code formed e = subst (IsCode pool) (same_Some here code e) formed.0.2
code-among pool (Other raw ∷ rest) code formed e = code-among pool rest code formed.1 e

-- its bytes, by number
pub bytes-each : (bytes : List ℕ) → AllByRecursion IsByte bytes → IsBytes bytes
bytes-each [] each k = omega arith
bytes-each (b ∷ bytes) each zero = each.0
bytes-each (b ∷ bytes) each (suc k) = bytes-each bytes each.1 k

-- its instructions, by number
pub Reads-nth : (bytes : List ℕ) (at : ℕ) (is : List Instr) (k : ℕ) (i : Instr) → Reads bytes at is → slice_get is k ≡ Some i → instruction_at bytes i.at ≡ Some i
Reads-nth bytes at [] k i p e = absurd (none-some i e)
Reads-nth bytes at (j ∷ is) zero i p e =
    let same : j ≡ i = same_Some j i e in
    subst (λ (x : Instr). instruction_at bytes x.at ≡ Some x) same (ap (instruction_at bytes) (at-instruction_at bytes at j p.0) ∙ p.0)
Reads-nth bytes at (j ∷ is) (suc k) i p e = Reads-nth bytes (end_of j) is k i p.1 e
