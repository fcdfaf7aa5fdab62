-- The codes of class files are short (JVM Specification 4.7.3).
use Rattle.std.proofs.Common.{◌≡◌, ℕ, ◌<◌, ◌^◌, zero, suc, List, [], ◌∷◌, length, Option, Some, None, refl, subst}
use Rattle.std.specs.Prelude.{slice_get, IfSome}
use Rattle.std.specs.List.{AllByRecursion}
use Rattle.std.proofs.lemmas.Option.{same_Some}
use Rattle.const_pool.specs.declared.pool.Const.{Const}
use Rattle.const_pool.specs.declared.class.Member.{Member}
use Rattle.const_pool.specs.declared.class.CodeAttribute.{CodeAttribute}
use Rattle.const_pool.specs.declared.class.Attribute.{Attribute}
use Rattle.const_pool.specs.declared.class.Attribute.TheVariants.{ConstantValue, Code, Other}
use Rattle.const_pool.specs.declared.class.ClassFile.{ClassFile}
use Rattle.const_pool.specs.ClassFile.{IsClassFile, IsCode, IsMember, IsMethodAttribute}
use Rattle.jvm_model.specs.Basis.Methods.{code_among, code_of}
use Rattle.prepared_code.specs.Prepared.{HasShortCode, HasShortCodes}

-- what holds of each element holds of the one at a place
pub AllByRecursion-at : {X : Type 0} (P : X → Type 0) (xs : List X) (i : ℕ) (x : X) → AllByRecursion P xs → slice_get xs i ≡ Some x → P x
AllByRecursion-at P [] i x all e = absurd cc
AllByRecursion-at P (y ∷ ys) zero x all e = subst P (same_Some y x e) all.0
AllByRecursion-at P (y ∷ ys) (suc i) x all e = AllByRecursion-at P ys i x all.1 e

IsCode-code_among : (pool : List Const) (attributes : List Attribute) (code : CodeAttribute) → AllByRecursion (IsMethodAttribute pool) attributes → code_among attributes ≡ Some code → IsCode pool code
IsCode-code_among pool [] code all e = absurd cc
IsCode-code_among pool (ConstantValue name index ∷ rest) code all e = absurd all.0
IsCode-code_among pool (Code name found ∷ rest) code all e = subst (IsCode pool) (same_Some found code e) all.0.2
IsCode-code_among pool (Other raw ∷ rest) code all e = IsCode-code_among pool rest code all.1 e

-- a method's code is one that the format allows
pub IsCode-code_of : (pool : List Const) (m : Member) (code : CodeAttribute) → IsMember IsMethodAttribute pool m → code_of m ≡ Some code → IsCode pool code
IsCode-code_of pool m code formed e = IsCode-code_among pool m.attributes code formed.attributes e

-- ---- the lengths of codes

short-code : (pool : List Const) (m : Member) (o : Option CodeAttribute) → code_of m ≡ o → IsMember IsMethodAttribute pool m → IfSome o (λ code. length code.code < 2 ^ 16)
short-code pool m None e formed = tt
short-code pool m (Some code) e formed = (IsCode-code_of pool m code formed e).short

short-codes : (pool : List Const) (ms : List Member) → AllByRecursion (IsMember IsMethodAttribute pool) ms → AllByRecursion HasShortCode ms
short-codes pool [] all = tt
short-codes pool (m ∷ ms) all = (short-code pool m (code_of m) refl all.0, short-codes pool ms all.1)

pub HasShortCodes-formed : (c : ClassFile) → IsClassFile c → HasShortCodes c
HasShortCodes-formed c formed = short-codes c.pool c.methods formed.methods

pub each-short : (ks : List ClassFile) → AllByRecursion IsClassFile ks → AllByRecursion HasShortCodes ks
each-short [] all = tt
each-short (k ∷ ks) all = (HasShortCodes-formed k all.0, each-short ks all.1)
