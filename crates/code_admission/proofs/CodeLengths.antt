-- Each code of a class that the format allows has a length that the format allows.
use Rattle.std.proofs.Common.{◌≡◌, ℕ, zero, suc, ◌<◌, List, [], ◌∷◌, length, sym, subst, get_or, arith}
use Rattle.std.specs.Prelude.{IfSome}
use Rattle.std.specs.List.{AllByRecursion}
use Rattle.const_pool.specs.declared.pool.Const.{Const}
use Rattle.const_pool.specs.declared.class.Member.{Member}
use Rattle.const_pool.specs.declared.class.Attribute.{Attribute}
use Rattle.const_pool.specs.declared.class.Attribute.TheVariants.{ConstantValue, Code, Other}
use Rattle.const_pool.specs.ClassFile.{IsMember, IsMethodAttribute}
use Rattle.jvm_model.specs.Basis.Methods.{code_among, code_of}
use Rattle.code_admission.specs.Codes.{HasCodeLength}

length_among : (pool : List Const) (attributes : List Attribute) → AllByRecursion (IsMethodAttribute pool) attributes → IfSome (code_among attributes) HasCodeLength
length_among pool [] all = tt
length_among pool (ConstantValue name index ∷ rest) all = absurd all.0
length_among pool (Code name code ∷ rest) all = (all.0.2.some, let short = all.0.2.short in omega arith)
length_among pool (Other raw ∷ rest) all = length_among pool rest all.1

-- what holds of all holds of the one at a place
pub all_at : {X : Type 0} (P : X → Type 0) (xs : List X) (n : ℕ) (x : X) → n < length xs → x ≡ get_or xs n x → AllByRecursion P xs → P x
all_at P [] n x within is all = absurd (omega arith)
all_at P (y ∷ xs) zero x within is all = subst P (sym is) all.0
all_at P (y ∷ xs) (suc n) x within is all = all_at P xs n x (omega arith) is all.1

-- the method at a place
pub code_length : (pool : List Const) (methods : List Member) (n : ℕ) (m : Member) → n < length methods → m ≡ get_or methods n m
    → AllByRecursion (IsMember IsMethodAttribute pool) methods → IfSome (code_of m) HasCodeLength
code_length pool methods n m within is all = length_among pool m.attributes (all_at (IsMember IsMethodAttribute pool) methods n m within is all).attributes
