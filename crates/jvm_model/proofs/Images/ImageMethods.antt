-- The methods of an image: a marked one has its version as its code.
use Rattle.std.proofs.Common.{◌≡◌, ℕ, List, [], ◌∷◌, Some, refl, ap, ◌∙◌}
use Rattle.std.proofs.lemmas.Option.{none-some}
use Rattle.const_pool.specs.declared.class.ClassFile.{ClassFile}
use Rattle.const_pool.specs.declared.class.Member.{Member}
use Rattle.const_pool.specs.declared.class.CodeAttribute.{CodeAttribute}
use Rattle.const_pool.specs.declared.class.Attribute.{Attribute}
use Rattle.const_pool.specs.declared.class.Attribute.TheVariants.{ConstantValue, Code, Other}
use Rattle.code_model.specs.declared.laying.Homes.{Homes}
use Rattle.jvm_model.specs.declared.event.Mark.{Mark}
use Rattle.jvm_model.specs.Rewriting.Images.{with_code_among, IsMarkedMember}
use Rattle.jvm_model.specs.Basis.Methods.{code_among, code_of}

code_among-with_code : (attributes : List Attribute) (before after : CodeAttribute) → code_among attributes ≡ Some before → code_among (with_code_among after attributes) ≡ Some after
code_among-with_code [] before after e = absurd (none-some before e)
code_among-with_code (Code name old ∷ rest) before after e = refl
code_among-with_code (ConstantValue name index ∷ rest) before after e = code_among-with_code rest before after e
code_among-with_code (Other raw ∷ rest) before after e = code_among-with_code rest before after e

pub code_of-marked : (c : ClassFile) (number : ℕ) (mark : Mark) (old new : Member) (homes : Homes) → (is : IsMarkedMember c number mark old new homes) → code_of new ≡ Some is.after
code_of-marked c number mark old new homes is = ap code_of is.replaced ∙ code_among-with_code old.attributes is.before is.after is.coded
