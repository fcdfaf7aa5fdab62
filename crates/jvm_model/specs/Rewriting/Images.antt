-- The image of a class: the class with the versions of its marked methods, and nothing else changed.
use Rattle.std.specs.Prelude.{◌≡◌, ℕ, zero, suc, ◌+◌, Bool, true, false, List, [], ◌∷◌, length, map, Option, Some, None, is_some, MatchBool, if◌then◌else◌}
use Rattle.std.specs.List.{list_all}
use Rattle.const_pool.specs.declared.class.ClassFile.{ClassFile}
use Rattle.const_pool.specs.declared.class.Member.{Member}
use Rattle.const_pool.specs.declared.class.CodeAttribute.{CodeAttribute}
use Rattle.const_pool.specs.declared.class.Attribute.{Attribute}
use Rattle.const_pool.specs.declared.class.Attribute.TheVariants.{ConstantValue, Code, Other}
use Rattle.const_pool.specs.Tail.{with_tail}
use Rattle.code_model.specs.declared.laying.Homes.{Homes}
use Rattle.jvm_model.specs.declared.event.Mark.{Mark}
use Rattle.jvm_model.specs.declared.event.Mark.TheVariants.{Off, Plain, Root}
use Rattle.jvm_model.specs.Rewriting.ImageTables.{image_attributes}
use Rattle.jvm_model.specs.Basis.Methods.{code_of}
use Rattle.jvm_model.specs.Rewriting.Versions.{IsVersion}

-- ---- marks

abbrev pub is_off : Mark → Bool
is_off Off = true
is_off Plain = false
is_off Root = false

abbrev pub all_off : List Mark → Bool
all_off marks = list_all is_off marks

-- ---- one method

-- a method's attributes with this Code in place of its own, which is the first
abbrev pub with_code_among : CodeAttribute → List Attribute → List Attribute
with_code_among code [] = []
with_code_among code (Code name old ∷ rest) = Code name code ∷ rest
with_code_among code (ConstantValue name index ∷ rest) = ConstantValue name index ∷ with_code_among code rest
with_code_among code (Other raw ∷ rest) = Other raw ∷ with_code_among code rest

abbrev pub with_code : CodeAttribute → Member → Member
with_code code m = record m { attributes = with_code_among code m.attributes }

-- a marked method of a class with its version, whose tables are moved
pub record IsMarkedMember (c : ClassFile) (number : ℕ) (mark : Mark) (old new : Member) (homes : Homes) : Type 0 where
  pub before : CodeAttribute
  pub after : CodeAttribute
  pub coded : code_of old ≡ Some before
  pub version : IsVersion (length c.pool) number mark before after homes
  pub tables : after.attributes ≡ image_attributes c homes (length before.code) before.attributes
  pub replaced : new ≡ with_code after old

-- a method in the image: the original where its mark is Off
abbrev pub IsMemberImage : ClassFile → ℕ → Mark → Member → Member → Option Homes → Type 0
IsMemberImage c number Off old new homes = (new ≡ old) × (homes ≡ None)
IsMemberImage c number Plain old new homes = (moved : Homes) × IsMarkedMember c number Plain old new moved × (homes ≡ Some moved)
IsMemberImage c number Root old new homes = (moved : Homes) × IsMarkedMember c number Root old new moved × (homes ≡ Some moved)

-- ---- all methods

-- methods that have Code are numbered in class order
abbrev pub next_number : ℕ → Member → ℕ
next_number number m = if is_some (code_of m) then number + 1 else number

-- the number of the method behind so many, where it has Code
abbrev pub number_behind : ℕ → List Member → ℕ → ℕ
number_behind first methods zero = first
number_behind first [] (suc k) = first
number_behind first (m ∷ methods) (suc k) = number_behind (next_number first m) methods k

-- each method with its mark, from this number on
abbrev pub AreMemberImages : ClassFile → ℕ → List Mark → List Member → List Member → List (Option Homes) → Type 0
AreMemberImages c number [] [] [] [] = Unit {0}
AreMemberImages c number (mark ∷ marks) (old ∷ olds) (new ∷ news) (h ∷ homes) =
    IsMemberImage c number mark old new h × AreMemberImages c (next_number number old) marks olds news homes
AreMemberImages c number _ _ _ _ = ⊥

-- where at least one method is marked, the pool has its tail
pub record IsRewritten (class : ClassFile) (first : ℕ) (marks : List Mark) (image : ClassFile) (homes : List (Option Homes)) : Type 0 where
  pub methods : AreMemberImages class first marks class.methods image.methods homes
  pub rest : image ≡ record class { pool = with_tail class.pool; methods = image.methods }

-- where none is, it is the original class
pub record IsOriginal (class : ClassFile) (image : ClassFile) (homes : List (Option Homes)) : Type 0 where
  pub class_stays : image ≡ class
  pub unmoved : homes ≡ map (λ m. None) class.methods

-- the image of the class for these marks, whose first method with Code has this number
abbrev pub IsImage : ClassFile → ℕ → List Mark → ClassFile → List (Option Homes) → Type 0
IsImage class first marks image homes = MatchBool (all_off marks) (IsOriginal class image homes) (IsRewritten class first marks image homes)
