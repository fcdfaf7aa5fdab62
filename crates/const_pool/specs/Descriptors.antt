-- Field and method descriptors (JVM Specification 4.3.2, 4.3.3): which texts they are, and what each stands for.
use Rattle.std.specs.Prelude.{◌≡◌, ◌≢◌, ℕ, zero, suc, ◌≤◌, List, [], ◌∷◌, ◌++◌, Option, Some, None, Result, Ok, Err, codes, sum_by}
use Rattle.std.specs.List.{AllByRecursion}
use Rattle.const_pool.specs.declared.descriptor.Kind.{Kind}
use Rattle.const_pool.specs.declared.descriptor.Kind.TheVariants.{Int, Long, Ref, Byte, Bool, Char, Short, Float, Double}
use Rattle.const_pool.specs.declared.descriptor.Shape.{Shape}
use Rattle.const_pool.specs.declared.descriptor.DescriptorError.{DescriptorError}
use Rattle.const_pool.specs.declared.descriptor.DescriptorError.TheVariants.{BadDescriptor, NoMemory}

-- one or more units other than ;
pub record IsName (name : List ℕ) : Type 0 where
  pub some : name ≢ []
  pub plain : AllByRecursion (λ unit. codes ";" ≢ unit ∷ []) name

-- a base type, or a class between L and ;
abbrev pub IsBase : List ℕ → Kind → Type 0
IsBase text Byte = text ≡ codes "B"
IsBase text Char = text ≡ codes "C"
IsBase text Double = text ≡ codes "D"
IsBase text Float = text ≡ codes "F"
IsBase text Int = text ≡ codes "I"
IsBase text Long = text ≡ codes "J"
IsBase text Short = text ≡ codes "S"
IsBase text Bool = text ≡ codes "Z"
IsBase text Ref = (name : List ℕ) × IsName name × (text ≡ codes "L" ++ (name ++ codes ";"))

-- so many times [
abbrev pub dimensions_text : ℕ → List ℕ
dimensions_text zero = []
dimensions_text (suc n) = codes "[" ++ dimensions_text n

-- an array of any base is held by reference
abbrev pub held_kind : ℕ → Kind → Kind
held_kind zero base = base
held_kind (suc n) base = Ref

-- a field descriptor (4.3.2): at most 255 times [, and then a base
pub record IsField (text : List ℕ) (kind : Kind) : Type 0 where
  pub dimensions : ℕ
  pub most : dimensions ≤ 255
  pub element : List ℕ
  pub element_kind : Kind
  pub base : IsBase element element_kind
  pub spelled : text ≡ dimensions_text dimensions ++ element
  pub held : kind ≡ held_kind dimensions element_kind

-- field descriptors one after the other
abbrev pub AreFields : List ℕ → List Kind → Type 0
AreFields text [] = text ≡ []
AreFields text (kind ∷ kinds) = (first rest : List ℕ) × IsField first kind × AreFields rest kinds × (text ≡ first ++ rest)

-- a long and a double take two slots of a parameter list (4.3.3)
abbrev pub slots : Kind → ℕ
slots Long = 2
slots Double = 2
slots _ = 1

abbrev pub slot_count : List Kind → ℕ
slot_count kinds = sum_by slots kinds

-- a field descriptor, or V
abbrev pub IsResult : List ℕ → Option Kind → Type 0
IsResult text None = text ≡ codes "V"
IsResult text (Some kind) = IsField text kind

-- a method descriptor (4.3.3): parameters of at most 255 slots between ( and ), and the result
pub record IsMethod (text : List ℕ) (shape : Shape) : Type 0 where
  pub params : List ℕ
  pub result : List ℕ
  pub fields : AreFields params shape.params
  pub most : slot_count shape.params ≤ 255
  pub returned : IsResult result shape.result
  pub spelled : text ≡ codes "(" ++ (params ++ (codes ")" ++ result))

-- a text that is one
abbrev pub IsFieldText : List ℕ → Type 0
IsFieldText text = (kind : Kind) × IsField text kind

abbrev pub IsMethodText : List ℕ → Type 0
IsMethodText text = (shape : Shape) × IsMethod text shape

-- a descriptor of this shape is read as it, where there is the memory for it
abbrev pub IsReadAs : Result Shape DescriptorError → Shape → Type 0
IsReadAs (Ok read) shape = read ≡ shape
IsReadAs (Err (BadDescriptor at)) shape = ⊥
IsReadAs (Err NoMemory) shape = Unit {0}
