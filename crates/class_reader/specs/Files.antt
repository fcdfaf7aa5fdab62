-- What the readers owe: a class exactly where the bytes spell one, and else the first fault, with its place.
use Rattle.std.specs.Prelude.{◌≡◌, ◌≢◌, ◌≤◌, ◌<◌, ◌⊎◌, ℕ, List, ◌++◌, length, Result, IfErr}
use Rattle.const_pool.specs.declared.class.ClassFile.{ClassFile}
use Rattle.const_pool.specs.ClassFile.{Spells}
use Rattle.class_reader.specs.declared.error.ReadError.{ReadError}
use Rattle.class_reader.specs.declared.error.ReadError.TheVariants.{TooLong, Trailing, NoMemory}
use Rattle.class_reader.specs.ClassFormat as format

-- the most bytes of a class file that is read
abbrev pub most_bytes : ℕ
most_bytes = 4194304

-- The bytes are not too many, and spell the class.
pub record IsFile (bytes : List ℕ) (c : ClassFile) : Type 0 where
  pub short : length bytes ≤ most_bytes
  pub spells : Spells bytes c

-- A class is spelled by a front of the bytes, and others follow it: the offset of the first of them is told.
pub record IsTrailing (bytes : List ℕ) (fault : ReadError) : Type 0 where
  pub front : List ℕ
  pub more : List ℕ
  pub parts : bytes ≡ front ++ more
  pub some : 0 < length more
  pub class : ClassFile
  pub spelled : Spells front class
  pub told : fault ≡ Trailing (length front)

-- The bytes spell no class, and this is their first fault from the left, however many they are.
unfoldable pub IsImageFault : List ℕ → ReadError → Type 0
IsImageFault bytes fault = format.class.Faults (length bytes) bytes fault ⊎ IsTrailing bytes fault

-- The bytes are no class file, and this is their first fault: that they are too many comes first.
abbrev pub IsFirstFault : List ℕ → ReadError → Type 0
IsFirstFault bytes fault = ((most_bytes < length bytes) × (fault ≡ TooLong)) ⊎ ((length bytes ≤ most_bytes) × IsImageFault bytes fault)

-- a refusal is a fault of the bytes, but for want of memory
abbrev pub TellsFault : {A : Type 0} → Result A ReadError → (ReadError → Type 0) → Type 0
TellsFault result IsFault = IfErr result (λ fault. fault ≢ NoMemory → IsFault fault)

-- ---- laws

-- it holds of one value at most
abbrev pub HasOneAtMost : {A : Type 0} → (A → Type 0) → Type 0
HasOneAtMost {A = A} P = (a b : A) → P a → P b → a ≡ b

-- where one of them holds of some value, the other holds of none
abbrev pub AreApart : {A B : Type 0} → (A → Type 0) → (B → Type 0) → Type 0
AreApart {A = A} {B = B} P Q = (a : A) (b : B) → P a → Q b → ⊥
