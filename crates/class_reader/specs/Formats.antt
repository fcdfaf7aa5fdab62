-- The formats of the class file's items: numbers, runs of bytes and texts, and contents with their
-- length. A fault of theirs is told where it stands. How formats are put together is in
-- byte_formats, and the formats of the class file's parts are in ClassFormat.
use Rattle.std.specs.Prelude.{◌≡◌, ℕ, ◌*◌, ◌^◌, ◌<◌, ◌≤◌, ◌⊎◌, List, ◌++◌, length, take, drop}
use Rattle.std.specs.List.{AllByRecursion}
use Rattle.std.specs.Int.{Width, w32, byte_len, to_be_bytes}
use Rattle.text_coding.specs.Spelling.{IsSpelling, IsFirstBad}
use Rattle.const_pool.specs.ClassFile.{IsByte}
use Rattle.byte_formats.specs.Formats as formats
pub use Rattle.byte_formats.specs.Formats.{place, value_made, AreInTurn, FaultsBehind, in_turn, many, IsConverted, IsRefused, value_converted, kept_where, value_tested, either}
use Rattle.class_reader.specs.declared.error.ReadError.{ReadError}
use Rattle.class_reader.specs.declared.error.ReadError.TheVariants.{Truncated, BadUtf8, BadLength}

abbrev pub Format : Type 0 → Type 1
Format = formats.Format ReadError

-- so many bytes are not there: the item does not fit, and its offset is told
abbrev pub IsCut : ℕ → ℕ → List ℕ → ReadError → Type 0
IsCut = formats.IsCut Truncated

-- ---- single items

-- a big-endian number
abbrev pub number : Width → Format ℕ
number w = record { Spells = λ text n. (n < 2 ^ (8 * byte_len w)) × (text ≡ to_be_bytes w n); Faults = IsCut (byte_len w) }

-- so many bytes as they are
abbrev pub run : ℕ → Format (List ℕ)
run len = record { Spells = λ text bytes. (text ≡ bytes) × (length bytes ≡ len) × AllByRecursion IsByte bytes; Faults = IsCut len }

-- so many bytes that are no modified UTF-8: the offset is that of the first bad one
pub record IsBadText (len limit : ℕ) (bytes : List ℕ) (fault : ReadError) : Type 0 where
  pub whole : len ≤ length bytes
  pub at : ℕ
  pub bad : IsFirstBad (take len bytes) at
  pub told : fault ≡ BadUtf8 (place limit (drop at bytes))

-- so many bytes of a text in modified UTF-8 (JVM Specification 4.4.7)
abbrev pub text : ℕ → Format (List ℕ)
text len = record { Spells = λ bytes units. IsSpelling bytes units × (length bytes ≡ len); Faults = λ limit bytes fault. IsCut len limit bytes fault ⊎ IsBadText len limit bytes fault }

-- ---- contents with their length

-- a u4 length, and so many bytes
abbrev pub bytes_sized : Format (List ℕ)
bytes_sized = in_turn (number w32) run

-- The contents begin with what the format spells, and go on behind it.
pub record HasMore {A : Type 0} (P : Format A) (contents : List ℕ) : Type 0 where
  pub front : List ℕ
  pub more : List ℕ
  pub parts : contents ≡ front ++ more
  pub some : 0 < length more
  pub x : A
  pub spelled : P.Spells front x

-- a fault that tells that an item does not fit
abbrev pub IsTruncated : ReadError → Type 0
IsTruncated fault = (at : ℕ) × (fault ≡ Truncated at)

-- The contents end within the format, or go on behind it.
abbrev pub EndsElsewhere : {A : Type 0} → Format A → ℕ → List ℕ → Type 0
EndsElsewhere P limit contents = ((at : ℕ) × P.Faults limit contents (Truncated at)) ⊎ HasMore P contents

-- A fault in contents whose length stands at the offset `at`. Where they end elsewhere than the format does, the length
-- is at fault.
abbrev pub FaultsWithin : {A : Type 0} → Format A → ℕ → ℕ → List ℕ → ReadError → Type 0
FaultsWithin P at limit contents fault = (EndsElsewhere P limit contents × (fault ≡ BadLength at)) ⊎ (P.Faults limit contents fault × (IsTruncated fault → ⊥))

-- the text is a length and contents, which spell this value
pub record IsEnclosed {A : Type 0} (P : Format A) (text : List ℕ) (x : A) : Type 0 where
  pub contents : List ℕ
  pub outer : bytes_sized.Spells text contents
  pub inner : P.Spells contents x

-- the contents are all there, and the fault is in them
pub record FaultsInside {A : Type 0} (P : Format A) (limit : ℕ) (bytes : List ℕ) (fault : ReadError) : Type 0 where
  pub front : List ℕ
  pub rest : List ℕ
  pub parts : bytes ≡ front ++ rest
  pub contents : List ℕ
  pub outer : bytes_sized.Spells front contents
  pub inner : FaultsWithin P (place limit bytes) (place limit rest) contents fault

-- contents with their length, which are taken whole and then parsed
abbrev pub contents_enclosed : {A : Type 0} → Format A → Format A
contents_enclosed P = record { Spells = IsEnclosed P; Faults = λ limit bytes fault. bytes_sized.Faults limit bytes fault ⊎ FaultsInside P limit bytes fault }
