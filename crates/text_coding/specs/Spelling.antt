-- Which bytes spell a text in modified UTF-8 (JVM Specification 4.4.7), and where bytes that spell none go wrong.
use Rattle.std.specs.Prelude.{◌≡◌, ◌+◌, ◌^◌, ◌<◌, ◌≤◌, ◌⊎◌, ◌++◌, ℕ, List, length, take}
use Rattle.std.specs.List.{AllByRecursion}
use Rattle.jf_bytes.specs.ModifiedUtf8.{unit_bytes, modified_utf8}

-- each is a UTF-16 unit
abbrev pub IsUnits : List ℕ → Type 0
IsUnits units = AllByRecursion (λ unit. unit < 2 ^ 16) units

-- the bytes are those of the text of these units
pub record IsSpelling (bytes units : List ℕ) : Type 0 where
  pub fit : IsUnits units
  pub spelled : modified_utf8 units ≡ bytes

-- some text begins with these bytes
pub record GoesOn (front : List ℕ) : Type 0 where
  pub more : List ℕ
  pub units : List ℕ
  pub spelling : IsSpelling (front ++ more) units

-- The bytes spell no text. Some text begins with those before `at`, and none with those and the byte there, where there
-- is one. So where `at` is the length, the bytes are the front of a text that ends early.
pub record IsFirstBad (bytes : List ℕ) (at : ℕ) : Type 0 where
  pub within : at ≤ length bytes
  pub no_text : (units : List ℕ) → ¬ (IsSpelling bytes units)
  pub goes_on : GoesOn (take at bytes)
  pub stops : at < length bytes → ¬ (GoesOn (take (at + 1) bytes))

-- the bytes begin with those of the unit
pub record BeginsWith (bytes : List ℕ) (unit : ℕ) : Type 0 where
  pub fits : unit < 2 ^ 16
  pub prefix : take (length (unit_bytes unit)) bytes ≡ unit_bytes unit

-- a first byte of two, and the greatest second: after 192 the one byte of U+0000, after the others any six bits
abbrev pub IsDoubleLead : ℕ → ℕ → Type 0
IsDoubleLead lead most = ((lead ≡ 192) × (most ≡ 128)) ⊎ ((194 ≤ lead) × (lead < 224) × (most ≡ 191))

-- a first byte of three, and the least second: after 224 the bits of a unit from 2048 on, after the others any
abbrev pub IsTripleLead : ℕ → ℕ → Type 0
IsTripleLead lead least = ((lead ≡ 224) × (least ≡ 160)) ⊎ ((225 ≤ lead) × (lead < 240) × (least ≡ 128))
