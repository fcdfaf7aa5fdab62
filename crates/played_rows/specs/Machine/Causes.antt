-- Why the lines of a row are not read.
use Rattle.std.specs.Prelude.{◌≡◌, ℕ, List, ◌∷◌, ◌++◌, Option}
use Rattle.std.specs.String.{string_bytes}
use Rattle.byte_streams.specs.Streams.{Told}
use Rattle.jvm_model.specs.declared.program.Program.{Program}
use Rattle.played_rows.specs.declared.machine.parts.RowError.{RowError}
use Rattle.played_rows.specs.declared.machine.parts.RowError.TheVariants.{Missing, NotText, NotRead, NotAdmitted, Unknown, NoMemory}
use Rattle.played_rows.specs.Machine.Reading.{IsUnknown}
use Rattle.played_rows.specs.Machine.Words.{rest_of, word_of}

-- the file of this name could not be fetched, or memory ran out
abbrev pub IsMissing : List ℕ → RowError → Type 0
IsMissing path (Missing name) = string_bytes name ≡ path
IsMissing path (NotText name) = ⊥
IsMissing path (NotRead name) = ⊥
IsMissing path (NotAdmitted name) = ⊥
IsMissing path (Unknown text) = ⊥
IsMissing path NoMemory = Unit {0}

-- this line says nothing, or memory ran out
abbrev pub IsSilent : List ℕ → RowError → Type 0
IsSilent line (Missing name) = ⊥
IsSilent line (NotText name) = ⊥
IsSilent line (NotRead name) = ⊥
IsSilent line (NotAdmitted name) = ⊥
IsSilent line (Unknown text) = string_bytes text ≡ line
IsSilent line NoMemory = Unit {0}

-- the file is that of a line `refused CLASS FILE CAUSE..`
pub record IsNamed (texts : List (List ℕ)) (path : List ℕ) : Type 0 where
  pub before : List (List ℕ)
  pub text : List ℕ
  pub after : List (List ℕ)
  pub there : texts ≡ before ++ text ∷ after
  pub named : path ≡ word_of (rest_of (rest_of text))

-- a line says nothing, the file that one names could not be fetched, or memory ran out
abbrev pub IsCause : Program → Option Told → List (List ℕ) → RowError → Type 0
IsCause p told texts (Missing name) = IsNamed texts (string_bytes name)
IsCause p told texts (NotText name) = ⊥
IsCause p told texts (NotRead name) = ⊥
IsCause p told texts (NotAdmitted name) = ⊥
IsCause p told texts (Unknown text) = IsUnknown p told texts (string_bytes text)
IsCause p told texts NoMemory = Unit {0}
