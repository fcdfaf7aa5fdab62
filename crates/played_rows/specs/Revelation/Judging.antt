-- What is told of the rows.
use Rattle.std.specs.Prelude.{◌≡◌, ◌<◌, ◌++◌, ◌⊎◌, ℕ, Bool, true, false, List, [], ◌∷◌, length, Option, Some, None, Ok, Err, codes}
use Rattle.std.specs.List.{AllZip, filter}
use Rattle.std.specs.String.{string_bytes}
use Rattle.jf_bytes.specs.Unicode.{utf16_of}
use Rattle.const_pool.specs.declared.class.ClassFile.{ClassFile}
use Rattle.class_reader.specs.declared.error.ReadError.{ReadError}
use Rattle.class_reader.specs.Files.{IsFile, IsFirstFault}
use Rattle.plan_text.specs.Lines.{silent_plan}
use Rattle.jvm_model.specs.declared.program.Program.{Program}
use Rattle.jvm_model.specs.Basis.KindNumbers.{user_count}
use Rattle.jvm_model.specs.Classes.Load.{is_among, load_of}
use Rattle.code_admission.specs.declared.error.AdmitError.{AdmitError}
use Rattle.admit_check.specs.Admission.{admission_of}
use Rattle.class_linker.specs.Linkers.{LinkerView}
use Rattle.played_rows.specs.declared.revelation.item.Difference.{Difference}
use Rattle.played_rows.specs.declared.revelation.item.Item.{Item}
use Rattle.played_rows.specs.declared.revelation.judging.Verdict.{Verdict}
use Rattle.played_rows.specs.declared.revelation.parts.RowError.{RowError}
use Rattle.played_rows.specs.declared.revelation.parts.RowError.TheVariants.{Missing, NotText, NotRead, NotAdmitted, NoRoot, Unknown, NoMemory}
use Rattle.played_rows.specs.Revelation.Lines.{is_row}
use Rattle.played_rows.specs.Revelation.Reading.{IsRead}
use Rattle.played_rows.specs.Revelation.Rows.{Comes, first}

-- ---- the program

-- the program that admission makes of the classes that these files spell, with the main class Main
pub record IsProgramOf (files : List (List ℕ)) (p : Program) : Type 0 where
  pub classes : List ClassFile
  pub read : AllZip IsFile files classes
  pub admitted : admission_of classes (utf16_of (codes "Main")) silent_plan ≡ Ok p

-- a row begins with java/lang/Object and what it needs
abbrev pub root_name : List ℕ
root_name = utf16_of (codes "java/lang/Object")

-- ---- a row

-- The files have a program, the row says something in each word, and this is what came of all that it says: nothing
-- where all came as it says.
pub record IsJudged (files : List (List ℕ)) (row : List ℕ) (found : Option Difference) : Type 0 where
  pub program : Program
  pub of : IsProgramOf files program
  pub items : List Item
  pub read : IsRead program row (Some items)
  pub comes : Comes program items (first (load_of program [] root_name).loaded) found

-- ---- why a row is not played, but for want of memory

-- the bytes are no class file, with their first fault
abbrev pub IsUnread : List ℕ → RowError → Type 0
IsUnread bytes (Missing name) = ⊥
IsUnread bytes (NotText name) = ⊥
IsUnread bytes NotRead = (fault : ReadError) × IsFirstFault bytes fault
IsUnread bytes NotAdmitted = ⊥
IsUnread bytes NoRoot = ⊥
IsUnread bytes Unknown = ⊥
IsUnread bytes NoMemory = Unit {0}

-- one of the files is no class file
pub record HasUnread (files : List (List ℕ)) : Type 0 where
  pub before : List (List ℕ)
  pub bytes : List ℕ
  pub after : List (List ℕ)
  pub there : files ≡ before ++ bytes ∷ after
  pub unread : IsUnread bytes NotRead

-- the classes are too many, or admission refuses them
abbrev pub AreRefused : List ClassFile → Type 0
AreRefused classes =
    (4096 < length classes) ⊎ ((fault : AdmitError) × (admission_of classes (utf16_of (codes "Main")) silent_plan ≡ Err fault))

abbrev pub AreUnadmitted : List ClassFile → RowError → Type 0
AreUnadmitted classes (Missing name) = ⊥
AreUnadmitted classes (NotText name) = ⊥
AreUnadmitted classes NotRead = ⊥
AreUnadmitted classes NotAdmitted = AreRefused classes
AreUnadmitted classes NoRoot = ⊥
AreUnadmitted classes Unknown = ⊥
AreUnadmitted classes NoMemory = Unit {0}

-- the files have no program
abbrev pub AreUnmade : List (List ℕ) → RowError → Type 0
AreUnmade files (Missing name) = ⊥
AreUnmade files (NotText name) = ⊥
AreUnmade files NotRead = HasUnread files
AreUnmade files NotAdmitted = (classes : List ClassFile) × AllZip IsFile files classes × AreRefused classes
AreUnmade files NoRoot = ⊥
AreUnmade files Unknown = ⊥
AreUnmade files NoMemory = Unit {0}

-- java/lang/Object cannot be loaded
abbrev pub IsRootless : Program → List ℕ → Type 0
IsRootless p loaded = is_among (user_count p) (load_of p loaded root_name).loaded ≡ false

abbrev pub IsUnbegun : LinkerView → RowError → Type 0
IsUnbegun l (Missing name) = ⊥
IsUnbegun l (NotText name) = ⊥
IsUnbegun l NotRead = ⊥
IsUnbegun l NotAdmitted = ⊥
IsUnbegun l NoRoot = IsRootless l.program l.loaded
IsUnbegun l Unknown = ⊥
IsUnbegun l NoMemory = Unit {0}

-- the files have no program; or it cannot load java/lang/Object; or a word of the row says nothing of it
abbrev pub IsUnplayed : List (List ℕ) → List ℕ → RowError → Type 0
IsUnplayed files row (Missing name) = ⊥
IsUnplayed files row (NotText name) = ⊥
IsUnplayed files row NotRead = AreUnmade files NotRead
IsUnplayed files row NotAdmitted = AreUnmade files NotAdmitted
IsUnplayed files row NoRoot = (p : Program) × IsProgramOf files p × IsRootless p []
IsUnplayed files row Unknown = (p : Program) × IsProgramOf files p × IsRead p row None
IsUnplayed files row NoMemory = Unit {0}

-- ---- the verdict

-- words are told exactly of what came otherwise
abbrev pub IsToldOfRow : {A : Type 0} → List (List ℕ) → List ℕ → Option A → Type 0
IsToldOfRow files row None = IsJudged files row None
IsToldOfRow files row (Some told) = (difference : Difference) × IsJudged files row (Some difference)

-- it is told in words, want of memory in these
pub record TellsError (row : List ℕ) (error : RowError) (verdict : Verdict) : Type 0 where
  pub told : List ℕ
  pub line : string_bytes verdict.line ≡ row ++ (codes ": " ++ told)
  pub memory : error ≡ NoMemory → told ≡ codes "no memory"
  pub passed : verdict.has_passed ≡ false

-- The verdict on a row: it passes where all that it says comes, or where only what it took is asked for. Where it does
-- not, another thing came, or it could not be played, or memory ran out, and that is told.
pub data IsVerdict (files : List (List ℕ)) (timed : Bool) (row : List ℕ) (verdict : Verdict) : Type 0 where
  passes : timed ≡ false → IsJudged files row None → string_bytes verdict.line ≡ row ++ codes " ok" → verdict.has_passed ≡ true
      → IsVerdict files timed row verdict
  differs : (difference : Difference) (told : List ℕ) → timed ≡ false → IsJudged files row (Some difference)
      → string_bytes verdict.line ≡ row ++ (codes ": " ++ told) → verdict.has_passed ≡ false → IsVerdict files timed row verdict
  took : (found : Option Difference) → timed ≡ true → IsJudged files row found → verdict.has_passed ≡ true → IsVerdict files timed row verdict
  fails : (error : RowError) → IsUnplayed files row error → TellsError row error verdict → IsVerdict files timed row verdict

-- ---- all rows

-- behind these verdicts are more: one on this line where it is a row, and else none
pub record AddsVerdict (Is : List ℕ → Verdict → Type 0) (line : List ℕ) (old new : List Verdict) : Type 0 where
  pub more : List Verdict
  pub each : AllZip Is (filter is_row (line ∷ [])) more
  pub put : new ≡ old ++ more
