-- What the files that the words name give.
use Rattle.std.specs.Prelude.{◌≡◌, ◌==◌, ℕ, Bool, List, [], ◌∷◌, ◌++◌, Option, codes, if◌then◌else◌}
use Rattle.std.specs.List.{ends_with}
use Rattle.byte_streams.specs.Streams.{Told}
use Rattle.std.specs.String.{string_bytes}
use Rattle.played_rows.specs.declared.revelation.parts.RowError.{RowError}
use Rattle.played_rows.specs.declared.revelation.parts.RowError.TheVariants.{Missing, NoMemory, NoRoot, NotAdmitted, NotRead, NotText, Unknown}
use Rattle.played_rows.specs.Files.{IsFileAt}

-- a file is a class file where its name ends so, and else has rows
abbrev pub is_class_path : List ℕ → Bool
is_class_path path = ends_with (λ a b. a == b) path (codes ".class")

-- the contents of class files, with these bytes where they are such a file's
abbrev pub classes_with : Bool → List (List ℕ) → List ℕ → List (List ℕ)
classes_with is_class classes bytes = if is_class then classes ++ bytes ∷ [] else classes

-- the texts of the other files in a row, with these bytes where they are such a file's
abbrev pub rows_with : Bool → List ℕ → List ℕ → List ℕ
rows_with is_class rows bytes = if is_class then rows else rows ++ bytes

-- a file's contents are put behind those of the files before it
pub record IsAdded (told : Option Told) (path : List ℕ) (classes : List (List ℕ)) (rows : List ℕ)
    (new_classes : List (List ℕ)) (new_rows : List ℕ) : Type 0 where
  pub bytes : List ℕ
  pub file : IsFileAt told path bytes
  pub classes_are : new_classes ≡ classes_with (is_class_path path) classes bytes
  pub rows_are : new_rows ≡ rows_with (is_class_path path) rows bytes

-- the contents of all class files at these paths, in order, and the texts of all other files
pub data AreRead (told : Option Told) : List (List ℕ) → List (List ℕ) → List ℕ → Type 0 where
  none : AreRead told [] [] []
  more : (path : List ℕ) (paths classes : List (List ℕ)) (rows : List ℕ) (new_classes : List (List ℕ)) (new_rows : List ℕ)
      → AreRead told paths classes rows → IsAdded told path classes rows new_classes new_rows
      → AreRead told (paths ++ path ∷ []) new_classes new_rows

-- the file at this path could not be fetched, or it is no text, or memory ran out
abbrev pub IsUnread : List ℕ → RowError → Type 0
IsUnread path (Missing name) = string_bytes name ≡ path
IsUnread path (NotText name) = string_bytes name ≡ path
IsUnread path NotRead = ⊥
IsUnread path NotAdmitted = ⊥
IsUnread path NoRoot = ⊥
IsUnread path Unknown = ⊥
IsUnread path NoMemory = Unit {0}

-- so it is of one of these paths
pub record IsOneUnread (paths : List (List ℕ)) (error : RowError) : Type 0 where
  pub before : List (List ℕ)
  pub path : List ℕ
  pub after : List (List ℕ)
  pub there : paths ≡ before ++ path ∷ after
  pub unread : IsUnread path error
