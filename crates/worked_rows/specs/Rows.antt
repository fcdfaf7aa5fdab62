-- What the folder of a row states.
use Rattle.std.specs.Prelude.{◌≡◌, ◌++◌, ◌∷◌, ◌⊎◌, ℕ, List, [], Option, Some, codes}
use Rattle.byte_streams.specs.Streams.{Told, front_at}
use Rattle.worked_rows.specs.Lines.{lines_in}
use Rattle.worked_rows.specs.declared.expected.Expected.{Expected}
use Rattle.worked_rows.specs.declared.expected.ExpectedReport.{ExpectedReport}
use Rattle.worked_rows.specs.declared.expected.ExpectedReport.TheVariants.{Whole, Lines}

-- the path of a file in the row's folder
abbrev pub path_of : List ℕ → List ℕ → List ℕ
path_of row part = row ++ (codes "/" ++ part)

-- what is fetched of a file: its contents, or a front of a longer one
unfoldable pub file_at : Told → List ℕ → Option (List ℕ)
file_at told path = front_at told path 67108864

-- the same of a file in the row's folder
abbrev pub part_at : Told → List ℕ → List ℕ → Option (List ℕ)
part_at told row part = file_at told (path_of row part)

-- the file `report` is all of the report, or the file `report_has` has lines of it
abbrev pub HasReport : Told → List ℕ → ExpectedReport → Type 0
HasReport told row (Whole text) = part_at told row (codes "report") ≡ Some text.items
HasReport told row (Lines text) = part_at told row (codes "report_has") ≡ Some text.items

-- the file `images` is all of the images, or nothing must be put
abbrev pub HasImages : Told → List ℕ → List ℕ → Type 0
HasImages told row images = (part_at told row (codes "images") ≡ Some images) ⊎ (images ≡ [])

-- the files of a row that say what must come
pub record HasExpected (told : Told) (row : List ℕ) (expected : Expected) : Type 0 where
  pub status : part_at told row (codes "status") ≡ Some expected.status.items
  pub output : part_at told row (codes "stdout") ≡ Some expected.output.items
  pub report : HasReport told row expected.report
  pub images : HasImages told row expected.images.items

-- the words of a row: the program's name, and a word, which may be any bytes, on each line of `args`
abbrev pub HasWords : Told → List ℕ → List (List ℕ) → Type 0
HasWords told row words = (text : List ℕ) × (part_at told row (codes "args") ≡ Some text) × (words ≡ codes "jfluid" ∷ lines_in text)
