-- What is said of the page and the list.
use Rattle.std.specs.Prelude.{◌≡◌, ℕ, zero, suc, List, ◌++◌, ◌==◌, Option, codes, length}
use Rattle.std.specs.Fmt.{decimal}
use Rattle.std.specs.List.{flat_map}
use Rattle.std.specs.String.{string_bytes}
use Rattle.byte_streams.specs.Streams.{Told, IsToldAs}
use Rattle.map_rows.specs.declared.reporting.Report.{Report}
use Rattle.map_rows.specs.Names.{missing}

-- the line of a name that is not there
abbrev pub line_of : List ℕ → List ℕ
line_of name = codes "MAP.md names " ++ (name ++ codes ", which is not there\n")

-- the last line: how many are not there
abbrev pub last_line : ℕ → List ℕ
last_line zero = codes "each file that MAP.md names is there\n"
last_line (suc more) = codes "not there: " ++ (decimal (suc more) ++ codes "\n")

-- the text for these names
abbrev pub text_of : List (List ℕ) → List ℕ
text_of names = flat_map line_of names ++ last_line (length names)

-- The report on the page and the list, where the files tell them: it tells each name of a file on the page that is not
-- in the list, and whether there is none.
pub record IsReport (told : Option Told) (report : Report) : Type 0 where
  pub page : List ℕ
  pub list : List ℕ
  pub page_is : IsToldAs told (codes "MAP.md") page
  pub list_is : IsToldAs told (codes "files") list
  pub text : string_bytes report.text ≡ text_of (missing list page)
  pub whole : report.is_whole ≡ (length (missing list page) == 0)
