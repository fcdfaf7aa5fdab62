-- When what came of a row is what must come, and what is told where it is not.
use Rattle.std.specs.Prelude.{◌≡◌, ◌≢◌, ◌+◌, ◌==◌, ◌++◌, ℕ, List, [], ◌∷◌, take, length, min, codes, decimal, bytes_eq, count_by, slice_get, if◌then◌else◌}
use Rattle.byte_streams.specs.Streams.{greatest}
use Rattle.worked_rows.specs.Lines.{lines_in}
use Rattle.row_calls.specs.declared.calling.Answer.{Answer}
use Rattle.worked_rows.specs.declared.comparing.Difference.{Difference}
use Rattle.worked_rows.specs.declared.comparing.Difference.TheVariants.{Status, Output, Images, Report, Lacks}
use Rattle.worked_rows.specs.declared.expected.Expected.{Expected}
use Rattle.worked_rows.specs.declared.expected.ExpectedReport.{ExpectedReport}
use Rattle.worked_rows.specs.declared.expected.ExpectedReport.TheVariants.{Whole, Lines}

-- the lists are the same up to this place, and not at it
pub record IsFirstDifference (wanted came : List ℕ) (at : ℕ) : Type 0 where
  pub front : take at wanted ≡ take at came
  pub there : slice_get wanted at ≢ slice_get came at

-- the number of the line in which the byte at this place stands: line feeds before it, and one
abbrev pub line_number : List ℕ → ℕ → ℕ
line_number text at = min (count_by (λ byte. byte == 10) (take at text) + 1) greatest

-- how many of the wanted lines came, where each is looked for behind the ones before it
abbrev pub found_lines : List (List ℕ) → List (List ℕ) → ℕ
found_lines [] came = 0
found_lines (line ∷ more) [] = 0
found_lines (line ∷ more) (first ∷ rest) =
    if bytes_eq line first then found_lines more rest + 1 else found_lines (line ∷ more) rest

-- how many lines of one text another has, each whole and in this order
abbrev pub lines_found : List ℕ → List ℕ → ℕ
lines_found wanted came = found_lines (lines_in wanted) (lines_in came)

-- a text has all lines of another, each whole and in this order
abbrev pub HasLines : List ℕ → List ℕ → Type 0
HasLines wanted came = lines_found wanted came ≡ length (lines_in wanted)

-- what is told of two texts that differ: the line of the first difference
abbrev pub TextDiffers : List ℕ → List ℕ → Difference → Type 0
TextDiffers wanted came (Report line) = (at : ℕ) × IsFirstDifference wanted came at × (line ≡ line_number wanted at)
TextDiffers wanted came (Status status) = ⊥
TextDiffers wanted came (Output at) = ⊥
TextDiffers wanted came (Images at) = ⊥
TextDiffers wanted came (Lacks line) = ⊥

-- what is told of lines that did not all come: the first that is lacking
abbrev pub LinesDiffer : List ℕ → List ℕ → Difference → Type 0
LinesDiffer wanted came (Lacks line) = (lines_found wanted came ≢ length (lines_in wanted)) × (line ≡ min (lines_found wanted came + 1) greatest)
LinesDiffer wanted came (Status status) = ⊥
LinesDiffer wanted came (Output at) = ⊥
LinesDiffer wanted came (Images at) = ⊥
LinesDiffer wanted came (Report line) = ⊥

-- the report is the whole text, or it has the lines
abbrev pub ReportAgrees : ExpectedReport → List ℕ → Type 0
ReportAgrees (Whole text) report = text.items ≡ report
ReportAgrees (Lines lines) report = HasLines lines.items report

-- what is told of a report that is not what must come
abbrev pub ReportDiffers : ExpectedReport → List ℕ → Difference → Type 0
ReportDiffers (Whole text) report difference = TextDiffers text.items report difference
ReportDiffers (Lines lines) report difference = LinesDiffer lines.items report difference

-- a status as the file `status` has it
abbrev pub status_text : ℕ → List ℕ
status_text status = decimal status ++ codes "\n"

-- what came is what must come
pub record Agrees (expected : Expected) (answer : Answer) : Type 0 where
  pub status : status_text answer.status ≡ expected.status.items
  pub output : expected.output.items ≡ answer.output.items
  pub images : expected.images.items ≡ answer.images.items
  pub report : ReportAgrees expected.report answer.report.items

-- what is told where it is not
abbrev pub Differs : Expected → Answer → Difference → Type 0
Differs expected answer (Status status) = (status ≡ answer.status) × (status_text status ≢ expected.status.items)
Differs expected answer (Output at) = IsFirstDifference expected.output.items answer.output.items at
Differs expected answer (Images at) = IsFirstDifference expected.images.items answer.images.items at
Differs expected answer (Report line) = ReportDiffers expected.report answer.report.items (Report line)
Differs expected answer (Lacks line) = ReportDiffers expected.report answer.report.items (Lacks line)
