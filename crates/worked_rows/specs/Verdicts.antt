-- When a row has passed, and what is told of the rows of a list.
use Rattle.std.specs.Prelude.{◌≡◌, ℕ, List, None, All}
use Rattle.std.specs.String.{string_bytes}
use Rattle.byte_streams.specs.Streams.{Told}
use Rattle.worked_rows.specs.Answers.{Agrees}
use Rattle.row_calls.specs.Calls.{IsAnswerTo}
use Rattle.worked_rows.specs.Rows.{HasExpected, HasWords}
use Rattle.row_calls.specs.declared.calling.Answer.{Answer}
use Rattle.worked_rows.specs.declared.expected.Expected.{Expected}
use Rattle.worked_rows.specs.declared.judging.Verdict.{Verdict}

-- what came of the row's words is what the row's files say
pub record HasPassed (told : Told) (row : List ℕ) : Type 0 where
  pub expected : Expected
  pub words : List (List ℕ)
  pub answer : Answer
  pub stated : HasExpected told row expected
  pub given : HasWords told row words
  pub answered : IsAnswerTo words answer.status
  pub agrees : Agrees expected answer

-- the row that a verdict is on
abbrev pub name_of : Verdict → List ℕ
name_of verdict = string_bytes verdict.name

-- a row whose verdict tells of no fault has passed
abbrev pub IsTrueOf : Told → Verdict → Type 0
IsTrueOf told verdict = verdict.fault ≡ None → HasPassed told (name_of verdict)

-- so for each verdict
abbrev pub AreTrueOf : Told → List Verdict → Type 0
AreTrueOf told verdicts = All (IsTrueOf told) verdicts
