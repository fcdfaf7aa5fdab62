-- What files tell of a row, put together from what was fetched of it.
use Rattle.std.proofs.Common.{◌≡◌, ℕ, List, [], ◌∷◌, ◌++◌, Option, Some, None, IfSome, sym, ap, subst, ◌∙◌}
use Rattle.std.specs.Prelude.{codes}
use Rattle.std.proofs.lemmas.List.Elements.{All-push}
use Rattle.byte_streams.specs.Streams.{Told}
use Rattle.worked_rows.specs.Answers.{Agrees}
use Rattle.row_calls.specs.Calls.{IsAnswerTo}
use Rattle.worked_rows.specs.Lines.{lines_in}
use Rattle.worked_rows.specs.Rows.{part_at, HasExpected, HasWords}
use Rattle.worked_rows.specs.Verdicts.{HasPassed, IsTrueOf, AreTrueOf, name_of}
use Rattle.row_calls.specs.declared.calling.Answer.{Answer}
use Rattle.worked_rows.specs.declared.expected.Expected.{Expected}
use Rattle.worked_rows.specs.declared.judging.Verdict.{Verdict}

-- the words that the text of `args` says
pub has_words : (told : Option Told) (row text now : List ℕ) (old new : List (List ℕ)) → IfSome told (λ t. part_at t row (codes "args") ≡ Some text) → now ≡ text → old ≡ codes "jfluid" ∷ lines_in now → new ≡ old → IfSome told (λ t. HasWords t row new)
has_words (Some t) row text now old new found same said kept = (text, found, kept ∙ said ∙ ap (λ bytes. codes "jfluid" ∷ lines_in bytes) same)
has_words None row text now old new found same said kept = tt

-- a row whose answer agrees has passed
pub has_passed : (told later : Option Told) (row : List ℕ) (expected : Expected) (words : List (List ℕ)) (answer : Answer) → IfSome told (λ t. HasExpected t row expected) → later ≡ told → IfSome later (λ t. HasWords t row words) → IsAnswerTo words answer.status → Agrees expected answer → IfSome told (λ t. HasPassed t row)
has_passed (Some t) later row expected words answer stated same given answered agrees = record {
  expected = expected;
  words = words;
  answer = answer;
  stated = stated;
  given = subst (λ o. IfSome o (λ t. HasWords t row words)) same given;
  answered = answered;
  agrees = agrees;
}
has_passed None later row expected words answer stated same given answered agrees = tt

-- one verdict more
pub true_of_more : (told later : Option Told) (row : List ℕ) (verdicts more : List Verdict) (verdict : Verdict) → IfSome told (λ t. AreTrueOf t verdicts) → later ≡ told → name_of verdict ≡ row → (verdict.fault ≡ None → IfSome later (λ t. HasPassed t row)) → more ≡ verdicts ++ verdict ∷ [] → IfSome told (λ t. AreTrueOf t more)
true_of_more (Some t) later row verdicts more verdict before same name passed grown =
    let last : IsTrueOf t verdict = λ e. subst (HasPassed t) (sym name) (subst (λ o. IfSome o (λ u. HasPassed u row)) same (passed e)) in
    subst (AreTrueOf t) (sym grown) (All-push (IsTrueOf t) verdicts verdict before last)
true_of_more None later row verdicts more verdict before same name passed grown = tt
