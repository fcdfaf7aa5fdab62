use Rattle.std.proofs.Common.{map}
use Rattle.std.specs.String.{string_bytes}
use Rattle.played_rows.specs.Revelation.Judging.{IsVerdict}
use Rattle.played_rows.proofs.RevelationLemmas.JudgingLemmas.{told-differs, told-took}
use Rattle.played_rows.proofs.revelation.judging.judge_row.Goals as goal

pub returns-then-timed : goal.returns-then-timed
returns-then-timed g c =
    told-took (map (λ f. f.items) c.args.files.now) c.args.timed c.args.row.now c.in_ok-took-in-Ok.field-0 c.in-Ok.difference c.if-timed.true
    c.in-Ok.ensures.difference c.in_ok-took-in-Ok.ensures

pub returns-in_ok-row_failed-in-Some : goal.returns-in_ok-row_failed-in-Some
returns-in_ok-row_failed-in-Some g c =
    told-differs (map (λ f. f.items) c.args.files.now) c.args.timed c.args.row.now c.in_ok-row_failed-in-Some.field-0 c.in-Ok.difference c.in-Some.told
    (string_bytes c.in-Some.told) c.if-timed.false c.in-Ok.ensures.difference c.in-Some.is c.in_ok-row_failed-in-Some.ensures.line c.in_ok-row_failed-in-Some.ensures.passed

pub returns-in_ok-row_failed-in-Err : goal.returns-in_ok-row_failed-in-Err
returns-in_ok-row_failed-in-Err g c = IsVerdict.fails c.in-Err.error c.in-Err.ensures.unplayed (record {
  told = string_bytes c.in_ok-told-in-Err.told;
  line = c.in_ok-row_failed-in-Err.ensures.line;
  memory = c.in_ok-told-in-Err.ensures;
  passed = c.in_ok-row_failed-in-Err.ensures.passed;
})
