use Rattle.std.proofs.Common.{map, sym, ◌∙◌}
use Rattle.played_rows.specs.Revelation.Judging.{IsVerdict}
use Rattle.played_rows.proofs.RevelationLemmas.JudgingLemmas.{none-added, row-added}
use Rattle.played_rows.proofs.revelation.judging.add_verdict.Goals as goal

pub returns-then-is_row : goal.returns-then-is_row
returns-then-is_row g c =
    row-added (IsVerdict (map (λ f. f.items) c.args.files.now) c.args.timed) c.args.line.now c.args.verdicts.now.items _ _
    (sym c.is_row.ensures ∙ c.if-is_row.true) c.in_ok-verdict.ensures c.in_ok-push.ensures.items

pub returns : goal.returns
returns g c =
    none-added (IsVerdict (map (λ f. f.items) c.args.files.now) c.args.timed) c.args.line.now c.args.verdicts.now.items
    (sym c.is_row.ensures ∙ c.if-is_row.false)
