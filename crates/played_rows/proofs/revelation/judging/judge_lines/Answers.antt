use Rattle.std.proofs.Common.{map, refl}
use Rattle.played_rows.specs.Revelation.Judging.{IsVerdict}
use Rattle.played_rows.proofs.RevelationLemmas.JudgingLemmas.{verdict-next}
use Rattle.played_rows.proofs.revelation.judging.judge_lines.Goals as goal

pub loop-line-preserved : goal.loop-line-preserved
loop-line-preserved g c =
    verdict-next (IsVerdict (map (λ f. f.items) c.args.files.now) c.args.timed) (λ l. l.now) c.args.lines.now c.loop-line.line-index _ _ _ _ _
    c.loop-line-test.true refl refl c.loop-line.invariant c.in_ok-add_verdict.ensures
