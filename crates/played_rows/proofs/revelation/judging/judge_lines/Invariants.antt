-- the verdicts so far are those on the rows so far
use Rattle.std.proofs.Common.{map, take}
use Rattle.std.specs.List.{AllZip, filter}
use Rattle.played_rows.specs.Revelation.Judging.{IsVerdict}
use Rattle.played_rows.specs.Revelation.Lines.{is_row}
use Rattle.played_rows.proofs.revelation.judging.judge_lines.Given as goal

abbrev pub invariant-loop-line : goal.invariant-loop-line
invariant-loop-line g l =
    AllZip (IsVerdict (map (λ f. f.items) l.files) l.timed) (filter is_row (map (λ line. line.now) (take l.line-index l.lines))) l.verdicts.items
