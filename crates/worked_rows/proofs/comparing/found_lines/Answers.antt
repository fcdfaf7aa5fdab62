use Rattle.std.proofs.Common.{◌≡◌, drop, map, arith}
use Rattle.worked_rows.specs.Answers.{found_lines}
use Rattle.worked_rows.proofs.Found.{found_at_end}
use Rattle.worked_rows.proofs.comparing.found_lines.Goals as goal

pub returns : goal.returns
returns c =
    let none : found_lines (map (λ w. w.now) (drop c.loop-line.found c.args.wanted.now)) (map (λ line. line.now) (drop c.loop-line.line-index c.args.came.now)) ≡ 0 =
    found_at_end (map (λ w. w.now) (drop c.loop-line.found c.args.wanted.now)) c.args.came.now c.loop-line.line-index (omega arith) in
    omega (arith, c.loop-line.invariant.1, none)
