use Rattle.std.proofs.Common.{◌≡◌, ◌+◌, ◌≤◌, length, drop, map}
use Rattle.worked_rows.specs.Answers.{found_lines}
use Rattle.worked_rows.proofs.comparing.found_lines.Given as goal

abbrev pub invariant-loop-line : goal.invariant-loop-line
invariant-loop-line l =
    (l.found ≤ length l.wanted) × (found_lines (map (λ w. w.now) l.wanted) (map (λ c. c.now) l.came)
    ≡ found_lines (map (λ w. w.now) (drop l.found l.wanted)) (map (λ c. c.now) (drop l.line-index l.came)) + l.found)
