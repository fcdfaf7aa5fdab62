use Rattle.std.proofs.Common.{◌≡◌, ◌≤◌, length, take}
use Rattle.worked_rows.proofs.comparing.first_difference.Given as goal

abbrev pub invariant-loop-at : goal.invariant-loop-at
invariant-loop-at l = (l.at ≤ length l.came) × (take l.at l.wanted ≡ take l.at l.came)
