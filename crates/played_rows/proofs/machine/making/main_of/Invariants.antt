-- the main class of all lines is that of the lines that are left
use Rattle.std.proofs.Common.{◌≡◌, drop, map}
use Rattle.played_rows.specs.Machine.Making.{main_said}
use Rattle.played_rows.proofs.machine.making.main_of.Given as goal

abbrev pub invariant-loop-line : goal.invariant-loop-line
invariant-loop-line l = main_said (map (λ line. line.now) (drop l.line-index l.lines)) ≡ main_said (map (λ line. line.now) l.lines)
