-- what is left is put behind what was put
use Rattle.std.proofs.Common.{◌≡◌, ◌++◌, ◌-◌}
use Rattle.played_rows.specs.Machine.Reading.{behind, of_clocks, tells}
use Rattle.played_rows.proofs.machine.saying.told_and_settled.Given as goal

abbrev pub invariant-loop-clock : goal.invariant-loop-clock
invariant-loop-clock l =
    l.lines ++ of_clocks (tells l.kind l.method) (l.end - l.clock) l.clock ≡ of_clocks (tells l.kind l.method) (behind l.last - l.first) l.first

abbrev pub decreases-loop-clock : goal.decreases-loop-clock
decreases-loop-clock l = l.end - l.clock
