-- the lines so far are put behind those that were there
use Rattle.std.proofs.Common.{◌≡◌, ◌++◌}
use Rattle.played_rows.specs.Machine.Reading.{placed_at}
use Rattle.played_rows.proofs.machine.reading.place.Given as goal

abbrev pub invariant-loop-line : goal.invariant-loop-line
invariant-loop-line l = l.placed.items ≡ l.fn.placed.items ++ placed_at l.number l.yielded
