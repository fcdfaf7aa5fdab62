use Rattle.std.proofs.Common.{◌+◌, ◌-◌, length}
use Rattle.possible_callees.specs.Tables.{IsPadded}
use Rattle.possible_callees.proofs.tables.make_room.Given as goal

abbrev pub decreases-loop-item : goal.decreases-loop-item
decreases-loop-item g l = l.number + 1 - length l.items

abbrev pub invariant-loop-item : goal.invariant-loop-item
invariant-loop-item g l = IsPadded l.item l.initial.items l.items
