-- what is left is put behind what was put
use Rattle.std.proofs.Common.{◌≡◌, None}
use Rattle.std.specs.Option.{option_map}
use Rattle.played_rows.specs.Machine.Reading.{said_behind, so_often, turn_taken}
use Rattle.played_rows.proofs.machine.saying.so_often.Given as goal

abbrev pub invariant-loop-left : goal.invariant-loop-left
invariant-loop-left l =
    option_map (said_behind (record { lines = l.lines.items; next = l.next })) (so_often (turn_taken l.program None l.words) l.left l.next)
    ≡ so_often (turn_taken l.program None l.words) l.count l.fn.next

abbrev pub decreases-loop-left : goal.decreases-loop-left
decreases-loop-left l = l.left
