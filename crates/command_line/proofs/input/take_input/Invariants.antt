-- what was taken so far is gone from the source, which had no fault
use Rattle.std.proofs.Common.{◌≡◌, ◌+◌, ◌-◌, ◌≤◌, length}
use Rattle.std.specs.Io.KnownBytes.{Consumes}
use Rattle.command_line.specs.Input.{most_input}
use Rattle.command_line.proofs.input.take_input.Given as goal

abbrev pub invariant-loop-chunk : goal.invariant-loop-chunk
invariant-loop-chunk g l =
    (length l.bytes ≤ most_input + 1)
    × Consumes (g.I.Source.left l.fn.source) (g.I.Source.left l.source) l.bytes
    × (g.I.Source.faults l.source ≡ g.I.Source.faults l.fn.source)

abbrev pub decreases-loop-chunk : goal.decreases-loop-chunk
decreases-loop-chunk g l = most_input + 1 - length l.bytes
