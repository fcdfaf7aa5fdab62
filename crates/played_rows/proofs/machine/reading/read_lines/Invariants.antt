-- what the lines so far say was placed, and the files' contents stay
use Rattle.std.proofs.Common.{◌≡◌, map, take}
use Rattle.played_rows.specs.Machine.Reading.{AreSaid}
use Rattle.played_rows.proofs.machine.reading.read_lines.Given as goal

abbrev pub invariant-loop-line : goal.invariant-loop-line
invariant-loop-line g l =
    (g.F.Files.contents l.files ≡ g.F.Files.contents l.fn.files)
    × (l.number ≡ l.line-index)
    × AreSaid l.program (g.F.Files.contents l.fn.files) (map (λ line. line.now) (take l.line-index l.lines)) l.placed.items l.next
