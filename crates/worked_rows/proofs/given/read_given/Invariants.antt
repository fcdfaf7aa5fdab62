use Rattle.std.proofs.Common.{◌≡◌}
use Rattle.worked_rows.proofs.given.read_given.Given as goal

abbrev pub invariant-loop-line : goal.invariant-loop-line
invariant-loop-line g l =
    (l.given.words ≡ l.initial.given.words) × (g.F.Files.contents l.files ≡ g.F.Files.contents l.fn.files)
