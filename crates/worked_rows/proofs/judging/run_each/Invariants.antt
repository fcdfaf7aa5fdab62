use Rattle.std.proofs.Common.{◌≡◌, ◌<◌, IfSome}
use Rattle.worked_rows.specs.Verdicts.{HasPassed}
use Rattle.worked_rows.proofs.judging.run_each.Given as goal

abbrev pub invariant-loop-front : goal.invariant-loop-front
invariant-loop-front g l = record {
  stay : g.F.Files.contents l.files ≡ g.F.Files.contents l.fn.files;
  passed : 0 < l.front → IfSome (g.F.Files.contents l.fn.files) (λ told. HasPassed told l.row);
}
