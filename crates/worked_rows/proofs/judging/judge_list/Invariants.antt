use Rattle.std.proofs.Common.{◌≡◌, take, map, IfSome}
use Rattle.worked_rows.specs.Verdicts.{AreTrueOf, name_of}
use Rattle.worked_rows.proofs.judging.judge_list.Given as goal

abbrev pub invariant-loop-name : goal.invariant-loop-name
invariant-loop-name g l = record {
  names : map name_of l.verdicts.items ≡ map (λ x. x.now) (take l.name-index l.name-items);
  stay : g.F.Files.contents l.files ≡ g.F.Files.contents l.fn.files;
  passed : IfSome (g.F.Files.contents l.fn.files) (λ told. AreTrueOf told l.verdicts.items);
}
