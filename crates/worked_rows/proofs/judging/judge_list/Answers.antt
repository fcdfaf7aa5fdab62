use Rattle.std.proofs.Common.{arith}
use Rattle.std.proofs.lemmas.Grind.{common_steps}
use Rattle.worked_rows.proofs.Told.{true_of_more}
use Rattle.worked_rows.proofs.judging.judge_list.Goals as goal

pub loop-name-preserved : goal.loop-name-preserved
loop-name-preserved g c = record {
  names = grind (arith, common_steps);
  stay = cc (c.in_ok-judge.ensures.stay, c.loop-name.invariant.stay);
  passed = true_of_more (g.F.Files.contents c.args.files.now) (g.F.Files.contents c.loop-name.files) _ _ _ c.in_ok-judge.field-0 c.loop-name.invariant.passed c.loop-name.invariant.stay c.in_ok-judge.ensures.name c.in_ok-judge.ensures.passed c.in_ok-push.ensures.items;
}
