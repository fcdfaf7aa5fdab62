use Rattle.std.proofs.Common.{refl, rules, ◌∙◌}
use Rattle.played_rows.proofs.MachineLemmas.MakingLemmas.{class-more, no-classes}
use Rattle.played_rows.proofs.machine.making.read_classes.Goals as goal

pub loop-line-init : goal.loop-line-init
loop-line-init g c = (search rules, refl, no-classes (g.F.Files.contents c.args.files.now) _ c.new-classes.ensures)

pub loop-line-preserved : goal.loop-line-preserved
loop-line-preserved g c = (
  c.in-Ok.ensures.formed,
  c.add_class.ensures.stay ∙ c.loop-line.invariant.1,
  class-more (λ l. l.now) c.args.lines.now c.loop-line.line-index _ _ _ (g.F.Files.contents c.args.files.now) _ _ _ c.loop-line-test.true refl
      c.loop-line.invariant.1 refl c.loop-line.invariant.2 c.in-Ok.ensures.added,
)
