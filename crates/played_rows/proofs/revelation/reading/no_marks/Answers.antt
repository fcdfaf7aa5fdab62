use Rattle.std.proofs.Common.{◌++◌, ◌<◌, ◌∷◌, [], ap, length, subst, ◌∙◌}
use Rattle.jvm_model.specs.declared.event.Mark.TheVariants.{Off}
use Rattle.played_rows.proofs.RevelationLemmas.MarkLemmas.{off-more}
use Rattle.played_rows.proofs.revelation.reading.no_marks.Goals as goal

pub loop-place-preserved : goal.loop-place-preserved
loop-place-preserved c =
    c.in_ok-push.ensures.items
    ∙ (ap (λ marks. marks ++ (Off ∷ [])) c.loop-place.invariant
    ∙ off-more c.args.program.now.methods c.loop-place._place-index
    (subst (λ ms. c.loop-place._place-index < length ms) c.as_slice-place-items.ensures c.loop-place-test.true))
