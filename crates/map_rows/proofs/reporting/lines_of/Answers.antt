use Rattle.std.proofs.Common.{◌∙◌, refl}
use Rattle.map_rows.specs.Reporting.{line_of}
use Rattle.map_rows.proofs.NameLemmas.{drop-next, line-next}
use Rattle.map_rows.proofs.reporting.lines_of.Goals as goal

pub loop-name-preserved : goal.loop-name-preserved
loop-name-preserved c =
    line-next line_of _ _ _ _ _ _ _
    (drop-next (λ n. n.now) c.args.names.now c.loop-name.name-index _ _ c.loop-name-test.true refl)
    c.loop-name.invariant (c.as_str.ensures.value ∙ c.in_ok-line.ensures) c.in_ok-push_str.ensures.bytes
