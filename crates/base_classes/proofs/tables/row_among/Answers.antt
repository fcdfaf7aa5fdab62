use Rattle.std.proofs.Common.{map, sym}
use Rattle.std.proofs.lemmas.List.{length-map}
use Rattle.base_classes.specs.RowViews.{class_view}
use Rattle.base_classes.proofs.Groups.{found_among, passed_one}
use Rattle.base_classes.proofs.tables.row_among.Goals as goal

pub returns-in-Some : goal.returns-in-Some
returns-in-Some c =
    found_among (λ rows. map class_view rows.now) c.args.groups.now c.loop-group.group-index _ c.loop-group.place c.args.place _
    c.loop-group-test.true c.loop-group.invariant (sym c.in-Some.ensures)

pub loop-group-preserved : goal.loop-group-preserved
loop-group-preserved c =
    passed_one (λ rows. map class_view rows.now) c.args.groups.now c.loop-group.group-index _ c.loop-group.place c.args.place _
    c.loop-group-test.true c.loop-group.invariant (sym c.in_default.ensures) (length-map _ _)
