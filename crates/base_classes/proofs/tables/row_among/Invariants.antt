-- The place among the groups that are left is the place among all.
use Rattle.std.proofs.Common.{◌≡◌, map, drop, slice_get}
use Rattle.std.specs.List.{flat_map}
use Rattle.base_classes.specs.RowViews.{class_view}
use Rattle.base_classes.proofs.tables.row_among.Given as goal

abbrev pub invariant-loop-group : goal.invariant-loop-group
invariant-loop-group l =
    slice_get (flat_map (λ rows. map class_view rows.now) (drop l.group-index l.groups)) l.place
    ≡ slice_get (flat_map (λ rows. map class_view rows.now) l.groups) l.fn.place
