-- The number among the methods that are left is the number among all.
use Rattle.std.proofs.Common.{◌≡◌, ◌+◌, ◌≤◌, map, filter, drop}
use Rattle.std.specs.List.{position_from}
use Rattle.base_classes.specs.Natives.{is_native, is_member}
use Rattle.base_classes.specs.RowViews.{member_view}
use Rattle.base_classes.proofs.natives.number_among.Given as goal

abbrev pub invariant-loop-method : goal.invariant-loop-method
invariant-loop-method l =
    (l.number ≤ l.first + l.method-index)
    × (position_from (is_member l.name l.descriptor) l.number (filter is_native (map member_view (drop l.method-index l.methods)))
    ≡ position_from (is_member l.name l.descriptor) l.first (filter is_native (map member_view l.methods)))
