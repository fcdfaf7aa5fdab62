-- What the rest of the members make of what is made so far is what all make.
use Rattle.std.proofs.Common.{◌≡◌, [], map, drop}
use Rattle.base_classes.specs.Making.{members_from}
use Rattle.base_classes.specs.RowViews.{member_view}
use Rattle.base_classes.proofs.making.add_members.Given as goal

abbrev pub invariant-loop-row : goal.invariant-loop-row
invariant-loop-row l =
    members_from l.pool.items l.members (map member_view (drop l.row-index l.rows)) ≡ members_from l.initial.pool.items [] (map member_view l.rows)
