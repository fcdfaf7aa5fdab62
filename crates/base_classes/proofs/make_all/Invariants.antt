-- The classes of the groups so far were made, and the groups that are left have pools.
use Rattle.std.proofs.Common.{◌≡◌, map, take, drop}
use Rattle.std.specs.Prelude.{IsTrue}
use Rattle.std.specs.List.{list_all, flat_map}
use Rattle.base_classes.specs.Making.{class_file_of, has_pool}
use Rattle.base_classes.specs.RowViews.{class_view}
use Rattle.base_classes.proofs.make_all.Given as goal

abbrev pub invariant-loop-group : goal.invariant-loop-group
invariant-loop-group l =
    (l.classes.items ≡ map class_file_of (flat_map (λ rows. map class_view rows.now) (take l.group-index l.group-items)))
    × IsTrue (list_all has_pool (flat_map (λ rows. map class_view rows.now) (drop l.group-index l.group-items)))
