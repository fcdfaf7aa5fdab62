-- The classes of the rows so far were added, and the rows that are left have pools.
use Rattle.std.proofs.Common.{◌≡◌, ◌++◌, map, take, drop}
use Rattle.std.specs.Prelude.{IsTrue}
use Rattle.std.specs.List.{list_all}
use Rattle.base_classes.specs.Making.{class_file_of, has_pool}
use Rattle.base_classes.specs.RowViews.{class_view}
use Rattle.base_classes.proofs.add_classes.Given as goal

abbrev pub invariant-loop-row : goal.invariant-loop-row
invariant-loop-row l =
    (l.classes.items ≡ l.initial.classes.items ++ map class_file_of (map class_view (take l.row-index l.rows)))
    × IsTrue (list_all has_pool (map class_view (drop l.row-index l.rows)))
