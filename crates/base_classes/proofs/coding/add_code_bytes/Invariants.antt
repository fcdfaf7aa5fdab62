-- What the rest of the instructions make of what is made so far is what all make.
use Rattle.std.proofs.Common.{◌≡◌, [], map, drop}
use Rattle.base_classes.specs.Making.{code_from}
use Rattle.base_classes.specs.RowViews.{instruction_view}
use Rattle.base_classes.proofs.coding.add_code_bytes.Given as goal

abbrev pub invariant-loop-row : goal.invariant-loop-row
invariant-loop-row l =
    code_from l.pool.items l.code.items (map instruction_view (drop l.row-index l.rows)) ≡ code_from l.initial.pool.items [] (map instruction_view l.rows)
