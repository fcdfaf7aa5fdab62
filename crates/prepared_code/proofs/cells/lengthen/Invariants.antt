-- nothing that was known is lost
use Rattle.std.proofs.Common.{◌≡◌, ℕ}
use Rattle.prepared_code.specs.Cells.{item_at}
use Rattle.prepared_code.proofs.cells.lengthen.Given as goal

abbrev pub invariant-loop : goal.invariant-loop
invariant-loop l = (other : ℕ) → item_at l.row other ≡ item_at l.fn.row other
