-- nothing that was known is lost
use Rattle.std.proofs.Common.{◌≡◌, ℕ}
use Rattle.prepared_code.specs.Cells.{cell_at}
use Rattle.prepared_code.proofs.cells.add_rows.Given as goal

abbrev pub invariant-loop : goal.invariant-loop
invariant-loop l = (other place : ℕ) → cell_at l.rows.items other place ≡ cell_at l.fn.rows.items other place
