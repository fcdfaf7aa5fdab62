-- the versions so far, and there is room for those that are left
use Rattle.std.proofs.Common.{◌≤◌, ◌+◌, length}
use Rattle.prepared_code.specs.Tables.{Adds, table_seen}
use Rattle.prepared_code.proofs.versions.add_each.Given as goal

abbrev pub invariant-loop-version : goal.invariant-loop-version
invariant-loop-version l = Adds l.frames.frames l.yielded (table_seen l.fn.table) (table_seen l.table) × (length l.fn.more ≤ l.table.spare + length l.yielded)
