-- the buckets so far, with the members that are left
use Rattle.std.proofs.Common.{◌≡◌, ◌+◌, drop, length}
use Rattle.class_index.specs.Buckets.{buckets_of, filled_from}
use Rattle.class_index.proofs.table.buckets_of.Given as goal

abbrev pub invariant-loop-at : goal.invariant-loop-at
invariant-loop-at l =
    (filled_from (length l.members + 1) l.pool l.at (drop l.at l.members) l.buckets.items ≡ buckets_of l.pool l.members)
    × (length l.buckets.items ≡ length l.members + 1)
