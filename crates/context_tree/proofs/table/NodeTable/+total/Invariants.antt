use Rattle.std.proofs.Common.{◌≡◌, ◌≤◌, ◌+◌, ◌-◌, Some, length, take, sum_by}
use Rattle.context_tree.specs.NodeTables.{entries_of, numbers_in, own_at}
use Rattle.context_tree.specs.TreeViews.{total_at}
use Rattle.context_tree.proofs.table.NodeTable.+total.Given as goal

abbrev pub decreases-total : goal.decreases-total
decreases-total l = length l.self.now.nodes - l.node

abbrev pub invariant-loop-child : goal.invariant-loop-child
invariant-loop-child l = record {
  summed : l.sum ≡ own_at l.node l.self.nodes + sum_by (λ k. total_at k l.self.nodes) (take l.place (numbers_in (entries_of (Some l.node) l.self)));
  within : l.place ≤ length (numbers_in (entries_of (Some l.node) l.self));
}

abbrev pub decreases-loop-child : goal.decreases-loop-child
decreases-loop-child l = length (numbers_in (entries_of (Some l.node) l.self)) - l.place
