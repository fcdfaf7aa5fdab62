use Rattle.std.proofs.Common.{◌≡◌, ◌≤◌, ◌*◌, ◌^◌, take, sum_by}
use Rattle.context_tree.specs.declared.node.Node.{Node}
use Rattle.profile_report.proofs.summary.sum_of_calls.Given as goal

-- so far, and no more than so many numbers of 64 bits
abbrev pub invariant-loop-node : goal.invariant-loop-node
invariant-loop-node l = record {
  so_far : l.sum ≡ sum_by (λ (n : Node). n.calls) (take l.node-index l.nodes);
  bounded : l.sum ≤ l.node-index * 2 ^ 64;
}
