use Rattle.context_tree.proofs.Sums.PassedTotals.{ArePassed}
use Rattle.context_tree.proofs.table.NodeTable.totals.Given as goal

abbrev pub invariant-loop-number : goal.invariant-loop-number
invariant-loop-number l = ArePassed l.self.nodes l.number l.totals

abbrev pub decreases-loop-number : goal.decreases-loop-number
decreases-loop-number l = l.number
