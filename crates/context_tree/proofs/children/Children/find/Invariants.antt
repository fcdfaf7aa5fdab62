use Rattle.std.proofs.Common.{◌≡◌, ◌-◌, drop}
use Rattle.context_tree.specs.ChildLists.{number_under}
use Rattle.context_tree.proofs.children.Children.find.Given as goal

-- no child in front of the place goes on by the method
abbrev pub invariant-loop-place : goal.invariant-loop-place
invariant-loop-place l = number_under l.method (drop l.place l.self) ≡ number_under l.method l.self

abbrev pub decreases-loop-place : goal.decreases-loop-place
decreases-loop-place l = 4 - l.place
