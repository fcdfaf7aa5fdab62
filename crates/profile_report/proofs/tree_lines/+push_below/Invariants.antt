use Rattle.std.proofs.Common.{◌≡◌, ◌-◌, ◌+◌, ◌++◌, length, take}
use Rattle.std.specs.List.{flat_map}
use Rattle.context_tree.specs.Profiles.{children_of, path_of_node}
use Rattle.profile_report.specs.Nodes.{lines_from}
use Rattle.profile_report.proofs.tree_lines.+push_below.Given as goal

-- how many levels may be below
abbrev pub decreases-push_below : goal.decreases-push_below
decreases-push_below l = length l.tree.now.contexts - l.level

-- the children so far, each with those below it
abbrev pub invariant-loop-child : goal.invariant-loop-child
invariant-loop-child l =
    l.out.items ≡ l.fn.out.items
    ++ flat_map (lines_from l.program l.tree.contexts (length l.tree.contexts - (l.level + 1)) l.level) (take l.place (children_of (path_of_node l.node l.tree.contexts) l.tree.contexts))

abbrev pub decreases-loop-child : goal.decreases-loop-child
decreases-loop-child l = length (children_of (path_of_node l.node l.tree.contexts) l.tree.contexts) - l.place
