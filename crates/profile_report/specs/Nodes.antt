-- The tree's lines as the program comes to them: by the numbers of nodes, and with a count of levels.
use Rattle.std.specs.Prelude.{ℕ, zero, suc, ◌+◌, ◌-◌, List, [], ◌++◌, length, Option, Some, slice_get}
use Rattle.std.specs.List.{flat_map}
use Rattle.std.specs.Option.{option_map_or}
use Rattle.context_tree.specs.Profiles.{Profile, children_of, last_method, path_of_node, total_of}
use Rattle.jvm_model.specs.Profiling.Paths.{Context}
use Rattle.jvm_model.specs.declared.program.Program.{Program}
use Rattle.context_tree.specs.declared.node.Node.{Node}
use Rattle.profile_report.specs.Reports.{line_text}

-- the line of the node with this number, at this level
abbrev pub node_line : Program → List Context → ℕ → ℕ → List ℕ
node_line program contexts level number =
    option_map_or (λ (c : Context). line_text program level c.calls c.own (total_of c.path contexts) (last_method c.path)) (slice_get contexts number) []

-- the lines of the nodes below one, so many levels deep, the first of which is this level
abbrev pub lines_below : Program → List Context → ℕ → ℕ → Option ℕ → List ℕ
lines_below program contexts zero level from = []
lines_below program contexts (suc levels) level from =
    flat_map (λ i. node_line program contexts level i ++ lines_below program contexts levels (level + 1) (Some i)) (children_of (path_of_node from contexts) contexts)

-- the line of a node and the lines of those below it
abbrev pub lines_from : Program → List Context → ℕ → ℕ → ℕ → List ℕ
lines_from program contexts levels level i = node_line program contexts level i ++ lines_below program contexts levels (level + 1) (Some i)

-- a node with its total
abbrev pub node_text : Program → ℕ → Node → ℕ → List ℕ
node_text program level node total = line_text program level node.calls node.own total node.method

-- the same of a tree: no path is longer than there are nodes, and so no node is deeper
abbrev pub tree_line : Program → Profile → ℕ → ℕ → List ℕ
tree_line program tree level number = node_line program tree.contexts level number

abbrev pub tree_lines : Program → Profile → ℕ → Option ℕ → List ℕ
tree_lines program tree level node = lines_below program tree.contexts (length tree.contexts - level) level node
