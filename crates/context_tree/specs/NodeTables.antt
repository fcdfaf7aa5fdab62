-- The nodes as the program keeps them, and what an event does to them: said over numbers of nodes.
use Rattle.std.specs.Prelude.{ℕ, zero, suc, ◌+◌, ◌-◌, List, [], ◌∷◌, ◌++◌, length, map, Option, Some, None, sum_by, slice_get, slice_set, slice_index}
use Rattle.std.specs.Option.{option_and_then, option_map_or}
use Rattle.jvm_model.specs.declared.event.Event.{Event}
use Rattle.jvm_model.specs.declared.event.EventKind.{EventKind}
use Rattle.jvm_model.specs.declared.event.EventKind.TheVariants.{Root, Enter, Leave, Unwind}
use Rattle.context_tree.specs.declared.node.Node.{Node}
use Rattle.context_tree.specs.declared.table.NodeTable.{NodeTable}
use Rattle.context_tree.specs.ChildLists.{list_at, number_under, with_entry}

-- the children of a node, or for none the outermost paths
abbrev pub entries_of : Option ℕ → NodeTable → List (ℕ × ℕ)
entries_of None t = t.outermost
entries_of (Some i) t = list_at i t.children

-- the numbers of children
abbrev pub numbers_in : List (ℕ × ℕ) → List ℕ
numbers_in entries = map (λ e. e.1) entries

-- the child of a node that goes on by this method
abbrev pub child_by : Option ℕ → ℕ → NodeTable → Option ℕ
child_by node method t = number_under method (entries_of node t)

-- the node that a node goes on from
abbrev pub parent_in : List Node → Option ℕ → Option ℕ
parent_in nodes None = None
parent_in nodes (Some i) = option_and_then (λ (n : Node). n.parent) (slice_get nodes i)

-- ---- counts

-- the nodes with one of them changed, or none past the end
abbrev pub changed_at : (Node → Node) → ℕ → List Node → List Node
changed_at f i [] = []
changed_at f zero (n ∷ ns) = f n ∷ ns
changed_at f (suc i) (n ∷ ns) = n ∷ changed_at f i ns

-- one call more
abbrev pub node_called : Node → Node
node_called n = record n { calls = n.calls + 1 }

-- so many steps more
abbrev pub node_stepped : ℕ → Node → Node
node_stepped steps n = record n { own = n.own + steps }

abbrev pub calls_in : List Node → ℕ
calls_in nodes = sum_by (λ (n : Node). n.calls) nodes

abbrev pub own_in : List Node → ℕ
own_in nodes = sum_by (λ (n : Node). n.own) nodes

-- the steps of one node, or none past the end
abbrev pub own_at : ℕ → List Node → ℕ
own_at i nodes = option_map_or (λ (n : Node). n.own) (slice_get nodes i) 0

abbrev pub stepped_at : Option ℕ → ℕ → List Node → List Node
stepped_at None steps nodes = nodes
stepped_at (Some i) steps nodes = changed_at (node_stepped steps) i nodes

-- the steps since the last clock are this node's
abbrev pub steps_given : Option ℕ → ℕ → NodeTable → NodeTable
steps_given node clock t = record t { nodes = stepped_at node (clock - t.clock) t.nodes; clock = clock }

-- a node's number with its parent's
abbrev pub sum_of : ℕ → ℕ → List ℕ → ℕ
sum_of parent node numbers = slice_index numbers parent + slice_index numbers node

-- the numbers of nodes, with one of them added to its parent's
abbrev pub numbers_gathered : Option ℕ → ℕ → List ℕ → List ℕ
numbers_gathered None node numbers = numbers
numbers_gathered (Some parent) node numbers = slice_set numbers parent (sum_of parent node numbers)

-- ---- nodes

-- a node that was begun once
abbrev pub fresh : Option ℕ → ℕ → Node
fresh parent method = record { method = method; parent = parent; calls = 1; own = 0 }

-- one node more at the end, which has no children
abbrev pub with_node : Option ℕ → ℕ → NodeTable → NodeTable
with_node parent method t = record t { nodes = t.nodes ++ fresh parent method ∷ []; children = t.children ++ [] ∷ [] }

-- one child more for a node
abbrev pub with_child : Option ℕ → ℕ × ℕ → NodeTable → NodeTable
with_child None entry t = record t { outermost = t.outermost ++ entry ∷ [] }
with_child (Some i) entry t = record t { children = with_entry i entry t.children }

-- one node more, which is a child of this one
abbrev pub table_grown : Option ℕ → ℕ → NodeTable → NodeTable
table_grown parent method t = with_child parent (method, length t.nodes) (with_node parent method t)

-- ---- events

-- a method's entry at the child that was found, or at a new one
abbrev pub entered_at : Option ℕ → ℕ → NodeTable → NodeTable
entered_at (Some k) method t = record t { nodes = changed_at node_called k t.nodes; «open» = Some k }
entered_at None method t = record (table_grown t.open method t) { «open» = Some (length t.nodes) }

abbrev pub opened_in : ℕ → NodeTable → NodeTable
opened_in method t = entered_at (child_by t.open method t) method t

abbrev pub closed_in : NodeTable → NodeTable
closed_in t = record t { «open» = parent_in t.nodes t.open }

abbrev pub opened_inside : Option ℕ → ℕ → NodeTable → NodeTable
opened_inside None method t = t
opened_inside (Some i) method t = opened_in method t

abbrev pub told_in : EventKind → ℕ → NodeTable → NodeTable
told_in Root method t = opened_in method t
told_in Enter method t = opened_inside t.open method t
told_in Leave method t = closed_in t
told_in Unwind method t = closed_in t

abbrev pub taken_in : NodeTable → Event → NodeTable
taken_in t e = steps_given t.open e.clock (told_in e.kind e.method t)
