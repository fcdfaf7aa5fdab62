-- What contracts see of the nodes: a context for each node, with the path that its chain of parents spells.
use Rattle.std.specs.Prelude.{◌≡◌, ℕ, ◌+◌, ◌<◌, ◌≤◌, Bool, false, List, [], ◌∷◌, ◌++◌, length, Option, Some, None, IfSome, nat_eq, slice_index_or, if◌then◌else◌}
use Rattle.std.specs.List.{list_any}
use Rattle.std.specs.Option.{option_eq}
use Rattle.jvm_model.specs.Profiling.Paths.{Context, same_path}
use Rattle.context_tree.specs.Profiles.{Profile, total_of}
use Rattle.context_tree.specs.declared.node.Node.{Node}
use Rattle.context_tree.specs.declared.table.NodeTable.{NodeTable}
use Rattle.context_tree.specs.NodeTables.{entries_of, own_in}

-- the path of a node among those of all nodes; none is outside
abbrev pub path_at : Option ℕ → List (List ℕ) → List ℕ
path_at None paths = []
path_at (Some i) paths = slice_index_or paths i []

-- a node goes on from its parent's path by its method
abbrev pub path_of : List (List ℕ) → Node → List ℕ
path_of paths n = path_at n.parent paths ++ n.method ∷ []

-- the paths of nodes that stand behind others with these paths
abbrev pub paths_after : List (List ℕ) → List Node → List (List ℕ)
paths_after before [] = []
paths_after before (n ∷ nodes) = path_of before n ∷ paths_after (before ++ path_of before n ∷ []) nodes

abbrev pub paths_in : List Node → List (List ℕ)
paths_in nodes = paths_after [] nodes

abbrev pub with_counts : List ℕ → Node → Context
with_counts path n = record { path = path; calls = n.calls; own = n.own }

-- nodes beside their paths
abbrev pub contexts_with : List (List ℕ) → List Node → List Context
contexts_with [] nodes = []
contexts_with (path ∷ paths) [] = []
contexts_with (path ∷ paths) (n ∷ nodes) = with_counts path n ∷ contexts_with paths nodes

abbrev pub contexts_in : List Node → List Context
contexts_in nodes = contexts_with (paths_in nodes) nodes

abbrev pub profile_in : NodeTable → Profile
profile_in t = record { contexts = contexts_in t.nodes; «open» = path_at t.open (paths_in t.nodes); clock = t.clock }

-- the total of a node
abbrev pub total_at : ℕ → List Node → ℕ
total_at i nodes = total_of (path_at (Some i) (paths_in nodes)) (contexts_in nodes)

-- ---- what holds of the nodes of a tree

-- each node's parent stands before it
abbrev pub AreBehind : ℕ → List Node → Type 0
AreBehind at [] = Unit {0}
AreBehind at (n ∷ nodes) = IfSome n.parent (λ i. i < at) × AreBehind (at + 1) nodes

-- no path stands twice
abbrev pub AreApart : List (List ℕ) → Type 0
AreApart [] = Unit {0}
AreApart (path ∷ paths) = (list_any (same_path path) paths ≡ false) × AreApart paths

abbrev pub same_node : Option ℕ → Option ℕ → Bool
same_node a b = option_eq nat_eq a b

-- the method and the number of each node that goes on from this one, where the first has the number `at`
abbrev pub entries_below : Option ℕ → ℕ → List Node → List (ℕ × ℕ)
entries_below from at [] = []
entries_below from at (n ∷ nodes) =
    if same_node from n.parent then (n.method, at) ∷ entries_below from (at + 1) nodes else entries_below from (at + 1) nodes

pub record IsTree (t : NodeTable) : Type 0 where
  pub behind : AreBehind 0 t.nodes
  pub apart : AreApart (paths_in t.nodes)
  pub entries : (node : Option ℕ) → entries_of node t ≡ entries_below node 0 t.nodes
  pub lists : length t.children ≡ length t.nodes
  pub within : IfSome t.open (λ i. i < length t.nodes)
  pub counted : own_in t.nodes ≤ t.clock
