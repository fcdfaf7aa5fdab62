-- A calling-context tree as a list of contexts with an open path, and what each event does to it: said over paths.
use Rattle.std.specs.Prelude.{ℕ, ◌+◌, ◌-◌, Bool, false, List, [], ◌∷◌, ◌++◌, map, filter, sum_by, fold, Option, Some, None, position, slice_get, if◌then◌else◌}
use Rattle.std.specs.Option.{option_map_or}
use Rattle.std.specs.List.{list_any, enumerate_from, filter_map}
use Rattle.jvm_model.specs.declared.event.Event.{Event}
use Rattle.jvm_model.specs.declared.event.EventKind.{EventKind}
use Rattle.jvm_model.specs.declared.event.EventKind.TheVariants.{Root, Enter, Leave, Unwind}
use Rattle.jvm_model.specs.Profiling.Paths.{Context, same_path, is_outside, is_within}
use Rattle.context_tree.specs.declared.node.Node.{Node}

-- the path of the parent: all but the last method
abbrev pub parent_path : List ℕ → List ℕ
parent_path [] = []
parent_path (m ∷ []) = []
parent_path (m ∷ n ∷ rest) = m ∷ parent_path (n ∷ rest)

-- the method that a path ends in
abbrev pub last_method : List ℕ → ℕ
last_method [] = 0
last_method (m ∷ []) = m
last_method (m ∷ n ∷ rest) = last_method (n ∷ rest)

-- The contexts in order of first begin; the open path, which is empty outside a root; and the last clock.
pub record Profile : Type 0 where
  pub contexts : List Context
  pub «open» : List ℕ
  pub clock : ℕ

abbrev pub blank : Profile
blank = record { contexts = []; «open» = []; clock = 0 }

abbrev pub has_path : List ℕ → Context → Bool
has_path path c = same_path path c.path

-- ---- what an event does

-- so many steps more for this path
abbrev pub with_own : List ℕ → ℕ → Context → Context
with_own path steps c = if has_path path c then record c { own = c.own + steps } else c

-- the steps since the last clock were made in the open path
abbrev pub steps_credited : ℕ → Profile → Profile
steps_credited clock p = record p { contexts = map (with_own p.open (clock - p.clock)) p.contexts; clock = clock }

-- one entry more with this path
abbrev pub with_call : List ℕ → Context → Context
with_call path c = if has_path path c then record c { calls = c.calls + 1 } else c

abbrev pub call_begun : List ℕ → List Context → List Context
call_begun path contexts =
    if list_any (has_path path) contexts then map (with_call path) contexts
    else contexts ++ record { path = path; calls = 1; own = 0 } ∷ []

-- a method's entry opens the path that goes on from the open one
abbrev pub path_opened : ℕ → Profile → Profile
path_opened method p = record p { contexts = call_begun (p.open ++ method ∷ []) p.contexts; «open» = p.open ++ method ∷ [] }

-- its end goes back to the path before
abbrev pub path_closed : Profile → Profile
path_closed p = record p { «open» = parent_path p.open }

-- A root opens an entry; another method's entry opens one where one is open; leaving and unwinding close the last open
-- one.
abbrev pub event_told : EventKind → ℕ → Profile → Profile
event_told Root method p = path_opened method p
event_told Enter method p = if is_outside p.open then p else path_opened method p
event_told Leave method p = path_closed p
event_told Unwind method p = path_closed p

abbrev pub event_taken : Profile → Event → Profile
event_taken p e = event_told e.kind e.method (steps_credited e.clock p)

-- after these events, one after another
abbrev pub profile_of : List Event → Profile
profile_of events = fold event_taken blank events

-- ---- the tree

-- all calls, and all steps
abbrev pub calls_of : Profile → ℕ
calls_of p = sum_by (λ (c : Context). c.calls) p.contexts

-- the number of the context with this path
abbrev pub number_of : List ℕ → List Context → Option ℕ
number_of path contexts = position (has_path path) contexts

-- a context as a node: its method, and the number of its parent's context; an outermost one has none
abbrev pub node_of : List Context → Context → Node
node_of contexts c = record { method = last_method c.path; parent = number_of (parent_path c.path) contexts; calls = c.calls; own = c.own }

abbrev pub nodes_of : Profile → List Node
nodes_of p = map (node_of p.contexts) p.contexts

-- a path that goes on from this one by one method
abbrev pub is_child : List ℕ → Context → Bool
is_child path c = if is_outside c.path then false else same_path (parent_path c.path) path

-- the numbers of the contexts one method below this path, in order of first begin
abbrev pub numbered_child : List ℕ → ℕ × Context → Option ℕ
numbered_child path c = if is_child path c.1 then Some c.0 else None

abbrev pub children_of : List ℕ → List Context → List ℕ
children_of path contexts = filter_map (numbered_child path) (enumerate_from 0 contexts)

-- the path of the context with this number; none is outside
abbrev pub path_of_node : Option ℕ → List Context → List ℕ
path_of_node None contexts = []
path_of_node (Some node) contexts = option_map_or (λ (c : Context). c.path) (slice_get contexts node) []

-- the number of the child at this place of a node, or of no node, which has the outermost paths
abbrev pub child_at : Option ℕ → ℕ → List Context → Option ℕ
child_at node place contexts = slice_get (children_of (path_of_node node contexts) contexts) place

-- the steps of a path and of all that go on from it
abbrev pub total_of : List ℕ → List Context → ℕ
total_of path contexts = sum_by (λ (c : Context). c.own) (filter (is_within path) contexts)

-- the totals of all contexts, in their order
abbrev pub totals_of : Profile → List ℕ
totals_of p = map (λ (c : Context). total_of c.path p.contexts) p.contexts
