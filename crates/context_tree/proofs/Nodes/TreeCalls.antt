-- What the calls of a tree read off its nodes.
use Rattle.std.proofs.Common.{◌≡◌, ℕ, zero, suc, ◌+◌, ◌-◌, ◌<◌, ◌≤◌, List, [], ◌∷◌, refl, ap, sym, ◌∙◌, subst, length, get_or, Option, Some, None, IfSome, slice_get, arith}
use Rattle.std.specs.Option.{option_map_or}
use Rattle.std.proofs.lemmas.List.Sums.{sum_by_push}
use Rattle.jvm_model.specs.declared.event.Event.{Event}
use Rattle.jvm_model.specs.declared.event.EventKind.{EventKind}
use Rattle.jvm_model.specs.declared.event.EventKind.TheVariants.{Root, Enter, Leave, Unwind}
use Rattle.jvm_model.specs.Profiling.Paths.{Context}
use Rattle.context_tree.specs.declared.node.Node.{Node}
use Rattle.context_tree.specs.declared.table.NodeTable.{NodeTable}
use Rattle.context_tree.specs.Profiles.{calls_of, nodes_of, children_of, path_of_node}
use Rattle.context_tree.specs.NodeTables.{entries_of, numbers_in, child_by, calls_in, steps_given, fresh, entered_at, opened_inside, told_in, taken_in}
use Rattle.context_tree.specs.TreeViews.{path_at, paths_in, contexts_with, contexts_in, profile_in, IsTree}
use Rattle.context_tree.proofs.Nodes.NodePaths.{length-paths_after}
use Rattle.context_tree.proofs.Nodes.NodeContexts.{number_of-contexts_with, sum_by-contexts_with, map-node_of}
use Rattle.context_tree.proofs.Nodes.NodeChildren.{children_of-entries}
use Rattle.context_tree.proofs.Sums.Totals.{is_child_number}
use Rattle.context_tree.proofs.Nodes.TreeParts.{length-paths, are_paths, valid_path, each_goes_on, calls_in-called, calls_in-stepped_at, nodes-grown}

pub length-contexts_with : (paths : List (List ℕ)) (nodes : List Node) → length paths ≡ length nodes → length (contexts_with paths nodes) ≡ length nodes
length-contexts_with [] nodes e = e
length-contexts_with (p ∷ paths) [] e = absurd (omega (arith, e))
length-contexts_with (p ∷ paths) (n ∷ nodes) e = omega (arith, length-contexts_with paths nodes (omega (arith, e)))

pub length-contexts : (nodes : List Node) → length (contexts_in nodes) ≡ length nodes
length-contexts nodes = length-contexts_with (paths_in nodes) nodes (length-paths_after [] nodes)

path-contexts_with : (paths : List (List ℕ)) (nodes : List Node) (i : ℕ) → length paths ≡ length nodes → option_map_or (λ (c : Context). c.path) (slice_get (contexts_with paths nodes) i) [] ≡ get_or paths i []
path-contexts_with [] nodes i e = refl
path-contexts_with (p ∷ paths) [] i e = absurd (omega (arith, e))
path-contexts_with (p ∷ paths) (n ∷ nodes) zero e = refl
path-contexts_with (p ∷ paths) (n ∷ nodes) (suc i) e = path-contexts_with paths nodes i (omega (arith, e))

pub path_of_node-contexts : (node : Option ℕ) (nodes : List Node) → path_of_node node (contexts_in nodes) ≡ path_at node (paths_in nodes)
path_of_node-contexts None nodes = refl
path_of_node-contexts (Some i) nodes = path-contexts_with (paths_in nodes) nodes i (length-paths_after [] nodes)

pub nodes_is : (t : NodeTable) → IsTree t → t.nodes ≡ nodes_of (profile_in t)
nodes_is t tree =
    sym (map-node_of (contexts_in t.nodes) (paths_in t.nodes) (are_paths t tree) (λ P. number_of-contexts_with P (paths_in t.nodes) t.nodes (length-paths t tree))
    (paths_in t.nodes) t.nodes (each_goes_on t tree))

pub child_is : (t : NodeTable) → IsTree t → (node : Option ℕ) (place : ℕ) → IfSome node (λ i. i < length (profile_in t).contexts)
    → slice_get (numbers_in (entries_of node t)) place ≡ slice_get (children_of (path_of_node node (profile_in t).contexts) (profile_in t).contexts) place
child_is t tree node place h =
    let valid : IfSome node (λ i. i < length t.nodes) = subst (λ k. IfSome node (λ i. i < k)) (length-contexts t.nodes) h in
    ap (λ l. slice_get l place)
    (ap numbers_in (tree.entries node)
    ∙ sym (children_of-entries (paths_in t.nodes) (are_paths t tree) node (valid_path t tree node valid) 0 (paths_in t.nodes) t.nodes (each_goes_on t tree))
    ∙ ap (λ P. children_of P (contexts_in t.nodes)) (sym (path_of_node-contexts node t.nodes)))

pub child_within : (t : NodeTable) → IsTree t → (from : Option ℕ) (place : ℕ) (r : Option ℕ) → r ≡ slice_get (numbers_in (entries_of from t)) place → IfSome r (λ child. child < length (profile_in t).contexts)
child_within t tree from place None e = tt
child_within t tree from place (Some child) e = subst (λ k. child < k) (sym (length-contexts t.nodes)) (is_child_number t tree from place child (sym e)).within

pub child_behind : (t : NodeTable) → IsTree t → (from : Option ℕ) (place : ℕ) (r : Option ℕ) → r ≡ slice_get (numbers_in (entries_of from t)) place → IfSome r (λ child. IfSome from (λ parent. parent < child))
child_behind t tree from place None e = tt
child_behind t tree from place (Some child) e = (is_child_number t tree from place child (sym e)).behind

pub calls_is : (t : NodeTable) → calls_of (profile_in t) ≡ calls_in t.nodes
calls_is t = sum_by-contexts_with (λ (n : Node). n.calls) (λ (c : Context). c.calls) (λ p n. refl) (paths_in t.nodes) t.nodes (length-paths_after [] t.nodes)

-- ---- an event is one call more at most

calls_in-entered_at : (r : Option ℕ) (method : ℕ) (t : NodeTable) → calls_in (entered_at r method t).nodes ≤ calls_in t.nodes + 1
calls_in-entered_at (Some k) method t = calls_in-called k t.nodes
calls_in-entered_at None method t = omega (arith, ap calls_in (nodes-grown t.open method t), sum_by_push (λ (n : Node). n.calls) t.nodes (fresh t.open method))

calls_in-opened_inside : (node : Option ℕ) (method : ℕ) (t : NodeTable) → calls_in (opened_inside node method t).nodes ≤ calls_in t.nodes + 1
calls_in-opened_inside None method t = omega arith
calls_in-opened_inside (Some i) method t = calls_in-entered_at (child_by t.open method t) method t

calls_in-told_in : (kind : EventKind) (method : ℕ) (t : NodeTable) → calls_in (told_in kind method t).nodes ≤ calls_in t.nodes + 1
calls_in-told_in Root method t = calls_in-entered_at (child_by t.open method t) method t
calls_in-told_in Enter method t = calls_in-opened_inside t.open method t
calls_in-told_in Leave method t = omega arith
calls_in-told_in Unwind method t = omega arith

pub calls_of-taken_in : (t : NodeTable) (e : Event) → calls_of (profile_in (taken_in t e)) ≤ calls_of (profile_in t) + 1
calls_of-taken_in t e =
    let u : NodeTable = told_in e.kind e.method t in
    omega (arith, calls_is t, calls_is (taken_in t e), calls_in-stepped_at t.open (e.clock - u.clock) u.nodes, calls_in-told_in e.kind e.method t)

pub calls_of-given : (node : Option ℕ) (clock : ℕ) (t : NodeTable) → calls_of (profile_in (steps_given node clock t)) ≡ calls_of (profile_in t)
calls_of-given node clock t = calls_is (steps_given node clock t) ∙ calls_in-stepped_at node (clock - t.clock) t.nodes ∙ sym (calls_is t)
