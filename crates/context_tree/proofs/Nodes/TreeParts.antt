-- What follows from the invariant of a tree, and how the parts of its nodes change.
use Rattle.std.proofs.Common.{◌≡◌, ℕ, zero, suc, ◌+◌, ◌<◌, ◌≤◌, Bool, true, false, List, [], ◌∷◌, ◌++◌, refl, ap, sym, ◌∙◌, subst, length, get_or, Option, Some, None, IfSome, nat_eq, if◌then◌else◌, arith}
use Rattle.std.specs.List.{list_any, AllZip, position_from}
use Rattle.std.proofs.lemmas.Bool.{or_parts, or_from, eqb-true, eqb-false}
use Rattle.std.proofs.lemmas.List.{append-nil, length_push, length-set, get_or-set_same, get_or-set_other}
use Rattle.std.proofs.lemmas.List.Quantifiers.{position-Some}
use Rattle.std.proofs.lemmas.List.Sums.{sum_by-cons}
use Rattle.std.proofs.lemmas.Iterator.Adapters.{position_from-zero}
use Rattle.jvm_model.specs.Profiling.Paths.{same_path}
use Rattle.context_tree.specs.declared.node.Node.{Node}
use Rattle.context_tree.specs.declared.table.NodeTable.{NodeTable}
use Rattle.context_tree.specs.ChildLists.{list_at, with_entry, number_under}
use Rattle.context_tree.specs.NodeTables.{entries_of, child_by, changed_at, node_called, node_stepped, calls_in, own_in, stepped_at, fresh, table_grown}
use Rattle.context_tree.specs.TreeViews.{path_at, paths_in, AreApart, same_node, IsTree}
use Rattle.context_tree.proofs.Paths.SamePaths.{same_path-is, same_path-sym}
use Rattle.context_tree.proofs.Nodes.NodePaths.{GoesOn, ArePaths, LeavesPlace, goes_on, goes_on-get_or, none_outside, length-paths_after}
use Rattle.context_tree.proofs.Nodes.NodeChildren.{number_under-entries}

module _ (t : NodeTable) (tree : IsTree t) where
  pub length-paths : length (paths_in t.nodes) ≡ length t.nodes
  length-paths = length-paths_after [] t.nodes

  pub each_goes_on : AllZip (GoesOn (paths_in t.nodes)) (paths_in t.nodes) t.nodes
  each_goes_on = goes_on t.nodes tree.behind

  pub are_paths : ArePaths (paths_in t.nodes)
  are_paths = record { apart = tree.apart; inside = none_outside (paths_in t.nodes) (paths_in t.nodes) t.nodes each_goes_on }

  pub valid_path : (node : Option ℕ) → IfSome node (λ i. i < length t.nodes) → IfSome node (λ i. i < length (paths_in t.nodes))
  valid_path node h = subst (λ k. IfSome node (λ i. i < k)) (sym length-paths) h

  -- the child of a node that goes on by a method is the node with the longer path
  pub child_by-path : (node : Option ℕ) (method : ℕ) → IfSome node (λ i. i < length t.nodes)
      → child_by node method t ≡ position_from (same_path (path_at node (paths_in t.nodes) ++ method ∷ [])) 0 (paths_in t.nodes)
  child_by-path node method h =
      ap (number_under method) (tree.entries node)
      ∙ number_under-entries (paths_in t.nodes) are_paths node (valid_path node h) method 0 (paths_in t.nodes) t.nodes each_goes_on

  -- the node at a number, whose path goes on from its parent's
  pub goes_on-at : (i : ℕ) (d : Node) → i < length t.nodes → GoesOn (paths_in t.nodes) (get_or (paths_in t.nodes) i []) (get_or t.nodes i d)
  goes_on-at i d lt = goes_on-get_or (paths_in t.nodes) (paths_in t.nodes) t.nodes i d each_goes_on lt

-- where a path stands
pub record StandsAt (path : List ℕ) (k : ℕ) (paths : List (List ℕ)) : Type 0 where
  pub within : k < length paths
  pub at : get_or paths k [] ≡ path

pub stands_at : (path : List ℕ) (k : ℕ) (paths : List (List ℕ)) → position_from (same_path path) 0 paths ≡ Some k → StandsAt path k paths
stands_at path k paths h =
    let p = position-Some (same_path path) paths k [] (position_from-zero (same_path path) paths ∙ h) in
    record { within = p.0; at = sym (same_path-is path (get_or paths k []) p.1) }

-- ---- one node changed

pub length-changed_at : (f : Node → Node) (i : ℕ) (nodes : List Node) → length (changed_at f i nodes) ≡ length nodes
length-changed_at f i [] = refl
length-changed_at f zero (n ∷ nodes) = refl
length-changed_at f (suc i) (n ∷ nodes) = omega (arith, length-changed_at f i nodes)

pub own_in-called : (i : ℕ) (nodes : List Node) → own_in (changed_at node_called i nodes) ≡ own_in nodes
own_in-called i [] = refl
own_in-called zero (n ∷ nodes) = sum_by-cons (λ (m : Node). m.own) (node_called n) nodes ∙ sym (sum_by-cons (λ (m : Node). m.own) n nodes)
own_in-called (suc i) (n ∷ nodes) =
    sum_by-cons (λ (m : Node). m.own) n (changed_at node_called i nodes) ∙ ap (λ k. n.own + k) (own_in-called i nodes) ∙ sym (sum_by-cons (λ (m : Node). m.own) n nodes)

pub own_in-stepped : (s i : ℕ) (nodes : List Node) → own_in (changed_at (node_stepped s) i nodes) ≤ own_in nodes + s
own_in-stepped s i [] = omega arith
own_in-stepped s zero (n ∷ nodes) = omega (arith, sum_by-cons (λ (m : Node). m.own) (node_stepped s n) nodes, sum_by-cons (λ (m : Node). m.own) n nodes)
own_in-stepped s (suc i) (n ∷ nodes) =
    omega (arith, own_in-stepped s i nodes, sum_by-cons (λ (m : Node). m.own) n (changed_at (node_stepped s) i nodes), sum_by-cons (λ (m : Node). m.own) n nodes)

pub calls_in-called : (i : ℕ) (nodes : List Node) → calls_in (changed_at node_called i nodes) ≤ calls_in nodes + 1
calls_in-called i [] = omega arith
calls_in-called zero (n ∷ nodes) = omega (arith, sum_by-cons (λ (m : Node). m.calls) (node_called n) nodes, sum_by-cons (λ (m : Node). m.calls) n nodes)
calls_in-called (suc i) (n ∷ nodes) =
    omega (arith, calls_in-called i nodes, sum_by-cons (λ (m : Node). m.calls) n (changed_at node_called i nodes), sum_by-cons (λ (m : Node). m.calls) n nodes)

calls_in-stepped : (s i : ℕ) (nodes : List Node) → calls_in (changed_at (node_stepped s) i nodes) ≡ calls_in nodes
calls_in-stepped s i [] = refl
calls_in-stepped s zero (n ∷ nodes) = sum_by-cons (λ (m : Node). m.calls) (node_stepped s n) nodes ∙ sym (sum_by-cons (λ (m : Node). m.calls) n nodes)
calls_in-stepped s (suc i) (n ∷ nodes) =
    sum_by-cons (λ (m : Node). m.calls) n (changed_at (node_stepped s) i nodes) ∙ ap (λ k. n.calls + k) (calls_in-stepped s i nodes) ∙ sym (sum_by-cons (λ (m : Node). m.calls) n nodes)

pub calls_in-stepped_at : (node : Option ℕ) (s : ℕ) (nodes : List Node) → calls_in (stepped_at node s nodes) ≡ calls_in nodes
calls_in-stepped_at None s nodes = refl
calls_in-stepped_at (Some i) s nodes = calls_in-stepped s i nodes

pub LeavesPlace-called : LeavesPlace node_called
LeavesPlace-called = record { method = λ n. refl; parent = λ n. refl }

pub LeavesPlace-stepped : (s : ℕ) → LeavesPlace (node_stepped s)
LeavesPlace-stepped s = record { method = λ n. refl; parent = λ n. refl }

-- ---- one node more

pub AreApart-push : (paths : List (List ℕ)) (path : List ℕ) → AreApart paths → list_any (same_path path) paths ≡ false → AreApart (paths ++ path ∷ [])
AreApart-push [] path apart h = (refl, tt)
AreApart-push (p ∷ paths) path apart h =
    let parts = or_parts (same_path path p) (list_any (same_path path) paths) h in
    let last : same_path p path ≡ false = same_path-sym p path ∙ parts.0 in
    (list_any-push p path paths apart.0 last, AreApart-push paths path apart.1 parts.1)
  where
    list_any-push : (q path : List ℕ) (ps : List (List ℕ)) → list_any (same_path q) ps ≡ false → same_path q path ≡ false → list_any (same_path q) (ps ++ path ∷ []) ≡ false
    list_any-push q path [] a b = or_from (same_path q path) false b refl
    list_any-push q path (r ∷ ps) a b =
        let parts = or_parts (same_path q r) (list_any (same_path q) ps) a in
        or_from (same_path q r) (list_any (same_path q) (ps ++ path ∷ [])) parts.0 (list_any-push q path ps parts.1 b)

-- an empty list more is none past the end
list_at-push : (j : ℕ) (lists : List (List (ℕ × ℕ))) → list_at j (lists ++ [] ∷ []) ≡ list_at j lists
list_at-push zero [] = refl
list_at-push (suc j) [] = refl
list_at-push zero (l ∷ lists) = refl
list_at-push (suc j) (l ∷ lists) = list_at-push j lists

list_at-with_entry : (j i : ℕ) (entry : ℕ × ℕ) (lists : List (List (ℕ × ℕ))) → i < length lists
    → list_at j (with_entry i entry lists) ≡ list_at j lists ++ (if nat_eq j i then entry ∷ [] else [])
list_at-with_entry j i entry lists lt = by (nat_eq j i) refl
  where
    by : (b : Bool) → nat_eq j i ≡ b → list_at j (with_entry i entry lists) ≡ list_at j lists ++ (if b then entry ∷ [] else [])
    by true e =
        let here : j ≡ i = eqb-true j i e in
        subst (λ k. list_at k (with_entry i entry lists) ≡ list_at k lists ++ entry ∷ []) (sym here) (get_or-set_same lists i (list_at i lists ++ entry ∷ []) [] lt)
    by false e = get_or-set_other lists i j (list_at i lists ++ entry ∷ []) [] (eqb-false j i e) ∙ sym (append-nil (list_at j lists))

pub entries_of-grown : (from parent : Option ℕ) (method : ℕ) (t : NodeTable) → IfSome parent (λ i. i < length t.children)
    → entries_of from (table_grown parent method t) ≡ entries_of from t ++ (if same_node from parent then (method, length t.nodes) ∷ [] else [])
entries_of-grown None None method t h = refl
entries_of-grown None (Some i) method t h = sym (append-nil t.outermost)
entries_of-grown (Some j) None method t h = list_at-push j t.children ∙ sym (append-nil (list_at j t.children))
entries_of-grown (Some j) (Some i) method t h =
    list_at-with_entry j i (method, length t.nodes) (t.children ++ [] ∷ []) (omega (arith, h, length_push {X = List (ℕ × ℕ)} t.children []))
    ∙ ap (λ l. l ++ (if nat_eq j i then (method, length t.nodes) ∷ [] else [])) (list_at-push j t.children)

pub nodes-grown : (parent : Option ℕ) (method : ℕ) (t : NodeTable) → (table_grown parent method t).nodes ≡ t.nodes ++ fresh parent method ∷ []
nodes-grown None method t = refl
nodes-grown (Some i) method t = refl

pub clock-grown : (parent : Option ℕ) (method : ℕ) (t : NodeTable) → (table_grown parent method t).clock ≡ t.clock
clock-grown None method t = refl
clock-grown (Some i) method t = refl

pub length-children-grown : (parent : Option ℕ) (method : ℕ) (t : NodeTable) → length (table_grown parent method t).children ≡ length t.children + 1
length-children-grown None method t = length_push {X = List (ℕ × ℕ)} t.children []
length-children-grown (Some i) method t =
    length-set (t.children ++ [] ∷ []) i (list_at i (t.children ++ [] ∷ []) ++ (method, length t.nodes) ∷ []) ∙ length_push {X = List (ℕ × ℕ)} t.children []

pub entries_of-same : (t u : NodeTable) → u.outermost ≡ t.outermost → u.children ≡ t.children → (from : Option ℕ) → entries_of from u ≡ entries_of from t
entries_of-same t u a b None = a
entries_of-same t u a b (Some i) = ap (list_at i) b
