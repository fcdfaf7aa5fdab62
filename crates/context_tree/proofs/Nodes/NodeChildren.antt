-- The nodes that go on from one node, and the contexts one method below its path.
use Rattle.std.proofs.Common.{◌≡◌, ℕ, zero, suc, ◌+◌, ◌<◌, Bool, true, false, ◌&&◌, List, [], ◌∷◌, ◌++◌, refl, ap, sym, ◌∙◌, map, length, Option, Some, None, IfSome, nat_eq, cond, if◌then◌else◌, arith}
use Rattle.std.specs.List.{AllZip, position_from, enumerate_from, filter_map, cons_option}
use Rattle.jvm_model.specs.Profiling.Paths.{same_path, is_outside}
use Rattle.context_tree.specs.declared.node.Node.{Node}
use Rattle.context_tree.specs.Profiles.{parent_path, is_child, numbered_child}
use Rattle.context_tree.specs.ChildLists.{number_under}
use Rattle.context_tree.specs.NodeTables.{changed_at}
use Rattle.context_tree.specs.TreeViews.{path_at, with_counts, contexts_with, same_node, entries_below}
use Rattle.context_tree.proofs.Paths.SamePaths.{same_path-sym, same_path-push, parent_path-push, is_outside-push}
use Rattle.context_tree.proofs.Nodes.NodePaths.{GoesOn, ArePaths, LeavesPlace, same_path-path_at}

-- one node more
pub entries_below-push : (from : Option ℕ) (at : ℕ) (nodes : List Node) (n : Node)
    → entries_below from at (nodes ++ n ∷ []) ≡ entries_below from at nodes ++ (if same_node from n.parent then (n.method, at + length nodes) ∷ [] else [])
entries_below-push from at [] n = ap (λ k. if same_node from n.parent then (n.method, k) ∷ [] else []) (omega arith)
entries_below-push from at (m ∷ nodes) n =
    let rest : List (ℕ × ℕ) = entries_below from (at + 1) nodes in
    let last : ℕ → List (ℕ × ℕ) = λ k. if same_node from n.parent then (n.method, k) ∷ [] else [] in
    let k : at + 1 + length nodes ≡ at + length (m ∷ nodes) = omega arith in
    by (same_node from m.parent) (entries_below-push from (at + 1) nodes n ∙ ap (λ j. rest ++ last j) k)
  where
    by : (b : Bool) → entries_below from (at + 1) (nodes ++ n ∷ []) ≡ entries_below from (at + 1) nodes ++ (if same_node from n.parent then (n.method, at + length (m ∷ nodes)) ∷ [] else [])
        → (if b then (m.method, at) ∷ entries_below from (at + 1) (nodes ++ n ∷ []) else entries_below from (at + 1) (nodes ++ n ∷ []))
        ≡ (if b then (m.method, at) ∷ entries_below from (at + 1) nodes else entries_below from (at + 1) nodes) ++ (if same_node from n.parent then (n.method, at + length (m ∷ nodes)) ∷ [] else [])
    by true rest = ap (λ l. (m.method, at) ∷ l) rest
    by false rest = rest

pub entries_below-changed : (f : Node → Node) → LeavesPlace f → (from : Option ℕ) (at i : ℕ) (nodes : List Node) → entries_below from at (changed_at f i nodes) ≡ entries_below from at nodes
entries_below-changed f leaves from at i [] = refl
entries_below-changed f leaves from at zero (n ∷ nodes) =
    let rest : List (ℕ × ℕ) = entries_below from (at + 1) nodes in
    ap (λ q. if same_node from q then ((f n).method, at) ∷ rest else rest) (leaves.parent n) ∙ ap (λ m. if same_node from n.parent then (m, at) ∷ rest else rest) (leaves.method n)
entries_below-changed f leaves from at (suc i) (n ∷ nodes) =
    ap (λ l. if same_node from n.parent then (n.method, at) ∷ l else l) (entries_below-changed f leaves from (at + 1) i nodes)

module _ (all : List (List ℕ)) (are : ArePaths all) (from : Option ℕ) (valid : IfSome from (λ i. i < length all)) where
  same_parent : (p : List ℕ) (n : Node) → GoesOn all p n → same_path (parent_path p) (path_at from all) ≡ same_node from n.parent
  same_parent p n goes =
      ap (λ q. same_path q (path_at from all)) (ap parent_path goes.0 ∙ parent_path-push (path_at n.parent all) n.method)
      ∙ same_path-sym (path_at n.parent all) (path_at from all) ∙ same_path-path_at all are from n.parent valid goes.1

  is_child-with_counts : (p : List ℕ) (n : Node) → GoesOn all p n → is_child (path_at from all) (with_counts p n) ≡ same_node from n.parent
  is_child-with_counts p n goes =
      ap (λ b. if b then false else same_path (parent_path p) (path_at from all)) (ap is_outside goes.0 ∙ is_outside-push (path_at n.parent all) n.method)
      ∙ same_parent p n goes

  -- the contexts one method below a path are those of the nodes that go on from its node
  pub children_of-entries : (at : ℕ) (paths : List (List ℕ)) (nodes : List Node) → AllZip (GoesOn all) paths nodes
      → filter_map (numbered_child (path_at from all)) (enumerate_from at (contexts_with paths nodes)) ≡ map (λ e. e.1) (entries_below from at nodes)
  children_of-entries at [] [] h = refl
  children_of-entries at [] (n ∷ nodes) h = elim h [ ]
  children_of-entries at (p ∷ paths) [] h = elim h [ ]
  children_of-entries at (p ∷ paths) (n ∷ nodes) h =
      let rest : List ℕ = filter_map (numbered_child (path_at from all)) (enumerate_from (at + 1) (contexts_with paths nodes)) in
      ap (λ b. cons_option (if b then Some at else None) rest) (is_child-with_counts p n h.0) ∙ by (same_node from n.parent) (children_of-entries (at + 1) paths nodes h.1)
    where
      by : (b : Bool) → filter_map (numbered_child (path_at from all)) (enumerate_from (at + 1) (contexts_with paths nodes)) ≡ map (λ e. e.1) (entries_below from (at + 1) nodes)
          → cons_option (if b then Some at else None) (filter_map (numbered_child (path_at from all)) (enumerate_from (at + 1) (contexts_with paths nodes)))
          ≡ map (λ e. e.1) (if b then (n.method, at) ∷ entries_below from (at + 1) nodes else entries_below from (at + 1) nodes)
      by true rest = ap (λ l. at ∷ l) rest
      by false rest = rest

  goes_on_by : (m : ℕ) (p : List ℕ) (n : Node) → GoesOn all p n → same_path (path_at from all ++ m ∷ []) p ≡ (same_node from n.parent && nat_eq m n.method)
  goes_on_by m p n goes =
      ap (same_path (path_at from all ++ m ∷ [])) goes.0 ∙ same_path-push (path_at from all) (path_at n.parent all) m n.method
      ∙ ap (λ b. b && nat_eq m n.method) (same_path-path_at all are from n.parent valid goes.1)

  -- the path that goes on by a method stands where the child of this method stands
  pub number_under-entries : (m at : ℕ) (paths : List (List ℕ)) (nodes : List Node) → AllZip (GoesOn all) paths nodes
      → number_under m (entries_below from at nodes) ≡ position_from (same_path (path_at from all ++ m ∷ [])) at paths
  number_under-entries m at [] [] h = refl
  number_under-entries m at [] (n ∷ nodes) h = elim h [ ]
  number_under-entries m at (p ∷ paths) [] h = elim h [ ]
  number_under-entries m at (p ∷ paths) (n ∷ nodes) h =
      by (same_node from n.parent) (number_under-entries m (at + 1) paths nodes h.1)
      ∙ sym (ap (λ b. cond b (Some at) (position_from (same_path (path_at from all ++ m ∷ [])) (at + 1) paths)) (goes_on_by m p n h.0))
    where
      by : (b : Bool) → number_under m (entries_below from (at + 1) nodes) ≡ position_from (same_path (path_at from all ++ m ∷ [])) (at + 1) paths
          → number_under m (if b then (n.method, at) ∷ entries_below from (at + 1) nodes else entries_below from (at + 1) nodes)
          ≡ cond (b && nat_eq m n.method) (Some at) (position_from (same_path (path_at from all ++ m ∷ [])) (at + 1) paths)
      by true rest = ap (cond (nat_eq m n.method) (Some at)) rest
      by false rest = rest
