-- The pass over all nodes, from the last to the first, that adds each one's total to its parent's.
use Rattle.std.proofs.Common.{◌≡◌, ℕ, zero, suc, ◌+◌, ◌<◌, ◌≤◌, Bool, true, false, List, [], ◌∷◌, refl, ap, sym, ◌∙◌, subst, map, length, get_or, drop, sum_by, Option, Some, None, IfSome, nat_eq, slice_get, if◌then◌else◌, arith}
use Rattle.std.proofs.lemmas.Bool.{eqb-true, eqb-false, eq-eqb, ne_eqb}
use Rattle.std.proofs.lemmas.List.{drop_more, drop_all, length-map, length-set, get_or-map, get_or-set_same, get_or-set_other, ext_get_or}
use Rattle.std.proofs.lemmas.List.Sums.{sum_by-cons}
use Rattle.std.proofs.lemmas.Option.{slice_get-get_or}
use Rattle.std.specs.Option.{option_and_then, option_map_or}
use Rattle.jvm_model.specs.Profiling.Paths.{Context}
use Rattle.context_tree.specs.declared.node.Node.{Node}
use Rattle.context_tree.specs.declared.table.NodeTable.{NodeTable}
use Rattle.context_tree.specs.Profiles.{total_of, totals_of}
use Rattle.context_tree.specs.NodeTables.{entries_of, numbers_in, own_at, fresh, numbers_gathered}
use Rattle.context_tree.specs.TreeViews.{paths_in, contexts_in, profile_in, AreBehind, same_node, entries_below, total_at, IsTree}
use Rattle.context_tree.proofs.Sums.Totals.{total_at-le, behind-at}
use Rattle.context_tree.proofs.Sums.TotalLoop.{own_at-get_or, total_at-own}
use Rattle.context_tree.proofs.Nodes.TreeCalls.{length-contexts, path_of_node-contexts}

-- what a node has once its children from k on have been added
abbrev pub passed_total : ℕ → ℕ → List Node → ℕ
passed_total j k nodes = own_at j nodes + sum_by (λ c. total_at c nodes) (numbers_in (entries_below (Some j) k (drop k nodes)))

pub record ArePassed (nodes : List Node) (k : ℕ) (totals : List ℕ) : Type 0 where
  pub within : k ≤ length nodes
  pub many : length totals ≡ length nodes
  pub each : (j : ℕ) → j < length nodes → get_or totals j 0 ≡ passed_total j k nodes

-- at the start
pub passed_none : (nodes : List Node) → ArePassed nodes (length nodes) (map (λ (n : Node). n.own) nodes)
passed_none nodes = record {
  within = omega arith;
  many = length-map nodes (λ (n : Node). n.own);
  each = λ j lt.
      get_or-map (λ (n : Node). n.own) nodes j (fresh None 0) 0 lt ∙ sym (own_at-get_or j nodes (fresh None 0) lt)
      ∙ omega (arith, ap (λ l. sum_by (λ c. total_at c nodes) (numbers_in (entries_below (Some j) (length nodes) l))) (drop_all (length nodes) nodes (omega arith)));
}

-- ---- one node more

-- the children that stand from k on
passed-step : (j k : ℕ) (nodes : List Node) → k < length nodes
    → passed_total j k nodes ≡ passed_total j (k + 1) nodes + (if same_node (Some j) (get_or nodes k (fresh None 0)).parent then total_at k nodes else 0)
passed-step j k nodes lt =
    let n : Node = get_or nodes k (fresh None 0) in
    let f : ℕ → ℕ = λ c. total_at c nodes in
    let rest : List (ℕ × ℕ) = entries_below (Some j) (k + 1) (drop (k + 1) nodes) in
    ap (λ l. own_at j nodes + sum_by f (numbers_in (entries_below (Some j) k l))) (drop_more nodes k (fresh None 0) lt)
    ∙ by (same_node (Some j) n.parent)
  where
    by : (b : Bool) → own_at j nodes + sum_by (λ c. total_at c nodes) (numbers_in (if b then ((get_or nodes k (fresh None 0)).method, k) ∷ entries_below (Some j) (k + 1) (drop (k + 1) nodes) else entries_below (Some j) (k + 1) (drop (k + 1) nodes)))
        ≡ passed_total j (k + 1) nodes + (if b then total_at k nodes else 0)
    by true = omega (arith, sum_by-cons (λ c. total_at c nodes) k (numbers_in (entries_below (Some j) (k + 1) (drop (k + 1) nodes))))
    by false = omega arith

-- no child stands before its parent
none_before : (k at d : ℕ) (nodes : List Node) → AreBehind at nodes → at + d ≤ k + 1 → entries_below (Some k) at nodes ≡ entries_below (Some k) (at + d) (drop d nodes)
none_before k at zero nodes behind le = ap (λ a. entries_below (Some k) a nodes) (omega arith)
none_before k at (suc d) [] behind le = refl
none_before k at (suc d) (n ∷ nodes) behind le =
    let rest : List (ℕ × ℕ) = entries_below (Some k) (at + 1) nodes in
    ap (λ b. if b then (n.method, at) ∷ rest else rest) (apart n.parent behind.0)
    ∙ none_before k (at + 1) d nodes behind.1 (omega (arith, le)) ∙ ap (λ a. entries_below (Some k) a (drop d nodes)) (omega arith)
  where
    apart : (q : Option ℕ) → IfSome q (λ i. i < at) → same_node (Some k) q ≡ false
    apart None h = refl
    apart (Some i) h = ne_eqb k i (λ e. absurd (omega (arith, e, h, le)))

-- a node is whole once all behind it have been added
passed_whole : (t : NodeTable) → IsTree t → (j k : ℕ) → j < length t.nodes → k ≤ j + 1 → passed_total j k t.nodes ≡ total_at j t.nodes
passed_whole t tree j k lt le =
    ap (λ l. own_at j t.nodes + sum_by (λ c. total_at c t.nodes) (numbers_in l)) whole ∙ sym (total_at-own t tree j lt)
  where
    whole : entries_below (Some j) k (drop k t.nodes) ≡ entries_of (Some j) t
    whole = sym (tree.entries (Some j) ∙ none_before j 0 k t.nodes tree.behind (omega (arith, le)) ∙ ap (λ a. entries_below (Some j) a (drop k t.nodes)) (omega arith))

pub passed-le : (j k : ℕ) (nodes : List Node) → k ≤ length nodes → passed_total j k nodes ≤ passed_total j 0 nodes
passed-le j zero nodes le = omega arith
passed-le j (suc k) nodes le =
    let one : k + 1 ≡ suc k = omega arith in
    let step : passed_total j k nodes ≡ passed_total j (suc k) nodes + (if same_node (Some j) (get_or nodes k (fresh None 0)).parent then total_at k nodes else 0) =
    subst (λ i. passed_total j k nodes ≡ passed_total j i nodes + (if same_node (Some j) (get_or nodes k (fresh None 0)).parent then total_at k nodes else 0)) one (passed-step j k nodes (omega (arith, le))) in
    omega (arith, step, passed-le j k nodes (omega (arith, le)))

module _ (t : NodeTable) (tree : IsTree t) (k : ℕ) (totals : List ℕ) (lt : k < length t.nodes) (h : ArePassed t.nodes (k + 1) totals) where
  last_whole : get_or totals k 0 ≡ total_at k t.nodes
  last_whole = h.each k lt ∙ passed_whole t tree k (k + 1) lt (omega arith)

  gathered_each : (q : Option ℕ) → q ≡ (get_or t.nodes k (fresh None 0)).parent → (j : ℕ) → j < length t.nodes → get_or (numbers_gathered q k totals) j 0 ≡ passed_total j k t.nodes
  gathered_each None e j below =
      let step : passed_total j k t.nodes ≡ passed_total j (k + 1) t.nodes + 0 =
      passed-step j k t.nodes lt ∙ ap (λ p. passed_total j (k + 1) t.nodes + (if same_node (Some j) p then total_at k t.nodes else 0)) (sym e) in
      h.each j below ∙ omega (arith, step)
  gathered_each (Some p) e j below =
      let step : passed_total j k t.nodes ≡ passed_total j (k + 1) t.nodes + (if nat_eq j p then total_at k t.nodes else 0) =
      passed-step j k t.nodes lt ∙ ap (λ q. passed_total j (k + 1) t.nodes + (if same_node (Some j) q then total_at k t.nodes else 0)) (sym e) in
      by (nat_eq j p) refl step
    where
      by : (b : Bool) → nat_eq j p ≡ b → passed_total j k t.nodes ≡ passed_total j (k + 1) t.nodes + (if nat_eq j p then total_at k t.nodes else 0)
          → get_or (numbers_gathered (Some p) k totals) j 0 ≡ passed_total j k t.nodes
      by true here step =
          let same : j ≡ p = eqb-true j p here in
          let within : p < length totals = omega (arith, same, below, h.many) in
          ap (λ i. get_or (numbers_gathered (Some p) k totals) i 0) same ∙ get_or-set_same totals p (get_or totals p 0 + get_or totals k 0) 0 within
          ∙ omega (arith, last_whole, h.each j below, ap (λ i. get_or totals i 0) same, step ∙ ap (λ b. passed_total j (k + 1) t.nodes + (if b then total_at k t.nodes else 0)) here)
      by false here step =
          get_or-set_other totals p j (get_or totals p 0 + get_or totals k 0) 0 (eqb-false j p here) ∙ h.each j below
          ∙ omega (arith, step ∙ ap (λ b. passed_total j (k + 1) t.nodes + (if b then total_at k t.nodes else 0)) here)

  length-gathered : (q : Option ℕ) → length (numbers_gathered q k totals) ≡ length totals
  length-gathered None = refl
  length-gathered (Some p) = length-set totals p (get_or totals p 0 + get_or totals k 0)

  pub passed_gathered : (q : Option ℕ) → q ≡ (get_or t.nodes k (fresh None 0)).parent → ArePassed t.nodes k (numbers_gathered q k totals)
  passed_gathered q e = record { within = omega (arith, lt); many = length-gathered q ∙ h.many; each = gathered_each q e }

  -- what the sum at a parent asks
  pub gathers_within : (q : Option ℕ) → q ≡ (get_or t.nodes k (fresh None 0)).parent → IfSome q (λ p. p < length totals)
  gathers_within None e = tt
  gathers_within (Some p) e =
      omega (arith, subst (λ q. IfSome q (λ r. r < 0 + k)) (sym e) (behind-at 0 t.nodes k (fresh None 0) tree.behind lt), lt, h.many)

  pub gathers_fit : (q : Option ℕ) → q ≡ (get_or t.nodes k (fresh None 0)).parent → IfSome q (λ p. get_or totals p 0 + get_or totals k 0 ≤ t.clock)
  gathers_fit None e = tt
  gathers_fit (Some p) e =
      let below : p < length t.nodes = omega (arith, gathers_within (Some p) e, h.many) in
      let step : passed_total p k t.nodes ≡ passed_total p (k + 1) t.nodes + total_at k t.nodes =
      passed-step p k t.nodes lt ∙ ap (λ q. passed_total p (k + 1) t.nodes + (if same_node (Some p) q then total_at k t.nodes else 0)) (sym e)
      ∙ ap (λ b. passed_total p (k + 1) t.nodes + (if b then total_at k t.nodes else 0)) (eq-eqb p p refl) in
      omega (arith, last_whole, h.each p below, step, passed-le p k t.nodes (omega (arith, lt)), passed_whole t tree p 0 below (omega arith), total_at-le p t.nodes, tree.counted)

-- the parent that the code reads
pub parent-read : (nodes : List Node) (k : ℕ) → k < length nodes → option_and_then (λ (n : Node). n.parent) (slice_get nodes k) ≡ (get_or nodes k (fresh None 0)).parent
parent-read nodes k lt = ap (option_and_then (λ (n : Node). n.parent)) (slice_get-get_or nodes k (fresh None 0) lt)

-- at the end
total_of-context : (nodes : List Node) (j : ℕ) (d : Context) → j < length nodes → total_of (get_or (contexts_in nodes) j d).path (contexts_in nodes) ≡ total_at j nodes
total_of-context nodes j d lt =
    let within : j < length (contexts_in nodes) = omega (arith, lt, length-contexts nodes) in
    let read : (get_or (contexts_in nodes) j d).path ≡ get_or (paths_in nodes) j [] =
    sym (ap (λ o. option_map_or (λ (c : Context). c.path) o []) (slice_get-get_or (contexts_in nodes) j d within)) ∙ path_of_node-contexts (Some j) nodes in
    ap (λ P. total_of P (contexts_in nodes)) read

pub passed_all : (t : NodeTable) → IsTree t → (totals : List ℕ) → ArePassed t.nodes 0 totals → totals ≡ totals_of (profile_in t)
passed_all t tree totals h =
    let cs : List Context = contexts_in t.nodes in
    let many : length (map (λ (c : Context). total_of c.path cs) cs) ≡ length t.nodes = length-map cs (λ (c : Context). total_of c.path cs) ∙ length-contexts t.nodes in
    let d : Context = record { path = []; calls = 0; own = 0 } in
    ext_get_or 0 totals (map (λ (c : Context). total_of c.path cs) cs) (h.many ∙ sym many)
    (λ j below.
    let lt : j < length t.nodes = omega (arith, below, h.many) in
    let within : j < length cs = omega (arith, lt, length-contexts t.nodes) in
    h.each j lt ∙ passed_whole t tree j 0 lt (omega arith) ∙ sym (get_or-map (λ (c : Context). total_of c.path cs) cs j d 0 within ∙ total_of-context t.nodes j d lt))
