-- The total of a node is its own steps and the totals of its children.
use Rattle.std.proofs.Common.{◌≡◌, ℕ, zero, suc, ◌+◌, ◌<◌, ◌≤◌, Bool, true, false, List, [], ◌∷◌, ◌++◌, refl, ap, sym, ◌∙◌, subst, filter, length, get_or, sum_by, Option, Some, None, IfSome, cond, slice_get, if◌then◌else◌, arith}
use Rattle.std.specs.List.{All, list_any}
use Rattle.std.proofs.lemmas.Bool.{or_parts}
use Rattle.std.proofs.lemmas.List.{append_assoc, length_push, get_or_at, get_or_default}
use Rattle.std.proofs.lemmas.List.Elements.{All-head, All-tail}
use Rattle.std.proofs.lemmas.List.Sums.{sum_by-cons}
use Rattle.std.proofs.lemmas.Option.{same_Some}
use Rattle.jvm_model.specs.Profiling.Paths.{Context, same_path, is_within}
use Rattle.context_tree.specs.declared.node.Node.{Node}
use Rattle.context_tree.specs.declared.table.NodeTable.{NodeTable}
use Rattle.context_tree.specs.Profiles.{total_of}
use Rattle.context_tree.specs.NodeTables.{entries_of, numbers_in, own_in, fresh}
use Rattle.context_tree.specs.TreeViews.{path_at, paths_in, with_counts, contexts_with, contexts_in, AreBehind, AreApart, same_node, entries_below, total_at, IsTree}
use Rattle.context_tree.proofs.Paths.SamePaths.{same_path-refl, same_path-sym}
use Rattle.context_tree.proofs.Nodes.NodePaths.{GoesOn, apart-at, same_path-path_at, length-paths_after, Decides-same_node}
use Rattle.context_tree.proofs.Nodes.NodeContexts.{sum_by-contexts_with}
use Rattle.context_tree.proofs.Nodes.TreeParts.{length-paths, are_paths, valid_path, goes_on-at}
use Rattle.context_tree.proofs.Paths.Within.{goes_from, if_so, goes_from-nil, goes_from-push, sum_by-agree, sum_by-plus, sum_by-filter, paths_below, none_below, one_below}

-- a path that goes on from P is P or goes on from one of these
abbrev pub Splits : List ℕ → List (List ℕ) → List ℕ → Type 0
Splits P below Q = (w : ℕ) → if_so (goes_from P Q) w ≡ if_so (same_path P Q) w + sum_by (λ X. if_so (goes_from X Q) w) below

-- the parent of a node stands before it
pub behind-at : (at : ℕ) (nodes : List Node) (k : ℕ) (d : Node) → AreBehind at nodes → k < length nodes → IfSome (get_or nodes k d).parent (λ r. r < at + k)
behind-at at [] k d h lt = absurd (omega (arith, lt))
behind-at at (n ∷ nodes) zero d h lt = subst (λ j. IfSome n.parent (λ r. r < j)) (omega arith) h.0
behind-at at (n ∷ nodes) (suc k) d h lt = subst (λ j. IfSome (get_or nodes k d).parent (λ r. r < j)) (omega arith) (behind-at (at + 1) nodes k d h.1 (omega (arith, lt)))

module _ (t : NodeTable) (tree : IsTree t) (i : ℕ) (lt : i < length t.nodes) where
  abbrev all : List (List ℕ)
  all = paths_in t.nodes

  abbrev P : List ℕ
  P = get_or all i []

  abbrev below : List (List ℕ)
  below = paths_below (Some i) all t.nodes

  splits_nil : Splits P below []
  splits_nil w =
      ap (λ b. if_so b w) (goes_from-nil P)
      ∙ omega (
        arith,
        sum_by-agree (λ X. if_so (goes_from X []) w) (λ X. if_so (same_path X []) w) (λ X. ap (λ b. if_so b w) (goes_from-nil X)) below,
        none_below [] w (Some i) all t.nodes (are_paths t tree).inside,
      )

  -- a node's path splits where its parent's does
  splits_on : (k : ℕ) → k < length t.nodes → Splits P below (path_at (get_or t.nodes k (fresh None 0)).parent all) → Splits P below (get_or all k [])
  splits_on k less above w =
      let n : Node = get_or t.nodes k (fresh None 0) in
      let R : List ℕ = path_at n.parent all in
      let Q : List ℕ = R ++ n.method ∷ [] in
      let goes : GoesOn all (get_or all k []) n = goes_on-at t tree k (fresh None 0) less in
      let same : same_path P R ≡ same_node (Some i) n.parent = same_path-path_at all (are_paths t tree) (Some i) n.parent (valid_path t tree (Some i) lt) goes.1 in
      let whole : if_so (goes_from P Q) w ≡ if_so (goes_from P R) w + if_so (same_path P Q) w = goes_from-push P R n.method w in
      let parts : sum_by (λ X. if_so (goes_from X Q) w) below ≡ sum_by (λ X. if_so (goes_from X R) w) below + sum_by (λ X. if_so (same_path X Q) w) below =
      sum_by-agree (λ X. if_so (goes_from X Q) w) (λ X. if_so (goes_from X R) w + if_so (same_path X Q) w) (λ X. goes_from-push X R n.method w) below
      ∙ sum_by-plus (λ X. if_so (goes_from X R) w) (λ X. if_so (same_path X Q) w) below in
      let here : sum_by (λ X. if_so (same_path X Q) w) below ≡ if_so (same_path P R) w =
      ap (λ q. sum_by (λ X. if_so (same_path X q) w) below) (sym goes.0)
      ∙ one_below w (Some i) all t.nodes k (fresh None 0) tree.apart (subst (λ m. k < m) (sym (length-paths t tree)) less) (length-paths t tree)
      ∙ ap (λ b. if_so b w) (sym same) in
      let done : if_so (goes_from P Q) w ≡ if_so (same_path P Q) w + sum_by (λ X. if_so (goes_from X Q) w) below = omega (arith, whole, parts, here, above w) in
      subst (λ q. if_so (goes_from P q) w ≡ if_so (same_path P q) w + sum_by (λ X. if_so (goes_from X q) w) below) (sym goes.0) done

  splits_parent : (q : Option ℕ) (k : ℕ) → IfSome q (λ r. r < 0 + k) → ((r : ℕ) → r < k → Splits P below (get_or all r [])) → Splits P below (path_at q all)
  splits_parent None k h each = splits_nil
  splits_parent (Some r) k h each = each r (omega (arith, h))

  splits_below : (b k : ℕ) → k < b → k < length t.nodes → Splits P below (get_or all k [])
  splits_below zero k kb less = absurd (omega (arith, kb))
  splits_below (suc b) k kb less =
      splits_on k less
      (splits_parent (get_or t.nodes k (fresh None 0)).parent k (behind-at 0 t.nodes k (fresh None 0) tree.behind less)
      (λ r below_k. splits_below b r (omega (arith, below_k, kb)) (omega (arith, below_k, less))))

  splits_all : All (Splits P below) all
  splits_all k d h =
      let less : k < length t.nodes = subst (λ m. k < m) (length-paths t tree) h in
      subst (Splits P below) (get_or_default all k [] d h) (splits_below (suc k) k (omega arith) less)

-- ---- sums over all contexts

-- the steps of a context where its path goes on from this one
abbrev pub own_from : List ℕ → Context → ℕ
own_from X c = if_so (is_within X c) c.own

abbrev pub own_of : List ℕ → Context → ℕ
own_of X c = if_so (same_path X c.path) c.own

sum_by-none : (l : List (List ℕ)) → sum_by (λ X. 0) l ≡ 0
sum_by-none [] = refl
sum_by-none (X ∷ l) = omega (arith, sum_by-cons (λ (Y : List ℕ). 0) X l, sum_by-none l)

sum_splits : (P : List ℕ) (below paths : List (List ℕ)) (nodes : List Node) → All (Splits P below) paths
    → sum_by (own_from P) (contexts_with paths nodes) ≡ sum_by (own_of P) (contexts_with paths nodes) + sum_by (λ X. sum_by (own_from X) (contexts_with paths nodes)) below
sum_splits P below [] nodes h = omega (arith, sum_by-none below)
sum_splits P below (p ∷ paths) [] h = omega (arith, sum_by-none below)
sum_splits P below (p ∷ paths) (n ∷ nodes) h =
    let c : Context = with_counts p n in
    let cs : List Context = contexts_with paths nodes in
    let swap : sum_by (λ X. sum_by (own_from X) (c ∷ cs)) below ≡ sum_by (λ X. own_from X c) below + sum_by (λ X. sum_by (own_from X) cs) below =
    sum_by-agree (λ X. sum_by (own_from X) (c ∷ cs)) (λ X. own_from X c + sum_by (own_from X) cs) (λ X. sum_by-cons (own_from X) c cs) below
    ∙ sum_by-plus (λ X. own_from X c) (λ X. sum_by (own_from X) cs) below in
    let head : own_from P c ≡ own_of P c + sum_by (λ X. own_from X c) below = All-head (Splits P below) p paths h n.own in
    omega (arith, sum_by-cons (own_from P) c cs, sum_by-cons (own_of P) c cs, swap, head, sum_splits P below paths nodes (All-tail (Splits P below) p paths h))

own_nowhere : (P : List ℕ) (paths : List (List ℕ)) (nodes : List Node) → list_any (same_path P) paths ≡ false → sum_by (own_of P) (contexts_with paths nodes) ≡ 0
own_nowhere P [] nodes h = refl
own_nowhere P (p ∷ paths) [] h = refl
own_nowhere P (p ∷ paths) (n ∷ nodes) h =
    let parts = or_parts (same_path P p) (list_any (same_path P) paths) h in
    sum_by-cons (own_of P) (with_counts p n) (contexts_with paths nodes) ∙ ap (λ b. if_so b n.own + sum_by (own_of P) (contexts_with paths nodes)) parts.0
    ∙ omega (arith, own_nowhere P paths nodes parts.1)

-- the steps of the one context with a path
own_with : (paths : List (List ℕ)) (nodes : List Node) (i : ℕ) (d : Node) → AreApart paths → i < length nodes → length paths ≡ length nodes
    → sum_by (own_of (get_or paths i [])) (contexts_with paths nodes) ≡ (get_or nodes i d).own
own_with [] [] i d apart lt e = absurd (omega (arith, lt))
own_with [] (n ∷ nodes) i d apart lt e = absurd (omega (arith, e))
own_with (p ∷ paths) [] i d apart lt e = absurd (omega (arith, e))
own_with (p ∷ paths) (n ∷ nodes) zero d apart lt e =
    sum_by-cons (own_of p) (with_counts p n) (contexts_with paths nodes) ∙ ap (λ b. if_so b n.own + sum_by (own_of p) (contexts_with paths nodes)) (same_path-refl p)
    ∙ omega (arith, own_nowhere p paths nodes apart.0)
own_with (p ∷ paths) (n ∷ nodes) (suc i) d apart lt e =
    let less : i < length paths = omega (arith, lt, e) in
    let P : List ℕ = get_or paths i [] in
    let other : same_path P p ≡ false = same_path-sym P p ∙ apart-at p paths i apart.0 less in
    sum_by-cons (own_of P) (with_counts p n) (contexts_with paths nodes) ∙ ap (λ b. if_so b n.own + sum_by (own_of P) (contexts_with paths nodes)) other
    ∙ omega (arith, own_with paths nodes i d apart.1 (omega (arith, lt)) (omega (arith, e)))

-- ---- from paths to numbers

sum_by-numbers : (f : List ℕ → ℕ) (from : Option ℕ) (all before paths : List (List ℕ)) (at : ℕ) (nodes : List Node) → all ≡ before ++ paths → length before ≡ at → length paths ≡ length nodes
    → sum_by f (paths_below from paths nodes) ≡ sum_by (λ k. f (get_or all k [])) (numbers_in (entries_below from at nodes))
sum_by-numbers f from all before [] at [] h len e = refl
sum_by-numbers f from all before [] at (n ∷ nodes) h len e = absurd (omega (arith, e))
sum_by-numbers f from all before (p ∷ paths) at [] h len e = absurd (omega (arith, e))
sum_by-numbers f from all before (p ∷ paths) at (n ∷ nodes) h len e =
    by (same_node from n.parent)
    (ap (λ l. get_or l at []) h ∙ get_or_at before p paths [] at len)
    (sum_by-numbers f from all (before ++ p ∷ []) paths (at + 1) nodes (h ∙ sym (append_assoc before (p ∷ []) paths)) (length_push before p ∙ ap (λ k. k + 1) len) (omega (arith, e)))
  where
    g : ℕ → ℕ
    g k = f (get_or all k [])

    by : (b : Bool) → get_or all at [] ≡ p → sum_by f (paths_below from paths nodes) ≡ sum_by (λ k. f (get_or all k [])) (numbers_in (entries_below from (at + 1) nodes))
        → sum_by f (if b then p ∷ paths_below from paths nodes else paths_below from paths nodes)
        ≡ sum_by (λ k. f (get_or all k [])) (numbers_in (if b then (n.method, at) ∷ entries_below from (at + 1) nodes else entries_below from (at + 1) nodes))
    by true here rest =
        sum_by-cons f p (paths_below from paths nodes) ∙ ap (λ q. f q + sum_by f (paths_below from paths nodes)) (sym here)
        ∙ ap (λ k. f (get_or all at []) + k) rest
        ∙ sym (sum_by-cons (λ k. f (get_or all k [])) at (numbers_in (entries_below from (at + 1) nodes)))
    by false here rest = rest

-- ---- totals

total_of-own_from : (X : List ℕ) (cs : List Context) → total_of X cs ≡ sum_by (own_from X) cs
total_of-own_from X cs = sum_by-filter (λ (c : Context). c.own) (is_within X) cs

pub total_at-splits : (t : NodeTable) → IsTree t → (i : ℕ) (d : Node) → i < length t.nodes
    → total_at i t.nodes ≡ (get_or t.nodes i d).own + sum_by (λ k. total_at k t.nodes) (numbers_in (entries_of (Some i) t))
total_at-splits t tree i d lt =
    let all : List (List ℕ) = paths_in t.nodes in
    let cs : List Context = contexts_in t.nodes in
    let whole : sum_by (own_from (get_or all i [])) cs ≡ sum_by (own_of (get_or all i [])) cs + sum_by (λ X. sum_by (own_from X) cs) (paths_below (Some i) all t.nodes) =
    sum_splits (get_or all i []) (paths_below (Some i) all t.nodes) all t.nodes (splits_all t tree i lt) in
    let own : sum_by (own_of (get_or all i [])) cs ≡ (get_or t.nodes i d).own = own_with all t.nodes i d tree.apart lt (length-paths t tree) in
    let rest : sum_by (λ X. sum_by (own_from X) cs) (paths_below (Some i) all t.nodes) ≡ sum_by (λ k. total_at k t.nodes) (numbers_in (entries_of (Some i) t)) =
    sum_by-agree (λ X. sum_by (own_from X) cs) (λ X. total_of X cs) (λ X. sym (total_of-own_from X cs)) (paths_below (Some i) all t.nodes)
    ∙ sum_by-numbers (λ X. total_of X cs) (Some i) all [] all 0 t.nodes refl refl (length-paths t tree)
    ∙ ap (λ l. sum_by (λ k. total_at k t.nodes) (numbers_in l)) (sym (tree.entries (Some i))) in
    total_of-own_from (get_or all i []) cs ∙ whole ∙ ap (λ k. k + sum_by (λ X. sum_by (own_from X) cs) (paths_below (Some i) all t.nodes)) own ∙ ap (λ k. (get_or t.nodes i d).own + k) rest

-- a total is within the steps of all nodes
total_of-le : (X : List ℕ) (cs : List Context) → total_of X cs ≤ sum_by (λ (c : Context). c.own) cs
total_of-le X [] = omega arith
total_of-le X (c ∷ cs) = by (is_within X c) (total_of-le X cs)
  where
    by : (b : Bool) → total_of X cs ≤ sum_by (λ (e : Context). e.own) cs → sum_by (λ (e : Context). e.own) (cond b (c ∷ filter (is_within X) cs) (filter (is_within X) cs)) ≤ sum_by (λ (e : Context). e.own) (c ∷ cs)
    by true rest = omega (arith, rest, sum_by-cons (λ (e : Context). e.own) c (filter (is_within X) cs), sum_by-cons (λ (e : Context). e.own) c cs)
    by false rest = omega (arith, rest, sum_by-cons (λ (e : Context). e.own) c cs)

pub total_at-le : (i : ℕ) (nodes : List Node) → total_at i nodes ≤ own_in nodes
total_at-le i nodes =
    omega (
      arith,
      total_of-le (get_or (paths_in nodes) i []) (contexts_in nodes),
      sum_by-contexts_with (λ (n : Node). n.own) (λ (c : Context). c.own) (λ p n. refl) (paths_in nodes) nodes (length-paths_after [] nodes),
    )

-- a child has a greater number, and there are no more children than nodes
pub length-entries_below : (from : Option ℕ) (at : ℕ) (nodes : List Node) → length (entries_below from at nodes) ≤ length nodes
length-entries_below from at [] = omega arith
length-entries_below from at (n ∷ nodes) = by (same_node from n.parent) (length-entries_below from (at + 1) nodes)
  where
    by : (b : Bool) → length (entries_below from (at + 1) nodes) ≤ length nodes → length (if b then (n.method, at) ∷ entries_below from (at + 1) nodes else entries_below from (at + 1) nodes) ≤ length (n ∷ nodes)
    by true rest = omega (arith, rest)
    by false rest = omega (arith, rest)

-- a child stands behind its parent
pub record IsChildNumber (from : Option ℕ) (child bound : ℕ) : Type 0 where
  pub behind : IfSome from (λ i. i < child)
  pub within : child < bound

child-number-first : (from : Option ℕ) (child method at bound : ℕ) (parent : Option ℕ) (later : List (ℕ × ℕ)) (b : Bool) (place : ℕ) → same_node from parent ≡ b → IfSome parent (λ r. r < at)
    → at < bound → ((p : ℕ) → slice_get (numbers_in later) p ≡ Some child → IsChildNumber from child bound)
    → slice_get (numbers_in (if b then (method, at) ∷ later else later)) place ≡ Some child → IsChildNumber from child bound
child-number-first from child method at bound parent later true zero e above lt rest h =
    let here : at ≡ child = same_Some at child h in
    let less : IfSome from (λ i. i < at) = subst (λ q. IfSome q (λ r. r < at)) (sym ((Decides-same_node from parent).0 e)) above in
    record { behind = subst (λ k. IfSome from (λ i. i < k)) here less; within = omega (arith, lt, here) }
child-number-first from child method at bound parent later true (suc place) e above lt rest h = rest place h
child-number-first from child method at bound parent later false place e above lt rest h = rest place h

pub child-number : (from : Option ℕ) (at place child : ℕ) (nodes : List Node) → AreBehind at nodes → slice_get (numbers_in (entries_below from at nodes)) place ≡ Some child → IsChildNumber from child (at + length nodes)
child-number from at place child [] behind h = cc
child-number from at place child (n ∷ nodes) behind h =
    let bound : at + 1 + length nodes ≡ at + length (n ∷ nodes) = omega arith in
    child-number-first from child n.method at (at + length (n ∷ nodes)) n.parent (entries_below from (at + 1) nodes) (same_node from n.parent) place refl behind.0
    (omega arith) (λ p k. subst (IsChildNumber from child) bound (child-number from (at + 1) p child nodes behind.1 k)) h

-- the child at a place
pub is_child_number : (t : NodeTable) → IsTree t → (from : Option ℕ) (place child : ℕ) → slice_get (numbers_in (entries_of from t)) place ≡ Some child → IsChildNumber from child (length t.nodes)
is_child_number t tree from place child h =
    subst (IsChildNumber from child) (omega arith)
    (child-number from 0 place child t.nodes tree.behind (ap (λ l. slice_get (numbers_in l) place) (sym (tree.entries from)) ∙ h))
