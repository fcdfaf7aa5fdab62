-- The loop over a node's children, which sums up their totals.
use Rattle.std.proofs.Common.{◌≡◌, ℕ, zero, suc, ◌+◌, ◌<◌, ◌≤◌, List, [], ◌∷◌, ap, sym, ◌∙◌, length, take, get_or, sum_by, Some, None, slice_get, arith}
use Rattle.std.specs.Option.{option_map_or}
use Rattle.std.proofs.lemmas.List.{take_all, length-map}
use Rattle.std.proofs.lemmas.List.Sums.{sum_by_more, sum_by_more_le}
use Rattle.std.proofs.lemmas.Option.{slice_get_within, get_or_from_slice_get, slice_get-get_or, none-some}
use Rattle.context_tree.specs.declared.node.Node.{Node}
use Rattle.context_tree.specs.declared.table.NodeTable.{NodeTable}
use Rattle.context_tree.specs.NodeTables.{entries_of, numbers_in, own_at, fresh}
use Rattle.context_tree.specs.TreeViews.{total_at, IsTree}
use Rattle.context_tree.proofs.Sums.Totals.{total_at-splits, total_at-le, length-entries_below}

pub own_at-get_or : (i : ℕ) (nodes : List Node) (d : Node) → i < length nodes → own_at i nodes ≡ (get_or nodes i d).own
own_at-get_or i nodes d lt = ap (λ o. option_map_or (λ (n : Node). n.own) o 0) (slice_get-get_or nodes i d lt)

pub total_at-own : (t : NodeTable) → IsTree t → (node : ℕ) → node < length t.nodes
    → total_at node t.nodes ≡ own_at node t.nodes + sum_by (λ k. total_at k t.nodes) (numbers_in (entries_of (Some node) t))
total_at-own t tree node lt =
    total_at-splits t tree node (fresh None 0) lt
    ∙ ap (λ k. k + sum_by (λ j. total_at j t.nodes) (numbers_in (entries_of (Some node) t))) (sym (own_at-get_or node t.nodes (fresh None 0) lt))

-- one child more
pub sum_more : (nodes : List Node) (numbers : List ℕ) (own sum place child : ℕ) → slice_get numbers place ≡ Some child
    → sum ≡ own + sum_by (λ k. total_at k nodes) (take place numbers) → sum + total_at child nodes ≡ own + sum_by (λ k. total_at k nodes) (take (place + 1) numbers)
sum_more nodes numbers own sum place child h e =
    let more = sum_by_more (λ k. total_at k nodes) numbers place child (slice_get_within numbers place child h) in
    let here : get_or numbers place child ≡ child = get_or_from_slice_get numbers place child child h in
    omega (arith, e, more, ap (λ k. total_at k nodes) here)

pub sum_fits : (t : NodeTable) → IsTree t → (node sum place child : ℕ) → node < length t.nodes → slice_get (numbers_in (entries_of (Some node) t)) place ≡ Some child
    → sum ≡ own_at node t.nodes + sum_by (λ k. total_at k t.nodes) (take place (numbers_in (entries_of (Some node) t))) → sum + total_at child t.nodes ≤ t.clock
sum_fits t tree node sum place child lt h e =
    let numbers : List ℕ = numbers_in (entries_of (Some node) t) in
    let more = sum_by_more_le (λ k. total_at k t.nodes) numbers place child (slice_get_within numbers place child h) in
    let here : get_or numbers place child ≡ child = get_or_from_slice_get numbers place child child h in
    omega (arith, e, more, ap (λ k. total_at k t.nodes) here, total_at-own t tree node lt, total_at-le node t.nodes, tree.counted)

pub place_within : (t : NodeTable) → IsTree t → (node place child : ℕ) → slice_get (numbers_in (entries_of (Some node) t)) place ≡ Some child
    → (place < length (numbers_in (entries_of (Some node) t))) × (place < length t.nodes)
place_within t tree node place child h =
    let lt : place < length (numbers_in (entries_of (Some node) t)) = slice_get_within (numbers_in (entries_of (Some node) t)) place child h in
    (lt, omega (arith, lt, length-map (entries_of (Some node) t) (λ (e : ℕ × ℕ). e.1), ap length (tree.entries (Some node)), length-entries_below (Some node) 0 t.nodes))

slice_get_none_past : (xs : List ℕ) (i : ℕ) → slice_get xs i ≡ None → length xs ≤ i
slice_get_none_past [] i h = omega arith
slice_get_none_past (x ∷ xs) zero h = absurd (none-some x (sym h))
slice_get_none_past (x ∷ xs) (suc i) h = omega (arith, slice_get_none_past xs i h)

pub sum_whole : (t : NodeTable) → IsTree t → (node sum place : ℕ) → node < length t.nodes → slice_get (numbers_in (entries_of (Some node) t)) place ≡ None
    → sum ≡ own_at node t.nodes + sum_by (λ k. total_at k t.nodes) (take place (numbers_in (entries_of (Some node) t))) → sum ≡ total_at node t.nodes
sum_whole t tree node sum place lt h e =
    let numbers : List ℕ = numbers_in (entries_of (Some node) t) in
    let past : length numbers ≤ place = slice_get_none_past numbers place h in
    e ∙ ap (λ l. own_at node t.nodes + sum_by (λ k. total_at k t.nodes) l) (take_all place numbers past) ∙ sym (total_at-own t tree node lt)
