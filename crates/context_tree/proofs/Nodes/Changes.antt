-- One node of a list changed.
use Rattle.std.proofs.Common.{◌≡◌, ℕ, zero, suc, ◌≤◌, List, [], ◌∷◌, refl, ap, subst, get_or, slice_get, slice_set, Some, None, sum_by}
use Rattle.std.proofs.lemmas.Option.{slice_get_within, get_or_from_slice_get}
use Rattle.std.proofs.lemmas.List.Sums.{get_or-le-sum_by}
use Rattle.context_tree.specs.declared.node.Node.{Node}
use Rattle.context_tree.specs.NodeTables.{changed_at}

pub changed_at-found : (f : Node → Node) (i : ℕ) (ns : List Node) (n : Node) → slice_get ns i ≡ Some n → slice_set ns i (f n) ≡ changed_at f i ns
changed_at-found f i [] n h = refl
changed_at-found f zero (m ∷ ns) n h = cc
changed_at-found f (suc i) (m ∷ ns) n h = ap (λ l. m ∷ l) (changed_at-found f i ns n h)

pub changed_at-past : (f : Node → Node) (i : ℕ) (ns : List Node) → slice_get ns i ≡ None → changed_at f i ns ≡ ns
changed_at-past f i [] h = refl
changed_at-past f zero (m ∷ ns) h = cc
changed_at-past f (suc i) (m ∷ ns) h = ap (λ l. m ∷ l) (changed_at-past f i ns h)

-- a number of one node is within the sum over all
pub sum_by-found : (f : Node → ℕ) (i : ℕ) (ns : List Node) (n : Node) → slice_get ns i ≡ Some n → f n ≤ sum_by f ns
sum_by-found f i ns n h =
    let e : get_or ns i n ≡ n = get_or_from_slice_get ns i n n h in
    subst (λ m. f m ≤ sum_by f ns) e (get_or-le-sum_by f ns i n (slice_get_within ns i n h))
