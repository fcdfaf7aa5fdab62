-- A path and those that go on from it: each but itself goes on from one of its children.
use Rattle.std.proofs.Common.{◌≡◌, ℕ, zero, suc, ◌+◌, ◌<◌, Bool, true, false, ◌&&◌, List, [], ◌∷◌, ◌++◌, refl, ap, sym, ◌∙◌, filter, length, get_or, sum_by, Option, nat_eq, cond, if◌then◌else◌, arith}
use Rattle.std.specs.List.{list_any, starts_with}
use Rattle.std.proofs.lemmas.Bool.{or_parts}
use Rattle.std.proofs.lemmas.List.Sums.{sum_by-cons}
use Rattle.jvm_model.specs.Profiling.Paths.{same_path}
use Rattle.context_tree.specs.declared.node.Node.{Node}
use Rattle.context_tree.specs.TreeViews.{AreApart, same_node}
use Rattle.context_tree.proofs.Paths.SamePaths.{same_path-refl, same_path-sym}
use Rattle.context_tree.proofs.Nodes.NodePaths.{apart-at}

-- whether a path goes on from another, or is it
abbrev pub goes_from : List ℕ → List ℕ → Bool
goes_from X Q = starts_with nat_eq Q X

abbrev pub if_so : Bool → ℕ → ℕ
if_so b w = cond b w 0

pub goes_from-nil : (X : List ℕ) → goes_from X [] ≡ same_path X []
goes_from-nil [] = refl
goes_from-nil (x ∷ X) = refl

-- one method more
pub goes_from-push : (X R : List ℕ) (m w : ℕ) → if_so (goes_from X (R ++ m ∷ [])) w ≡ if_so (goes_from X R) w + if_so (same_path X (R ++ m ∷ [])) w
goes_from-push [] [] m w = omega arith
goes_from-push [] (r ∷ R) m w = omega arith
goes_from-push (x ∷ X) [] m w = ap (λ b. if_so (nat_eq x m && b) w) (goes_from-nil X) ∙ omega arith
goes_from-push (x ∷ X) (r ∷ R) m w = by (nat_eq x r) (goes_from-push X R m w)
  where
    by : (b : Bool) → if_so (goes_from X (R ++ m ∷ [])) w ≡ if_so (goes_from X R) w + if_so (same_path X (R ++ m ∷ [])) w
        → if_so (b && goes_from X (R ++ m ∷ [])) w ≡ if_so (b && goes_from X R) w + if_so (b && same_path X (R ++ m ∷ [])) w
    by true rest = rest
    by false rest = omega arith

-- ---- sums over lists of paths

pub sum_by-agree : {X : Type 0} (f g : X → ℕ) → ((x : X) → f x ≡ g x) → (xs : List X) → sum_by f xs ≡ sum_by g xs
sum_by-agree f g same [] = refl
sum_by-agree f g same (x ∷ xs) = sum_by-cons f x xs ∙ ap (λ k. k + sum_by f xs) (same x) ∙ ap (λ k. g x + k) (sum_by-agree f g same xs) ∙ sym (sum_by-cons g x xs)

pub sum_by-plus : {X : Type 0} (f g : X → ℕ) (xs : List X) → sum_by (λ x. f x + g x) xs ≡ sum_by f xs + sum_by g xs
sum_by-plus f g [] = omega arith
sum_by-plus f g (x ∷ xs) = omega (arith, sum_by-cons (λ y. f y + g y) x xs, sum_by-cons f x xs, sum_by-cons g x xs, sum_by-plus f g xs)

-- a sum of what passes a test
pub sum_by-filter : {X : Type 0} (f : X → ℕ) (test : X → Bool) (xs : List X) → sum_by f (filter test xs) ≡ sum_by (λ x. if_so (test x) (f x)) xs
sum_by-filter f test [] = refl
sum_by-filter f test (x ∷ xs) = by (test x) (sum_by-filter f test xs) ∙ sym (sum_by-cons (λ y. if_so (test y) (f y)) x xs)
  where
    by : (b : Bool) → sum_by f (filter test xs) ≡ sum_by (λ y. if_so (test y) (f y)) xs
        → sum_by f (cond b (x ∷ filter test xs) (filter test xs)) ≡ if_so b (f x) + sum_by (λ y. if_so (test y) (f y)) xs
    by true rest = sum_by-cons f x (filter test xs) ∙ ap (λ k. f x + k) rest
    by false rest = omega (arith, rest)

-- ---- the paths one method below a node

abbrev pub paths_below : Option ℕ → List (List ℕ) → List Node → List (List ℕ)
paths_below from [] nodes = []
paths_below from (p ∷ paths) [] = []
paths_below from (p ∷ paths) (n ∷ nodes) = if same_node from n.parent then p ∷ paths_below from paths nodes else paths_below from paths nodes

sum_below-cons : (f : List ℕ → ℕ) (from : Option ℕ) (p : List ℕ) (paths : List (List ℕ)) (n : Node) (nodes : List Node)
    → sum_by f (paths_below from (p ∷ paths) (n ∷ nodes)) ≡ if_so (same_node from n.parent) (f p) + sum_by f (paths_below from paths nodes)
sum_below-cons f from p paths n nodes = by (same_node from n.parent)
  where
    by : (b : Bool) → sum_by f (if b then p ∷ paths_below from paths nodes else paths_below from paths nodes) ≡ if_so b (f p) + sum_by f (paths_below from paths nodes)
    by true = sum_by-cons f p (paths_below from paths nodes)
    by false = omega arith

-- none of them is a path that stands nowhere
pub none_below : (Q : List ℕ) (w : ℕ) (from : Option ℕ) (paths : List (List ℕ)) (nodes : List Node) → list_any (same_path Q) paths ≡ false
    → sum_by (λ p. if_so (same_path p Q) w) (paths_below from paths nodes) ≡ 0
none_below Q w from [] nodes h = refl
none_below Q w from (p ∷ paths) [] h = refl
none_below Q w from (p ∷ paths) (n ∷ nodes) h =
    let parts = or_parts (same_path Q p) (list_any (same_path Q) paths) h in
    sum_below-cons (λ q. if_so (same_path q Q) w) from p paths n nodes
    ∙ ap (λ b. if_so (same_node from n.parent) (if_so b w) + sum_by (λ q. if_so (same_path q Q) w) (paths_below from paths nodes)) (same_path-sym p Q ∙ parts.0)
    ∙ by (same_node from n.parent) (none_below Q w from paths nodes parts.1)
  where
    by : (b : Bool) → sum_by (λ q. if_so (same_path q Q) w) (paths_below from paths nodes) ≡ 0 → if_so b (if_so false w) + sum_by (λ q. if_so (same_path q Q) w) (paths_below from paths nodes) ≡ 0
    by true rest = omega (arith, rest)
    by false rest = omega (arith, rest)

-- the path of a node is one of them exactly where the node goes on from this one
pub one_below : (w : ℕ) (from : Option ℕ) (paths : List (List ℕ)) (nodes : List Node) (k : ℕ) (d : Node) → AreApart paths → k < length paths → length paths ≡ length nodes
    → sum_by (λ p. if_so (same_path p (get_or paths k [])) w) (paths_below from paths nodes) ≡ if_so (same_node from (get_or nodes k d).parent) w
one_below w from [] nodes k d apart lt e = absurd (omega (arith, lt))
one_below w from (p ∷ paths) [] k d apart lt e = absurd (omega (arith, e))
one_below w from (p ∷ paths) (n ∷ nodes) zero d apart lt e =
    sum_below-cons (λ q. if_so (same_path q p) w) from p paths n nodes
    ∙ ap (λ b. if_so (same_node from n.parent) (if_so b w) + sum_by (λ q. if_so (same_path q p) w) (paths_below from paths nodes)) (same_path-refl p)
    ∙ omega (arith, none_below p w from paths nodes apart.0)
one_below w from (p ∷ paths) (n ∷ nodes) (suc k) d apart lt e =
    let less : k < length paths = omega (arith, lt) in
    let Q : List ℕ = get_or paths k [] in
    sum_below-cons (λ q. if_so (same_path q Q) w) from p paths n nodes
    ∙ ap (λ b. if_so (same_node from n.parent) (if_so b w) + sum_by (λ q. if_so (same_path q Q) w) (paths_below from paths nodes)) (apart-at p paths k apart.0 less)
    ∙ by (same_node from n.parent) (one_below w from paths nodes k d apart.1 less (omega (arith, e)))
  where
    by : (b : Bool) → sum_by (λ q. if_so (same_path q (get_or paths k [])) w) (paths_below from paths nodes) ≡ if_so (same_node from (get_or nodes k d).parent) w
        → if_so b (if_so false w) + sum_by (λ q. if_so (same_path q (get_or paths k [])) w) (paths_below from paths nodes) ≡ if_so (same_node from (get_or nodes k d).parent) w
    by true rest = omega (arith, rest)
    by false rest = omega (arith, rest)
