-- Nodes beside their paths, as contexts.
use Rattle.std.proofs.Common.{◌≡◌, ℕ, zero, suc, ◌+◌, ◌<◌, false, ◌||◌, List, [], ◌∷◌, ◌++◌, refl, ap, sym, ◌∙◌, map, length, get_or, sum_by, Option, Some, cond, if◌then◌else◌, arith}
use Rattle.std.specs.List.{list_any, AllZip, position_from}
use Rattle.std.proofs.lemmas.Bool.{or_parts}
use Rattle.std.proofs.lemmas.List.Sums.{sum_by-cons}
use Rattle.std.proofs.lemmas.Iterator.Adapters.{position_from-zero}
use Rattle.jvm_model.specs.Profiling.Paths.{Context, same_path}
use Rattle.context_tree.specs.declared.node.Node.{Node}
use Rattle.context_tree.specs.Profiles.{has_path, parent_path, last_method, node_of, number_of}
use Rattle.context_tree.specs.NodeTables.{changed_at}
use Rattle.context_tree.specs.TreeViews.{path_at, with_counts, contexts_with, AreApart}
use Rattle.context_tree.proofs.Paths.SamePaths.{same_path-refl, same_path-sym, parent_path-push, last_method-push}
use Rattle.context_tree.proofs.Nodes.NodePaths.{GoesOn, ArePaths, apart-at, position-path_at}

pub contexts_with-push : (paths : List (List ℕ)) (nodes : List Node) (p : List ℕ) (n : Node) → length paths ≡ length nodes
    → contexts_with (paths ++ p ∷ []) (nodes ++ n ∷ []) ≡ contexts_with paths nodes ++ with_counts p n ∷ []
contexts_with-push [] [] p n e = refl
contexts_with-push [] (m ∷ nodes) p n e = absurd (omega (arith, e))
contexts_with-push (q ∷ paths) [] p n e = absurd (omega (arith, e))
contexts_with-push (q ∷ paths) (m ∷ nodes) p n e = ap (λ l. with_counts q m ∷ l) (contexts_with-push paths nodes p n (omega (arith, e)))

-- the context with a path changed
abbrev pub changed_in : List ℕ → (Context → Context) → Context → Context
changed_in P g c = if has_path P c then g c else c

pub map-apart : (P : List ℕ) (g : Context → Context) (paths : List (List ℕ)) (nodes : List Node) → list_any (same_path P) paths ≡ false
    → map (changed_in P g) (contexts_with paths nodes) ≡ contexts_with paths nodes
map-apart P g [] nodes h = refl
map-apart P g (p ∷ paths) [] h = refl
map-apart P g (p ∷ paths) (n ∷ nodes) h =
    let parts = or_parts (same_path P p) (list_any (same_path P) paths) h in
    ap (λ b. (if b then g (with_counts p n) else with_counts p n) ∷ map (changed_in P g) (contexts_with paths nodes)) parts.0
    ∙ ap (λ l. with_counts p n ∷ l) (map-apart P g paths nodes parts.1)

-- a change of one node is a change of the one context with its path
pub contexts_with-changed : (f : Node → Node) (g : Context → Context) → ((p : List ℕ) (n : Node) → with_counts p (f n) ≡ g (with_counts p n))
    → (paths : List (List ℕ)) (i : ℕ) (nodes : List Node) → AreApart paths → i < length paths
    → contexts_with paths (changed_at f i nodes) ≡ map (changed_in (get_or paths i []) g) (contexts_with paths nodes)
contexts_with-changed f g same [] i nodes apart lt = absurd (omega (arith, lt))
contexts_with-changed f g same (p ∷ paths) i [] apart lt = refl
contexts_with-changed f g same (p ∷ paths) zero (n ∷ nodes) apart lt =
    ap (λ c. c ∷ contexts_with paths nodes) (same p n ∙ sym (ap (λ b. if b then g (with_counts p n) else with_counts p n) (same_path-refl p)))
    ∙ ap (λ l. changed_in p g (with_counts p n) ∷ l) (sym (map-apart p g paths nodes apart.0))
contexts_with-changed f g same (p ∷ paths) (suc i) (n ∷ nodes) apart lt =
    let less : i < length paths = omega (arith, lt) in
    let other : same_path (get_or paths i []) p ≡ false = same_path-sym (get_or paths i []) p ∙ apart-at p paths i apart.0 less in
    ap (λ c. c ∷ contexts_with paths (changed_at f i nodes)) (sym (ap (λ b. if b then g (with_counts p n) else with_counts p n) other))
    ∙ ap (λ l. changed_in (get_or paths i []) g (with_counts p n) ∷ l) (contexts_with-changed f g same paths i nodes apart.1 less)

pub list_any-contexts_with : (P : List ℕ) (paths : List (List ℕ)) (nodes : List Node) → length paths ≡ length nodes → list_any (has_path P) (contexts_with paths nodes) ≡ list_any (same_path P) paths
list_any-contexts_with P [] nodes e = refl
list_any-contexts_with P (p ∷ paths) [] e = absurd (omega (arith, e))
list_any-contexts_with P (p ∷ paths) (n ∷ nodes) e = ap (λ b. same_path P p || b) (list_any-contexts_with P paths nodes (omega (arith, e)))

position_from-contexts_with : (P : List ℕ) (k : ℕ) (paths : List (List ℕ)) (nodes : List Node) → length paths ≡ length nodes
    → position_from (has_path P) k (contexts_with paths nodes) ≡ position_from (same_path P) k paths
position_from-contexts_with P k [] nodes e = refl
position_from-contexts_with P k (p ∷ paths) [] e = absurd (omega (arith, e))
position_from-contexts_with P k (p ∷ paths) (n ∷ nodes) e = ap (cond (same_path P p) (Some k)) (position_from-contexts_with P (k + 1) paths nodes (omega (arith, e)))

pub number_of-contexts_with : (P : List ℕ) (paths : List (List ℕ)) (nodes : List Node) → length paths ≡ length nodes → number_of P (contexts_with paths nodes) ≡ position_from (same_path P) 0 paths
number_of-contexts_with P paths nodes e = position_from-zero (has_path P) (contexts_with paths nodes) ∙ position_from-contexts_with P 0 paths nodes e

-- a number of all nodes is the same over their contexts
pub sum_by-contexts_with : (f : Node → ℕ) (g : Context → ℕ) → ((p : List ℕ) (n : Node) → g (with_counts p n) ≡ f n) → (paths : List (List ℕ)) (nodes : List Node) → length paths ≡ length nodes
    → sum_by g (contexts_with paths nodes) ≡ sum_by f nodes
sum_by-contexts_with f g same [] [] e = refl
sum_by-contexts_with f g same [] (n ∷ nodes) e = absurd (omega (arith, e))
sum_by-contexts_with f g same (p ∷ paths) [] e = absurd (omega (arith, e))
sum_by-contexts_with f g same (p ∷ paths) (n ∷ nodes) e =
    sum_by-cons g (with_counts p n) (contexts_with paths nodes) ∙ ap (λ k. k + sum_by g (contexts_with paths nodes)) (same p n)
    ∙ ap (λ k. f n + k) (sum_by-contexts_with f g same paths nodes (omega (arith, e))) ∙ sym (sum_by-cons f n nodes)

-- ---- nodes of contexts

node_of-with_counts : (cs : List Context) (all : List (List ℕ)) → ArePaths all → ((P : List ℕ) → number_of P cs ≡ position_from (same_path P) 0 all)
    → (p : List ℕ) (n : Node) → GoesOn all p n → node_of cs (with_counts p n) ≡ n
node_of-with_counts cs all are numbers p n goes =
    let made : ℕ → Option ℕ → Node = λ m q. record { method = m; parent = q; calls = n.calls; own = n.own } in
    let method : last_method p ≡ n.method = ap last_method goes.0 ∙ last_method-push (path_at n.parent all) n.method in
    let above : parent_path p ≡ path_at n.parent all = ap parent_path goes.0 ∙ parent_path-push (path_at n.parent all) n.method in
    let parent : number_of (parent_path p) cs ≡ n.parent = numbers (parent_path p) ∙ ap (λ q. position_from (same_path q) 0 all) above ∙ position-path_at all are n.parent goes.1 in
    ap (λ m. made m (number_of (parent_path p) cs)) method ∙ ap (made n.method) parent

pub map-node_of : (cs : List Context) (all : List (List ℕ)) → ArePaths all → ((P : List ℕ) → number_of P cs ≡ position_from (same_path P) 0 all)
    → (paths : List (List ℕ)) (nodes : List Node) → AllZip (GoesOn all) paths nodes → map (node_of cs) (contexts_with paths nodes) ≡ nodes
map-node_of cs all are numbers [] [] h = refl
map-node_of cs all are numbers [] (n ∷ nodes) h = elim h [ ]
map-node_of cs all are numbers (p ∷ paths) [] h = elim h [ ]
map-node_of cs all are numbers (p ∷ paths) (n ∷ nodes) h =
    ap (λ m. m ∷ map (node_of cs) (contexts_with paths nodes)) (node_of-with_counts cs all are numbers p n h.0)
    ∙ ap (λ l. n ∷ l) (map-node_of cs all are numbers paths nodes h.1)
