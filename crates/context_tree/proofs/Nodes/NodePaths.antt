-- The paths of nodes, and one more node.
use Rattle.std.proofs.Common.{◌≡◌, ℕ, zero, suc, ◌+◌, ◌<◌, ◌≤◌, Bool, true, false, ◌||◌, List, [], ◌∷◌, ◌++◌, refl, ap, sym, ◌∙◌, subst, length, get_or, Option, Some, None, IfSome, cond, is_some, arith}
use Rattle.std.specs.List.{list_any, AllZip, position_from}
use Rattle.std.proofs.lemmas.Bool.{or_parts, or_from, true≢false}
use Rattle.std.specs.Bool.{Decides}
use Rattle.std.proofs.lemmas.Bool.Decides.{same_from_decides, Decides-eqb, Decides-like}
use Rattle.std.proofs.lemmas.Option.{same_Some}
use Rattle.std.proofs.lemmas.Slice.Eq.{bytes_eq-Decides}
use Rattle.std.proofs.lemmas.List.{append-nil, append_assoc, get_or_append_left, length_push, length-append}
use Rattle.jvm_model.specs.Profiling.Paths.{same_path}
use Rattle.context_tree.specs.declared.node.Node.{Node}
use Rattle.context_tree.specs.NodeTables.{changed_at}
use Rattle.context_tree.specs.TreeViews.{path_at, path_of, paths_after, paths_in, AreBehind, AreApart, same_node}
use Rattle.context_tree.proofs.Paths.SamePaths.{same_path-refl, same_path-sym}

-- ---- paths of nodes stay

pub path_at-append : (node : Option ℕ) (paths more : List (List ℕ)) → IfSome node (λ i. i < length paths) → path_at node (paths ++ more) ≡ path_at node paths
path_at-append None paths more h = refl
path_at-append (Some i) paths more h = get_or_append_left paths more [] i h

pub length-paths_after : (before : List (List ℕ)) (nodes : List Node) → length (paths_after before nodes) ≡ length nodes
length-paths_after before [] = refl
length-paths_after before (n ∷ nodes) = omega (arith, length-paths_after (before ++ path_of before n ∷ []) nodes)

-- one node more
pub paths_after-push : (before : List (List ℕ)) (nodes : List Node) (n : Node) → paths_after before (nodes ++ n ∷ []) ≡ paths_after before nodes ++ path_of (before ++ paths_after before nodes) n ∷ []
paths_after-push before [] n = ap (λ b. path_of b n ∷ []) (sym (append-nil before))
paths_after-push before (m ∷ nodes) n =
    let here = path_of before m in
    ap (λ l. here ∷ l) (paths_after-push (before ++ here ∷ []) nodes n
    ∙ ap (λ b. paths_after (before ++ here ∷ []) nodes ++ path_of b n ∷ []) (append_assoc before (here ∷ []) (paths_after (before ++ here ∷ []) nodes)))

-- a change that leaves method and parent
pub record LeavesPlace (f : Node → Node) : Type 0 where
  pub method : (n : Node) → (f n).method ≡ n.method
  pub parent : (n : Node) → (f n).parent ≡ n.parent

pub path_of-changed : (f : Node → Node) → LeavesPlace f → (before : List (List ℕ)) (n : Node) → path_of before (f n) ≡ path_of before n
path_of-changed f leaves before n = ap (λ q. path_at q before ++ (f n).method ∷ []) (leaves.parent n) ∙ ap (λ m. path_at n.parent before ++ m ∷ []) (leaves.method n)

pub paths_after-changed : (f : Node → Node) → LeavesPlace f → (before : List (List ℕ)) (i : ℕ) (nodes : List Node) → paths_after before (changed_at f i nodes) ≡ paths_after before nodes
paths_after-changed f leaves before i [] = refl
paths_after-changed f leaves before zero (n ∷ nodes) = ap (λ p. p ∷ paths_after (before ++ p ∷ []) nodes) (path_of-changed f leaves before n)
paths_after-changed f leaves before (suc i) (n ∷ nodes) = ap (λ l. path_of before n ∷ l) (paths_after-changed f leaves (before ++ path_of before n ∷ []) i nodes)

pub AreBehind-changed : (f : Node → Node) → LeavesPlace f → (at i : ℕ) (nodes : List Node) → AreBehind at nodes → AreBehind at (changed_at f i nodes)
AreBehind-changed f leaves at i [] h = h
AreBehind-changed f leaves at zero (n ∷ nodes) h = (subst (λ q. IfSome q (λ k. k < at)) (sym (leaves.parent n)) h.0, h.1)
AreBehind-changed f leaves at (suc i) (n ∷ nodes) h = (h.0, AreBehind-changed f leaves (at + 1) i nodes h.1)

pub AreBehind-push : (at : ℕ) (nodes : List Node) (n : Node) → AreBehind at nodes → IfSome n.parent (λ i. i < at + length nodes) → AreBehind at (nodes ++ n ∷ [])
AreBehind-push at [] n h p = (subst (λ k. IfSome n.parent (λ i. i < k)) (omega arith) p, tt)
AreBehind-push at (m ∷ nodes) n h p = (h.0, AreBehind-push (at + 1) nodes n h.1 (subst (λ k. IfSome n.parent (λ i. i < k)) (omega arith) p))

-- ---- each path goes on from its parent's

-- a path is its parent's, among all, and the method
abbrev pub GoesOn : List (List ℕ) → List ℕ → Node → Type 0
GoesOn all path n = (path ≡ path_of all n) × IfSome n.parent (λ i. i < length all)

pub IfSome-below : (q : Option ℕ) (a b : ℕ) → a ≤ b → IfSome q (λ i. i < a) → IfSome q (λ i. i < b)
IfSome-below None a b le h = tt
IfSome-below (Some i) a b le h = omega (arith, h)

pub goes_on_after : (before : List (List ℕ)) (nodes : List Node) → AreBehind (length before) nodes → AllZip (GoesOn (before ++ paths_after before nodes)) (paths_after before nodes) nodes
goes_on_after before [] h = tt
goes_on_after before (n ∷ nodes) h =
    let p : List ℕ = path_of before n in
    let rest : List (List ℕ) = paths_after (before ++ p ∷ []) nodes in
    let all : (before ++ p ∷ []) ++ rest ≡ before ++ p ∷ rest = append_assoc before (p ∷ []) rest in
    let later : AreBehind (length (before ++ p ∷ [])) nodes = subst (λ k. AreBehind k nodes) (sym (length_push before p)) h.1 in (
      (
        ap (λ r. r ++ n.method ∷ []) (sym (path_at-append n.parent before (p ∷ rest) h.0)),
        IfSome-below n.parent (length before) (length (before ++ p ∷ rest)) (omega (arith, length-append before (p ∷ rest))) h.0,
      ),
      subst (λ l. AllZip (GoesOn l) rest nodes) all (goes_on_after (before ++ p ∷ []) nodes later),
    )

pub goes_on : (nodes : List Node) → AreBehind 0 nodes → AllZip (GoesOn (paths_in nodes)) (paths_in nodes) nodes
goes_on nodes h = goes_on_after [] nodes h

pub goes_on-get_or : (all paths : List (List ℕ)) (nodes : List Node) (i : ℕ) (d : Node) → AllZip (GoesOn all) paths nodes → i < length nodes → GoesOn all (get_or paths i []) (get_or nodes i d)
goes_on-get_or all paths [] i d h lt = absurd (omega (arith, lt))
goes_on-get_or all [] (n ∷ nodes) i d h lt = elim h [ ]
goes_on-get_or all (p ∷ paths) (n ∷ nodes) zero d h lt = h.0
goes_on-get_or all (p ∷ paths) (n ∷ nodes) (suc i) d h lt = goes_on-get_or all paths nodes i d h.1 (omega (arith, lt))

-- no node has the path of outside
pub none_outside : (all paths : List (List ℕ)) (nodes : List Node) → AllZip (GoesOn all) paths nodes → list_any (same_path []) paths ≡ false
none_outside all [] [] h = refl
none_outside all [] (n ∷ nodes) h = elim h [ ]
none_outside all (p ∷ paths) [] h = elim h [ ]
none_outside all (p ∷ paths) (n ∷ nodes) h =
    or_from (same_path [] p) (list_any (same_path []) paths)
    (ap (same_path []) h.0.0 ∙ nil_apart (path_at n.parent all) n.method) (none_outside all paths nodes h.1)
  where
    nil_apart : (q : List ℕ) (m : ℕ) → same_path [] (q ++ m ∷ []) ≡ false
    nil_apart [] m = refl
    nil_apart (x ∷ q) m = refl

-- ---- where a path stands

pub list_any-position_from : {X : Type 0} (t : X → Bool) (k : ℕ) (xs : List X) → list_any t xs ≡ is_some (position_from t k xs)
list_any-position_from t k [] = refl
list_any-position_from t k (x ∷ xs) = by (t x) (list_any-position_from t (k + 1) xs)
  where
    by : (b : Bool) → list_any t xs ≡ is_some (position_from t (k + 1) xs) → (b || list_any t xs) ≡ is_some (cond b (Some k) (position_from t (k + 1) xs))
    by true rest = refl
    by false rest = rest

pub position_from-none : {X : Type 0} (t : X → Bool) (k : ℕ) (xs : List X) → list_any t xs ≡ false → position_from t k xs ≡ None
position_from-none t k [] h = refl
position_from-none t k (x ∷ xs) h =
    let parts = or_parts (t x) (list_any t xs) h in
    ap (λ b. cond b (Some k) (position_from t (k + 1) xs)) parts.0 ∙ position_from-none t (k + 1) xs parts.1

pub apart-at : (p : List ℕ) (paths : List (List ℕ)) (i : ℕ) → list_any (same_path p) paths ≡ false → i < length paths → same_path p (get_or paths i []) ≡ false
apart-at p [] i h lt = absurd (omega (arith, lt))
apart-at p (q ∷ paths) zero h lt = (or_parts (same_path p q) (list_any (same_path p) paths) h).0
apart-at p (q ∷ paths) (suc i) h lt = apart-at p paths i (or_parts (same_path p q) (list_any (same_path p) paths) h).1 (omega (arith, lt))

-- the path of a node stands at its number alone
pub position_from-path : (k : ℕ) (paths : List (List ℕ)) (i : ℕ) → AreApart paths → i < length paths → position_from (same_path (get_or paths i [])) k paths ≡ Some (k + i)
position_from-path k [] i h lt = absurd (omega (arith, lt))
position_from-path k (p ∷ paths) zero h lt = ap (λ b. cond b (Some k) (position_from (same_path p) (k + 1) paths)) (same_path-refl p) ∙ ap Some (omega arith)
position_from-path k (p ∷ paths) (suc i) h lt =
    let less : i < length paths = omega (arith, lt) in
    let other : same_path (get_or paths i []) p ≡ false = same_path-sym (get_or paths i []) p ∙ apart-at p paths i h.0 less in
    ap (λ b. cond b (Some k) (position_from (same_path (get_or paths i [])) (k + 1) paths)) other ∙ position_from-path (k + 1) paths i h.1 less ∙ ap Some (omega arith)

-- what holds of the paths of all nodes
pub record ArePaths (all : List (List ℕ)) : Type 0 where
  pub apart : AreApart all
  pub inside : list_any (same_path []) all ≡ false

pub position-path_at : (all : List (List ℕ)) → ArePaths all → (node : Option ℕ) → IfSome node (λ i. i < length all) → position_from (same_path (path_at node all)) 0 all ≡ node
position-path_at all are None h = position_from-none (same_path []) 0 all are.inside
position-path_at all are (Some i) h = position_from-path 0 all i are.apart h ∙ ap Some (omega arith)

pub Decides-same_node : (a b : Option ℕ) → Decides (same_node a b) (a ≡ b)
Decides-same_node None None = (λ _. refl, λ _. refl)
Decides-same_node None (Some y) = (λ h. absurd (true≢false (sym h)), λ e. cc)
Decides-same_node (Some x) None = (λ h. absurd (true≢false (sym h)), λ e. cc)
Decides-same_node (Some x) (Some y) = Decides-like _ (λ e. ap Some e) (λ e. same_Some x y e) (Decides-eqb x y)

-- two nodes are one exactly where their paths are the same
pub same_path-path_at : (all : List (List ℕ)) → ArePaths all → (a b : Option ℕ) → IfSome a (λ i. i < length all) → IfSome b (λ i. i < length all)
    → same_path (path_at a all) (path_at b all) ≡ same_node a b
same_path-path_at all are a b ha hb =
    same_from_decides _ _
    (Decides-like _ (λ e. sym (position-path_at all are a ha) ∙ ap (λ p. position_from (same_path p) 0 all) e ∙ position-path_at all are b hb) (λ e. ap (λ q. path_at q all) e)
    (bytes_eq-Decides (path_at a all) (path_at b all)))
    (Decides-same_node a b)
