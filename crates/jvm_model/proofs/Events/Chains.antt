-- Paths of activations: each goes on from the path of the activation that invoked it, and does not change later.
use Rattle.std.proofs.Common.{◌≡◌, ℕ, zero, suc, ◌+◌, ◌<◌, true, false, not, ◌||◌, List, [], ◌∷◌, ◌++◌, length, map, Option, Some, None, unwrap_or, option_map, option_and_then, slice_get, slice_set, if◌then◌else◌, refl, sym, ap, subst, ◌∙◌, arith}
use Rattle.std.specs.Option.{IfSome}
use Rattle.std.proofs.lemmas.Bool.{cond-true, or_right, ne_eqb}
use Rattle.std.proofs.lemmas.List.{map_push, length_push}
use Rattle.std.proofs.lemmas.Option.{slice_get-map, same_Some, none-some}
use Rattle.jvm_model.specs.declared.event.Act.{Act}
use Rattle.jvm_model.specs.Profiling.Paths.{is_inside}
use Rattle.jvm_model.specs.Profiling.Activations.{Activation}
use Rattle.jvm_model.specs.Profiling.Projection.{is_root, chain_of, chains_after, from_root, path_of, paths_of, path_at}

-- ---- look-ups in a list that grows

pub slice_get-append_left : {X : Type 0} (xs ys : List X) (i : ℕ) → i < length xs → slice_get (xs ++ ys) i ≡ slice_get xs i
slice_get-append_left [] ys i within = absurd (omega arith)
slice_get-append_left (x ∷ xs) ys zero within = refl
slice_get-append_left (x ∷ xs) ys (suc i) within = slice_get-append_left xs ys i (omega arith)

pub slice_get_at : {X : Type 0} (xs : List X) (y : X) (ys : List X) → slice_get (xs ++ y ∷ ys) (length xs) ≡ Some y
slice_get_at [] y ys = refl
slice_get_at (x ∷ xs) y ys = slice_get_at xs y ys

-- ---- a path by its parent's

-- the path at a number, where there is one
abbrev pub path_in : List (List ℕ) → Option ℕ → List ℕ
path_in paths number = unwrap_or (option_and_then (slice_get paths) number) []

-- an activation's path: it goes on from its parent's, or begins at the activation where that is a root
abbrev pub path_below : List Act → Activation → List ℕ → List ℕ
path_below acts a path = if is_root acts a || is_inside path then path ++ a.method ∷ [] else []

abbrev pub paths_after : List Act → List (List ℕ) → List Activation → List (List ℕ)
paths_after acts paths [] = paths
paths_after acts paths (a ∷ rest) = paths_after acts (paths ++ path_below acts a (path_in paths a.parent) ∷ []) rest

abbrev method_in : Activation → ℕ
method_in a = a.method

pub is_inside-cons : (m : ℕ) (path : List ℕ) → is_inside (m ∷ path) ≡ true
is_inside-cons m path = ap not (ne_eqb (length (m ∷ path)) 0 (λ none. omega arith))

-- where the path has begun, it goes on
pub below_inside : (acts : List Act) (a : Activation) (m : ℕ) (path : List ℕ) → path_below acts a (m ∷ path) ≡ (m ∷ path) ++ a.method ∷ []
below_inside acts a m path = cond-true (is_root acts a || is_inside (m ∷ path)) ((m ∷ path) ++ a.method ∷ []) [] (or_right (is_root acts a) (is_inside (m ∷ path)) (is_inside-cons m path))

pub path_of-push : (acts : List Act) (chain : List Activation) (a : Activation) → path_of acts (chain ++ a ∷ []) ≡ path_below acts a (path_of acts chain)
path_of-push acts [] a = elim (is_root acts a) as (λ root. map method_in (if root then a ∷ [] else []) ≡ (if root || false then [] ++ a.method ∷ [] else [])) [ true ↦ refl | false ↦ refl ]
path_of-push acts (first ∷ rest) a = elim (is_root acts first) as (λ root. map method_in (if root then first ∷ (rest ++ a ∷ []) else from_root acts (rest ++ a ∷ []))
    ≡ path_below acts a (map method_in (if root then first ∷ rest else from_root acts rest))) [
      | true ↦ map_push method_in (first ∷ rest) a ∙ sym (below_inside acts a first.method (map method_in rest))
      | false ↦ path_of-push acts rest a
    ]

-- the path of a chain that goes on from one of these
path_of-chosen : (acts : List Act) (chains : List (List Activation)) (number : Option ℕ)
    → path_of acts (unwrap_or (option_and_then (slice_get chains) number) []) ≡ path_in (map (path_of acts) chains) number
path_of-chosen acts chains None = refl
path_of-chosen acts chains (Some i) = unwrapped (slice_get chains i) ∙ sym (ap (λ o. unwrap_or o []) (slice_get-map (path_of acts) chains i)) where
  unwrapped : (o : Option (List Activation)) → path_of acts (unwrap_or o []) ≡ unwrap_or (option_map (path_of acts) o) []
  unwrapped None = refl
  unwrapped (Some chain) = refl

path_of-chain : (acts : List Act) (chains : List (List Activation)) (a : Activation) → path_of acts (chain_of chains a) ≡ path_below acts a (path_in (map (path_of acts) chains) a.parent)
path_of-chain acts chains a = path_of-push acts (unwrap_or (option_and_then (slice_get chains) a.parent) []) a ∙ ap (path_below acts a) (path_of-chosen acts chains a.parent)

paths_after-chains : (acts : List Act) (chains : List (List Activation)) (activations : List Activation)
    → map (path_of acts) (chains_after chains activations) ≡ paths_after acts (map (path_of acts) chains) activations
paths_after-chains acts chains [] = refl
paths_after-chains acts chains (a ∷ rest) = paths_after-chains acts (chains ++ chain_of chains a ∷ []) rest
    ∙ ap (λ paths. paths_after acts paths rest) (map_push (path_of acts) chains (chain_of chains a) ∙ ap (λ path. map (path_of acts) chains ++ path ∷ []) (path_of-chain acts chains a))

-- paths by recursion: each from its parent's
pub paths_of-recursion : (acts : List Act) (activations : List Activation) → paths_of acts activations ≡ paths_after acts [] activations
paths_of-recursion acts activations = paths_after-chains acts [] activations

-- ---- how paths change

paths_after-push : (acts : List Act) (paths : List (List ℕ)) (activations : List Activation) (a : Activation)
    → paths_after acts paths (activations ++ a ∷ []) ≡ paths_after acts paths activations ++ path_below acts a (path_in (paths_after acts paths activations) a.parent) ∷ []
paths_after-push acts paths [] a = refl
paths_after-push acts paths (b ∷ rest) a = paths_after-push acts (paths ++ path_below acts b (path_in paths b.parent) ∷ []) rest a

pub length-paths_after : (acts : List Act) (paths : List (List ℕ)) (activations : List Activation) → length (paths_after acts paths activations) ≡ length paths + length activations
length-paths_after acts paths [] = omega arith
length-paths_after acts paths (a ∷ rest) = omega (arith, length-paths_after acts (paths ++ path_below acts a (path_in paths a.parent) ∷ []) rest, length_push paths (path_below acts a (path_in paths a.parent)))

-- the paths that are there stay
paths_after-keeps : (acts : List Act) (paths : List (List ℕ)) (activations : List Activation) (i : ℕ) → i < length paths → slice_get (paths_after acts paths activations) i ≡ slice_get paths i
paths_after-keeps acts paths [] i within = refl
paths_after-keeps acts paths (a ∷ rest) i within =
    let path = path_below acts a (path_in paths a.parent) in
    paths_after-keeps acts (paths ++ path ∷ []) rest i (omega (arith, length_push paths path)) ∙ slice_get-append_left paths (path ∷ []) i within

-- a number among the first so many
abbrev pub IsBelow : ℕ → Option ℕ → Type 0
IsBelow bound number = IfSome number (λ i. i < bound)

path_in-keeps : (acts : List Act) (paths : List (List ℕ)) (activations : List Activation) (number : Option ℕ) → IsBelow (length paths) number
    → path_in (paths_after acts paths activations) number ≡ path_in paths number
path_in-keeps acts paths activations None below = refl
path_in-keeps acts paths activations (Some i) below = ap (λ o. unwrap_or o []) (paths_after-keeps acts paths activations i below)

-- an end changes no path
paths_after-ended : (acts : List Act) (paths : List (List ℕ)) (activations : List Activation) (i : ℕ) (a : Activation) (last : Option ℕ) → slice_get activations i ≡ Some a
    → paths_after acts paths (slice_set activations i (record a { «end» = last })) ≡ paths_after acts paths activations
paths_after-ended acts paths [] i a last found = refl
paths_after-ended acts paths (b ∷ rest) zero a last found = ap (λ (x : Activation). paths_after acts (paths ++ path_below acts x (path_in paths x.parent) ∷ []) rest) (sym (same_Some b a found))
paths_after-ended acts paths (b ∷ rest) (suc i) a last found = paths_after-ended acts (paths ++ path_below acts b (path_in paths b.parent) ∷ []) rest i a last found

-- a path is its parent's path, gone on
first-found : (acts : List Act) (paths : List (List ℕ)) (a : Activation) (rest : List Activation) (k : ℕ) → k ≡ length paths → IsBelow k a.parent
    → slice_get (paths_after acts paths (a ∷ rest)) k ≡ Some (path_below acts a (path_in (paths_after acts paths (a ∷ rest)) a.parent))
first-found acts paths a rest k at below =
    let path = path_below acts a (path_in paths a.parent) in
    let stays : slice_get (paths_after acts paths (a ∷ rest)) k ≡ slice_get (paths ++ path ∷ []) k = paths_after-keeps acts (paths ++ path ∷ []) rest k (omega (arith, length_push paths path)) in
    let stands : slice_get (paths ++ path ∷ []) k ≡ Some path = ap (slice_get (paths ++ path ∷ [])) at ∙ slice_get_at paths path [] in
    stays ∙ (stands ∙ ap (λ q. Some (path_below acts a q)) (sym (path_in-keeps acts paths (a ∷ rest) a.parent (subst (λ n. IsBelow n a.parent) at below))))

paths_after-found : (acts : List Act) (paths : List (List ℕ)) (activations : List Activation) (i k : ℕ) (a : Activation)
    → slice_get activations i ≡ Some a → k ≡ length paths + i → IsBelow k a.parent
    → slice_get (paths_after acts paths activations) k ≡ Some (path_below acts a (path_in (paths_after acts paths activations) a.parent))
paths_after-found acts paths [] i k a found at below = absurd (none-some a found)
paths_after-found acts paths (b ∷ rest) zero k a found at below =
    subst (λ x. slice_get (paths_after acts paths (x ∷ rest)) k ≡ Some (path_below acts a (path_in (paths_after acts paths (x ∷ rest)) a.parent)))
    (sym (same_Some b a found)) (first-found acts paths a rest k (omega arith) below)
paths_after-found acts paths (b ∷ rest) (suc i) k a found at below =
    let path = path_below acts b (path_in paths b.parent) in
    paths_after-found acts (paths ++ path ∷ []) rest i k a found (omega (arith, length_push paths path)) below

-- ---- the same of the definitions

pub length-paths_of : (acts : List Act) (activations : List Activation) → length (paths_of acts activations) ≡ length activations
length-paths_of acts activations = ap length (paths_of-recursion acts activations) ∙ (length-paths_after acts [] activations ∙ omega arith)

-- a new activation's path goes on from its parent's
pub paths_of-push : (acts : List Act) (activations : List Activation) (a : Activation)
    → paths_of acts (activations ++ a ∷ []) ≡ paths_of acts activations ++ path_below acts a (path_at acts activations a.parent) ∷ []
paths_of-push acts activations a = paths_of-recursion acts (activations ++ a ∷ []) ∙ (paths_after-push acts [] activations a
    ∙ ap (λ paths. paths ++ path_below acts a (path_in paths a.parent) ∷ []) (sym (paths_of-recursion acts activations)))

-- and an end changes none
pub paths_of-ended : (acts : List Act) (activations : List Activation) (i : ℕ) (a : Activation) (last : Option ℕ) → slice_get activations i ≡ Some a
    → paths_of acts (slice_set activations i (record a { «end» = last })) ≡ paths_of acts activations
paths_of-ended acts activations i a last found = paths_of-recursion acts (slice_set activations i (record a { «end» = last }))
    ∙ (paths_after-ended acts [] activations i a last found ∙ sym (paths_of-recursion acts activations))

-- earlier activations keep their paths
pub path_at-push : (acts : List Act) (activations : List Activation) (a : Activation) (number : Option ℕ) → IsBelow (length activations) number
    → path_at acts (activations ++ a ∷ []) number ≡ path_at acts activations number
path_at-push acts activations a None below = refl
path_at-push acts activations a (Some i) below =
    let path = path_below acts a (path_at acts activations a.parent) in
    ap (λ paths. path_in paths (Some i)) (paths_of-push acts activations a)
    ∙ ap (λ o. unwrap_or o []) (slice_get-append_left (paths_of acts activations) (path ∷ []) i (omega (arith, length-paths_of acts activations)))

pub path_at-last : (acts : List Act) (activations : List Activation) (a : Activation)
    → path_at acts (activations ++ a ∷ []) (Some (length activations)) ≡ path_below acts a (path_at acts activations a.parent)
path_at-last acts activations a =
    let path = path_below acts a (path_at acts activations a.parent) in
    ap (λ paths. path_in paths (Some (length activations))) (paths_of-push acts activations a)
    ∙ (ap (λ i. path_in (paths_of acts activations ++ path ∷ []) (Some i)) (sym (length-paths_of acts activations))
    ∙ ap (λ o. unwrap_or o []) (slice_get_at (paths_of acts activations) path []))

-- each path by the path of the activation that invoked it, which began before
pub path_at-found : (acts : List Act) (activations : List Activation) (i : ℕ) (a : Activation) → slice_get activations i ≡ Some a → IsBelow i a.parent
    → path_at acts activations (Some i) ≡ path_below acts a (path_at acts activations a.parent)
path_at-found acts activations i a found below =
    let recursion = paths_of-recursion acts activations in
    ap (λ paths. path_in paths (Some i)) recursion ∙ (ap (λ o. unwrap_or o []) (paths_after-found acts [] activations i i a found (omega arith) below)
    ∙ ap (λ paths. path_below acts a (path_in paths a.parent)) (sym recursion))

-- ---- no selection
