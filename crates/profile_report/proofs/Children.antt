-- The numbers of the contexts below a path, and those contexts themselves.
use Rattle.std.proofs.Common.{◌≡◌, ℕ, zero, suc, ◌+◌, ◌≤◌, Bool, true, false, List, [], ◌∷◌, ◌++◌, refl, ap, ◌∙◌, filter, length, None, Some, slice_get, if◌then◌else◌, arith}
use Rattle.std.specs.List.{flat_map, enumerate_from, filter_map, cons_option}
use Rattle.std.proofs.lemmas.List.{length_push}
use Rattle.jvm_model.specs.Profiling.Paths.{Context, same_path, is_outside}
use Rattle.context_tree.specs.Profiles.{is_child, last_method, numbered_child, parent_path}
use Rattle.context_tree.proofs.Paths.SamePaths.{path-split, same_path-is}

-- the numbers, where the first context has the number `at`
abbrev pub numbers_from : List ℕ → ℕ → List Context → List ℕ
numbers_from path at contexts = filter_map (numbered_child path) (enumerate_from at contexts)

-- there are no more of them than contexts
pub length-numbers : (path : List ℕ) (at : ℕ) (contexts : List Context) → length (numbers_from path at contexts) ≤ length contexts
length-numbers path at [] = omega arith
length-numbers path at (c ∷ contexts) =
    let rest : length (numbers_from path (at + 1) contexts) ≤ length contexts = length-numbers path (at + 1) contexts in
    by (is_child path c) rest
  where
    by : (b : Bool) → length (numbers_from path (at + 1) contexts) ≤ length contexts → length (cons_option (if b then Some at else None) (numbers_from path (at + 1) contexts)) ≤ length (c ∷ contexts)
    by true rest = omega (arith, rest)
    by false rest = omega (arith, rest)

-- What is written for each number is what is written for each context, where the two agree at each context.
pub flat_map-numbers : (path : List ℕ) (f : ℕ → List ℕ) (g : Context → List ℕ) (at : ℕ) (contexts : List Context)
    → ((k : ℕ) (c : Context) → slice_get contexts k ≡ Some c → is_child path c ≡ true → f (at + k) ≡ g c)
    → flat_map f (numbers_from path at contexts) ≡ flat_map g (filter (is_child path) contexts)
flat_map-numbers path f g at [] h = refl
flat_map-numbers path f g at (c ∷ contexts) h =
    let first : is_child path c ≡ true → f at ≡ g c = λ is. ap f (omega arith) ∙ h zero c refl is in
    let rest : flat_map f (numbers_from path (at + 1) contexts) ≡ flat_map g (filter (is_child path) contexts) =
    flat_map-numbers path f g (at + 1) contexts (λ k d found is. ap f (omega arith) ∙ h (suc k) d found is) in
    by (is_child path c) first rest
  where
    by : (b : Bool) → (b ≡ true → f at ≡ g c) → flat_map f (numbers_from path (at + 1) contexts) ≡ flat_map g (filter (is_child path) contexts)
        → flat_map f (cons_option (if b then Some at else None) (numbers_from path (at + 1) contexts)) ≡ flat_map g (if b then c ∷ filter (is_child path) contexts else filter (is_child path) contexts)
    by true first rest = ap (λ t. t ++ flat_map f (numbers_from path (at + 1) contexts)) (first refl) ∙ ap (λ t. g c ++ t) rest
    by false first rest = rest

-- a path one method below another is one longer
pub length-child : (path : List ℕ) (c : Context) → is_child path c ≡ true → length c.path ≡ length path + 1
length-child path c h =
    by (is_outside c.path) refl h
  where
    by : (b : Bool) → is_outside c.path ≡ b → (if b then false else same_path (parent_path c.path) path) ≡ true → length c.path ≡ length path + 1
    by true outside is = cc
    by false inside is =
        let whole : length (parent_path c.path ++ last_method c.path ∷ []) ≡ length c.path = ap length (path-split c.path inside) in
        let parent : length (parent_path c.path) ≡ length path = ap length (same_path-is (parent_path c.path) path is) in
        omega (arith, whole, parent, length_push (parent_path c.path) (last_method c.path))
