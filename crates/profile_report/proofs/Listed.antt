-- The lines that the program writes are those of the contexts, depth first.
use Rattle.std.proofs.Common.{◌≡◌, ℕ, zero, suc, ◌+◌, ◌-◌, ◌<◌, true, List, [], ◌∷◌, ◌++◌, refl, ap, sym, ◌∙◌, length, take, get_or, codes, ◌≤◌, Option, None, Some, slice_get, arith}
use Rattle.std.specs.List.{flat_map}
use Rattle.std.specs.Option.{option_map_or}
use Rattle.std.proofs.lemmas.Grind.{flat_map-append}
use Rattle.std.proofs.lemmas.List.{append_assoc, flat_map_more, take_all, take_more}
use Rattle.std.proofs.lemmas.Option.{get_or_from_slice_get, slice_get_within}
use Rattle.jvm_model.specs.declared.program.Program.{Program}
use Rattle.jvm_model.specs.Profiling.Paths.{Context}
use Rattle.context_tree.specs.Profiles.{children_of, is_child, last_method, path_of_node, total_of}
use Rattle.profile_report.specs.Nodes.{lines_below, lines_from, node_line}
use Rattle.profile_report.specs.Reports.{below, context_line, line_text, contexts_listed, tree_text}
use Rattle.profile_report.proofs.Children.{flat_map-numbers, length-child, length-numbers}

flat_map-flat_map : {X Y A : Type 0} (f : Y → List A) (g : X → List Y) (xs : List X) → flat_map f (flat_map g xs) ≡ flat_map (λ x. flat_map f (g x)) xs
flat_map-flat_map f g [] = refl
flat_map-flat_map f g (x ∷ xs) = flat_map-append f (g x) (flat_map g xs) ∙ ap (λ t. flat_map f (g x) ++ t) (flat_map-flat_map f g xs)

module _ (program : Program) (contexts : List Context) where
  -- the line of a node at its own level
  node_line-context : (path : List ℕ) (i : ℕ) (c : Context) → slice_get contexts i ≡ Some c → is_child path c ≡ true → node_line program contexts (length path) i ≡ context_line program contexts c
  node_line-context path i c found is =
      let level : length path ≡ length c.path - 1 = omega (arith, length-child path c is) in
      ap (λ o. option_map_or (λ (d : Context). line_text program (length path) d.calls d.own (total_of d.path contexts) (last_method d.path)) o []) found
      ∙ ap (λ l. line_text program l c.calls c.own (total_of c.path contexts) (last_method c.path)) level

  pub lines_below-listed : (levels : ℕ) (from : Option ℕ)
      → lines_below program contexts levels (length (path_of_node from contexts)) from ≡ flat_map (context_line program contexts) (contexts_listed levels contexts (path_of_node from contexts))
  lines_below-listed zero from = refl
  lines_below-listed (suc levels) from =
      let path : List ℕ = path_of_node from contexts in
      flat_map-numbers path
      (λ i. node_line program contexts (length path) i ++ lines_below program contexts levels (length path + 1) (Some i))
      (λ c. flat_map (context_line program contexts) (c ∷ contexts_listed levels contexts c.path))
      0 contexts
      (λ k c found is.
      let first : 0 + k ≡ k = omega arith in
      let there : path_of_node (Some k) contexts ≡ c.path = ap (λ o. option_map_or (λ (d : Context). d.path) o []) found in
      let deeper : length path + 1 ≡ length (path_of_node (Some k) contexts) = sym (ap length there ∙ length-child path c is) in
      ap (λ i. node_line program contexts (length path) i ++ lines_below program contexts levels (length path + 1) (Some i)) first
      ∙ ap (λ t. t ++ lines_below program contexts levels (length path + 1) (Some k)) (node_line-context path k c found is)
      ∙ ap (λ t. context_line program contexts c ++ t)
      (ap (λ l. lines_below program contexts levels l (Some k)) deeper
      ∙ lines_below-listed levels (Some k)
      ∙ ap (λ p. flat_map (context_line program contexts) (contexts_listed levels contexts p)) there))
      ∙ sym (flat_map-flat_map (context_line program contexts) (λ (c : Context). c ∷ contexts_listed levels contexts c.path) (below contexts path))

-- ---- the loop over the children of a node

-- a child's place is one of its parent's children, of which there are no more than contexts
pub record IsPlaced (path : List ℕ) (contexts : List Context) (place : ℕ) : Type 0 where
  pub within : place < length (children_of path contexts)
  pub counted : length (children_of path contexts) ≤ length contexts

pub is_placed : (path : List ℕ) (contexts : List Context) (place i : ℕ) → Some i ≡ slice_get (children_of path contexts) place → IsPlaced path contexts place
is_placed path contexts place i found = record {
  within = slice_get_within (children_of path contexts) place i (sym found);
  counted = length-numbers path 0 contexts;
}

-- one child more
pub one_more : (f : ℕ → List ℕ) (children : List ℕ) (place i : ℕ) (o x y z a b : List ℕ) → Some i ≡ slice_get children place
    → x ≡ o ++ flat_map f (take place children) → y ≡ x ++ a → z ≡ y ++ b → f i ≡ a ++ b → z ≡ o ++ flat_map f (take (place + 1) children)
one_more f children place i o x y z a b found p q r both =
    let within : place < length children = slice_get_within children place i (sym found) in
    let last : get_or children place 0 ≡ i = get_or_from_slice_get children place i 0 (sym found) in
    let more : take (place + 1) children ≡ take place children ++ i ∷ [] = take_more children place 0 within ∙ ap (λ j. take place children ++ j ∷ []) last in
    let text : z ≡ (o ++ flat_map f (take place children)) ++ f i =
    r ∙ ap (λ t. t ++ b) (q ∙ ap (λ t. t ++ a) p) ∙ append_assoc (o ++ flat_map f (take place children)) a b ∙ ap (λ t. (o ++ flat_map f (take place children)) ++ t) (sym both) in
    text ∙ flat_map_more f o (take place children) i ∙ ap (λ l. o ++ flat_map f l) (sym more)

past_end : (children : List ℕ) (place : ℕ) → slice_get children place ≡ None → length children ≤ place
past_end [] place h = omega arith
past_end (i ∷ children) zero h = cc
past_end (i ∷ children) (suc place) h = let rest : length children ≤ place = past_end children place h in omega (arith, rest)

-- all children
pub all_done : (program : Program) (contexts : List Context) (level : ℕ) (from : Option ℕ) (place : ℕ) (o x : List ℕ) → level < length contexts
    → None ≡ slice_get (children_of (path_of_node from contexts) contexts) place
    → x ≡ o ++ flat_map (lines_from program contexts (length contexts - (level + 1)) level) (take place (children_of (path_of_node from contexts) contexts))
    → x ≡ o ++ lines_below program contexts (length contexts - level) level from
all_done program contexts level from place o x deep found p =
    let children : List ℕ = children_of (path_of_node from contexts) contexts in
    let levels : length contexts - level ≡ suc (length contexts - (level + 1)) = omega (arith, deep) in
    p ∙ ap (λ l. o ++ flat_map (lines_from program contexts (length contexts - (level + 1)) level) l) (take_all place children (past_end children place (sym found)))
    ∙ ap (λ n. o ++ lines_below program contexts n level from) (sym levels)

-- the whole tree
pub whole_tree : (program : Program) (contexts : List Context) (o x y : List ℕ) → x ≡ o ++ codes "tree\n"
    → y ≡ x ++ lines_below program contexts (length contexts - 0) 0 None → y ≡ o ++ tree_text program contexts
whole_tree program contexts o x y p q =
    let levels : length contexts - 0 ≡ length contexts = omega arith in
    q ∙ ap (λ t. t ++ lines_below program contexts (length contexts - 0) 0 None) p
    ∙ append_assoc o (codes "tree\n") (lines_below program contexts (length contexts - 0) 0 None)
    ∙ ap (λ n. o ++ (codes "tree\n" ++ lines_below program contexts n 0 None)) levels
    ∙ ap (λ t. o ++ (codes "tree\n" ++ t)) (lines_below-listed program contexts (length contexts) None)
