-- What an event does to the nodes is what it does to the contexts that they stand for.
use Rattle.std.proofs.Common.{◌≡◌, ℕ, ◌+◌, ◌-◌, ◌<◌, ◌≤◌, Bool, true, false, List, [], ◌∷◌, ◌++◌, refl, ap, sym, ◌∙◌, subst, map, length, get_or, Option, Some, None, IfSome, is_some, if◌then◌else◌, arith}
use Rattle.std.specs.List.{list_any}
use Rattle.std.specs.Option.{option_and_then}
use Rattle.std.proofs.lemmas.List.{append-nil, length_push, length-append, get_or_push}
use Rattle.std.proofs.lemmas.List.Sums.{sum_by_push}
use Rattle.std.proofs.lemmas.Option.{slice_get-get_or}
use Rattle.jvm_model.specs.declared.event.Event.{Event}
use Rattle.jvm_model.specs.declared.event.EventKind.{EventKind}
use Rattle.jvm_model.specs.declared.event.EventKind.TheVariants.{Root, Enter, Leave, Unwind}
use Rattle.jvm_model.specs.Profiling.Paths.{Context, same_path, is_outside}
use Rattle.context_tree.specs.declared.node.Node.{Node}
use Rattle.context_tree.specs.declared.table.NodeTable.{NodeTable}
use Rattle.context_tree.specs.Profiles.{Profile, has_path, parent_path, with_call, path_opened, path_closed, event_told, event_taken}
use Rattle.context_tree.specs.NodeTables.{child_by, changed_at, node_called, node_stepped, own_in, steps_given, fresh, table_grown, entered_at, opened_in, opened_inside, parent_in, closed_in, told_in, taken_in}
use Rattle.context_tree.specs.TreeViews.{path_at, paths_in, contexts_with, contexts_in, profile_in, AreBehind, AreApart, same_node, entries_below, IsTree}
use Rattle.context_tree.proofs.Paths.SamePaths.{is_outside-push, parent_path-push}
use Rattle.context_tree.proofs.Nodes.NodePaths.{GoesOn, LeavesPlace, paths_after-push, paths_after-changed, AreBehind-changed, AreBehind-push, path_at-append, IfSome-below, list_any-position_from}
use Rattle.context_tree.proofs.Nodes.NodeContexts.{contexts_with-push, contexts_with-changed, map-apart, list_any-contexts_with}
use Rattle.context_tree.proofs.Nodes.NodeChildren.{entries_below-push, entries_below-changed}
use Rattle.context_tree.proofs.Events.Giving.{credited_in, told-credited}
use Rattle.context_tree.proofs.Nodes.TreeParts.{length-paths, are_paths, valid_path, child_by-path, goes_on-at, StandsAt, stands_at, length-changed_at, own_in-called, own_in-stepped, LeavesPlace-called, LeavesPlace-stepped, AreApart-push, entries_of-grown, nodes-grown, clock-grown, length-children-grown, entries_of-same}

-- ---- one node changed

-- with one node changed, another open node and another clock, a tree stays one
tree-changed : (t : NodeTable) → IsTree t → (f : Node → Node) → LeavesPlace f → (i : ℕ) (node : Option ℕ) (clock : ℕ) → IfSome node (λ k. k < length t.nodes)
    → own_in (changed_at f i t.nodes) ≤ clock → IsTree (record t { nodes = changed_at f i t.nodes; «open» = node; clock = clock })
tree-changed t tree f leaves i node clock within counted =
    let u : NodeTable = record t { nodes = changed_at f i t.nodes; «open» = node; clock = clock } in
    record {
      behind = AreBehind-changed f leaves 0 i t.nodes tree.behind;
      apart = subst AreApart (sym (paths_after-changed f leaves [] i t.nodes)) tree.apart;
      entries = λ from. entries_of-same t u refl refl from ∙ tree.entries from ∙ sym (entries_below-changed f leaves from 0 i t.nodes);
      lists = tree.lists ∙ sym (length-changed_at f i t.nodes);
      within = subst (λ k. IfSome node (λ j. j < k)) (sym (length-changed_at f i t.nodes)) within;
      counted = counted;
    }

-- ---- steps

pub tree-given : (t : NodeTable) → IsTree t → (node : Option ℕ) (clock : ℕ) → t.clock ≤ clock → IsTree (steps_given node clock t)
tree-given t tree None clock le = record {
  behind = tree.behind;
  apart = tree.apart;
  entries = λ from. entries_of-same t (steps_given None clock t) refl refl from ∙ tree.entries from;
  lists = tree.lists;
  within = tree.within;
  counted = omega (arith, tree.counted);
}
tree-given t tree (Some i) clock le =
    tree-changed t tree (node_stepped (clock - t.clock)) (LeavesPlace-stepped (clock - t.clock)) i t.open clock tree.within (omega (arith, own_in-stepped (clock - t.clock) i t.nodes, tree.counted))

pub profile-given : (t : NodeTable) → IsTree t → (node : Option ℕ) (clock : ℕ) → IfSome node (λ i. i < length t.nodes)
    → profile_in (steps_given node clock t) ≡ credited_in (path_at node (paths_in t.nodes)) clock (profile_in t)
profile-given t tree None clock h =
    let s : ℕ = clock - t.clock in
    ap (λ (l : List Context). record { contexts = l; «open» = path_at t.open (paths_in t.nodes); clock = clock })
    (sym (map-apart [] (λ c. record c { own = c.own + s }) (paths_in t.nodes) t.nodes (are_paths t tree).inside))
profile-given t tree (Some i) clock h =
    let s : ℕ = clock - t.clock in
    let nodes : List Node = changed_at (node_stepped s) i t.nodes in
    let same : paths_in nodes ≡ paths_in t.nodes = paths_after-changed (node_stepped s) (LeavesPlace-stepped s) [] i t.nodes in
    ap (λ (paths : List (List ℕ)). record { contexts = contexts_with paths nodes; «open» = path_at t.open paths; clock = clock }) same
    ∙ ap (λ (l : List Context). record { contexts = l; «open» = path_at t.open (paths_in t.nodes); clock = clock })
    (contexts_with-changed (node_stepped s) (λ c. record c { own = c.own + s }) (λ p n. refl) (paths_in t.nodes) i t.nodes tree.apart (valid_path t tree (Some i) h))

-- ---- events

-- after an event, but for the steps before it
pub record Follows (t : NodeTable) (to : Profile) (u : NodeTable) : Type 0 where
  pub tree : IsTree u
  pub profile : profile_in u ≡ to
  pub more : List (List ℕ)
  pub paths : paths_in u.nodes ≡ paths_in t.nodes ++ more
  pub clock : u.clock ≡ t.clock

module _ (t : NodeTable) (tree : IsTree t) (method : ℕ) where
  abbrev entered_path : List ℕ
  entered_path = path_at t.open (paths_in t.nodes) ++ method ∷ []

  seen : list_any (has_path entered_path) (contexts_in t.nodes) ≡ is_some (child_by t.open method t)
  seen =
      list_any-contexts_with entered_path (paths_in t.nodes) t.nodes (length-paths t tree)
      ∙ list_any-position_from (same_path entered_path) 0 (paths_in t.nodes)
      ∙ ap is_some (sym (child_by-path t tree t.open method tree.within))

  abbrev new_context : Context
  new_context = record { path = entered_path; calls = 1; own = 0 }

  abbrev entered_if : Bool → List Context
  entered_if b = if b then map (with_call entered_path) (contexts_in t.nodes) else contexts_in t.nodes ++ new_context ∷ []

  opened_if : (b : Bool) → is_some (child_by t.open method t) ≡ b → record { contexts = entered_if b; «open» = entered_path; clock = t.clock } ≡ path_opened method (profile_in t)
  opened_if b e = ap (λ c. record { contexts = entered_if c; «open» = entered_path; clock = t.clock }) (sym (seen ∙ e))

  follows_found : (k : ℕ) → child_by t.open method t ≡ Some k → Follows t (path_opened method (profile_in t)) (entered_at (Some k) method t)
  follows_found k h =
      let paths : List (List ℕ) = paths_in t.nodes in
      let nodes : List Node = changed_at node_called k t.nodes in
      let at : StandsAt entered_path k paths = stands_at entered_path k paths (sym (child_by-path t tree t.open method tree.within) ∙ h) in
      let same : paths_in nodes ≡ paths = paths_after-changed node_called LeavesPlace-called [] k t.nodes in
      let within : k < length t.nodes = subst (λ n. k < n) (length-paths t tree) at.within in
      record {
        tree = tree-changed t tree node_called LeavesPlace-called k (Some k) t.clock within (omega (arith, own_in-called k t.nodes, tree.counted));
        profile =
            ap (λ (l : List (List ℕ)). record { contexts = contexts_with l nodes; «open» = get_or l k []; clock = t.clock }) same
            ∙ ap (λ (l : List Context). record { contexts = l; «open» = get_or paths k []; clock = t.clock })
            (contexts_with-changed node_called (λ c. record c { calls = c.calls + 1 }) (λ p n. refl) paths k t.nodes tree.apart at.within)
            ∙ ap (λ (P : List ℕ). record { contexts = map (with_call P) (contexts_in t.nodes); «open» = P; clock = t.clock }) at.at
            ∙ opened_if true (ap is_some h);
        more = [];
        paths = same ∙ sym (append-nil paths);
        clock = refl;
      }

  follows_new : child_by t.open method t ≡ None → Follows t (path_opened method (profile_in t)) (entered_at None method t)
  follows_new h =
      let paths : List (List ℕ) = paths_in t.nodes in
      let n : Node = fresh t.open method in
      let u : NodeTable = entered_at None method t in
      let absent : list_any (same_path entered_path) paths ≡ false =
      list_any-position_from (same_path entered_path) 0 paths ∙ ap is_some (sym (child_by-path t tree t.open method tree.within) ∙ h) in
      let nodes : u.nodes ≡ t.nodes ++ n ∷ [] = nodes-grown t.open method t in
      let longer : paths_in u.nodes ≡ paths ++ entered_path ∷ [] = ap paths_in nodes ∙ paths_after-push [] t.nodes n in
      let parent : IfSome t.open (λ i. i < length t.children) = subst (λ k. IfSome t.open (λ i. i < k)) (sym tree.lists) tree.within in
      let last : length t.nodes < length u.nodes = omega (arith, ap length nodes, length_push t.nodes n) in
      record {
        tree = record {
          behind = subst (AreBehind 0) (sym nodes) (AreBehind-push 0 t.nodes n tree.behind (subst (λ k. IfSome t.open (λ i. i < k)) (omega arith) tree.within));
          apart = subst AreApart (sym longer) (AreApart-push paths entered_path tree.apart absent);
          entries = λ from.
              entries_of-same (table_grown t.open method t) u refl refl from ∙ entries_of-grown from t.open method t parent
              ∙ ap (λ l. l ++ (if same_node from t.open then (method, length t.nodes) ∷ [] else [])) (tree.entries from)
              ∙ ap (λ k. entries_below from 0 t.nodes ++ (if same_node from t.open then (method, k) ∷ [] else [])) (omega arith)
              ∙ sym (ap (entries_below from 0) nodes ∙ entries_below-push from 0 t.nodes n);
          lists = length-children-grown t.open method t ∙ ap (λ k. k + 1) tree.lists ∙ sym (ap length nodes ∙ length_push t.nodes n);
          within = last;
          counted = omega (arith, ap own_in nodes, sum_by_push (λ (m : Node). m.own) t.nodes n, clock-grown t.open method t, tree.counted);
        };
        profile =
            ap (λ (l : List (List ℕ)). record { contexts = contexts_with l u.nodes; «open» = get_or l (length t.nodes) []; clock = u.clock }) longer
            ∙ ap (λ (l : List Node). record { contexts = contexts_with (paths ++ entered_path ∷ []) l; «open» = get_or (paths ++ entered_path ∷ []) (length t.nodes) []; clock = u.clock }) nodes
            ∙ ap (λ (l : List Context). record { contexts = l; «open» = get_or (paths ++ entered_path ∷ []) (length t.nodes) []; clock = u.clock })
            (contexts_with-push paths t.nodes entered_path n (length-paths t tree))
            ∙ ap (λ (P : List ℕ). record { contexts = entered_if false; «open» = P; clock = u.clock }) (get_or_push paths entered_path [] (length t.nodes) (length-paths t tree))
            ∙ ap (λ (k : ℕ). record { contexts = entered_if false; «open» = entered_path; clock = k }) (clock-grown t.open method t)
            ∙ opened_if false (ap is_some h);
        more = entered_path ∷ [];
        paths = longer;
        clock = clock-grown t.open method t;
      }

  follows_opened : Follows t (path_opened method (profile_in t)) (opened_in method t)
  follows_opened = by (child_by t.open method t) refl
    where
      by : (r : Option ℕ) → child_by t.open method t ≡ r → Follows t (path_opened method (profile_in t)) (opened_in method t)
      by None h = subst (λ r. Follows t (path_opened method (profile_in t)) (entered_at r method t)) (sym h) (follows_new h)
      by (Some k) h = subst (λ r. Follows t (path_opened method (profile_in t)) (entered_at r method t)) (sym h) (follows_found k h)

follows_same : (t : NodeTable) → IsTree t → Follows t (profile_in t) t
follows_same t tree = record { tree = tree; profile = refl; more = []; paths = sym (append-nil (paths_in t.nodes)); clock = refl }

-- the parent of a node is a node or none, with the parent's path
parent-at : (t : NodeTable) → IsTree t → (node : Option ℕ) → IfSome node (λ i. i < length t.nodes)
    → IfSome (parent_in t.nodes node) (λ i. i < length t.nodes) × (path_at (parent_in t.nodes node) (paths_in t.nodes) ≡ parent_path (path_at node (paths_in t.nodes)))
parent-at t tree None h = (tt, refl)
parent-at t tree (Some i) h =
    let n : Node = get_or t.nodes i (fresh None 0) in
    let here : parent_in t.nodes (Some i) ≡ n.parent = ap (option_and_then (λ (m : Node). m.parent)) (slice_get-get_or t.nodes i (fresh None 0) h) in
    let goes : GoesOn (paths_in t.nodes) (get_or (paths_in t.nodes) i []) n = goes_on-at t tree i (fresh None 0) h in (
      subst (λ q. IfSome q (λ j. j < length t.nodes)) (sym here) (subst (λ k. IfSome n.parent (λ j. j < k)) (length-paths t tree) goes.1),
      ap (λ q. path_at q (paths_in t.nodes)) here ∙ sym (ap parent_path goes.0 ∙ parent_path-push (path_at n.parent (paths_in t.nodes)) n.method),
    )

follows_closed : (t : NodeTable) → IsTree t → Follows t (path_closed (profile_in t)) (closed_in t)
follows_closed t tree =
    let above = parent-at t tree t.open tree.within in
    record {
      tree = record {
        behind = tree.behind;
        apart = tree.apart;
        entries = λ from. entries_of-same t (closed_in t) refl refl from ∙ tree.entries from;
        lists = tree.lists;
        within = above.0;
        counted = tree.counted;
      };
      profile = ap (λ (P : List ℕ). record { contexts = contexts_in t.nodes; «open» = P; clock = t.clock }) above.1;
      more = [];
      paths = sym (append-nil (paths_in t.nodes));
      clock = refl;
    }

-- another method's entry opens one where a node is open
follows_inside : (t : NodeTable) → IsTree t → (method : ℕ) (node : Option ℕ) → t.open ≡ node
    → Follows t (if is_outside (path_at t.open (paths_in t.nodes)) then profile_in t else path_opened method (profile_in t)) (opened_inside node method t)
follows_inside t tree method None e =
    subst (λ p. Follows t p t) (sym (ap (λ q. if is_outside (path_at q (paths_in t.nodes)) then profile_in t else path_opened method (profile_in t)) e)) (follows_same t tree)
follows_inside t tree method (Some i) e =
    let lt : i < length t.nodes = subst (λ q. IfSome q (λ j. j < length t.nodes)) e tree.within in
    let goes : GoesOn (paths_in t.nodes) (get_or (paths_in t.nodes) i []) (get_or t.nodes i (fresh None 0)) = goes_on-at t tree i (fresh None 0) lt in
    let n : Node = get_or t.nodes i (fresh None 0) in
    let inside : is_outside (path_at t.open (paths_in t.nodes)) ≡ false =
    ap (λ q. is_outside (path_at q (paths_in t.nodes))) e ∙ ap is_outside goes.0 ∙ is_outside-push (path_at n.parent (paths_in t.nodes)) n.method in
    subst (λ p. Follows t p (opened_in method t)) (sym (ap (λ b. if b then profile_in t else path_opened method (profile_in t)) inside)) (follows_opened t tree method)

pub follows_told : (t : NodeTable) → IsTree t → (kind : EventKind) (method : ℕ) → Follows t (event_told kind method (profile_in t)) (told_in kind method t)
follows_told t tree Root method = follows_opened t tree method
follows_told t tree Enter method = follows_inside t tree method t.open refl
follows_told t tree Leave method = follows_closed t tree
follows_told t tree Unwind method = follows_closed t tree

-- ---- an event and the steps before it

pub record Taken (t : NodeTable) (e : Event) : Type 0 where
  pub tree : IsTree (taken_in t e)
  pub profile : profile_in (taken_in t e) ≡ event_taken (profile_in t) e

pub taken_is : (t : NodeTable) → IsTree t → (e : Event) → t.clock ≤ e.clock → Taken t e
taken_is t tree e le =
    let u : NodeTable = told_in e.kind e.method t in
    let f : Follows t (event_told e.kind e.method (profile_in t)) u = follows_told t tree e.kind e.method in
    let later : u.clock ≤ e.clock = omega (arith, f.clock, le) in
    let open_path : path_at t.open (paths_in u.nodes) ≡ path_at t.open (paths_in t.nodes) =
    ap (path_at t.open) f.paths ∙ path_at-append t.open (paths_in t.nodes) f.more (valid_path t tree t.open tree.within) in
    let more : length t.nodes ≤ length u.nodes =
    omega (arith, length-paths t tree, length-paths u f.tree, ap length f.paths, length-append (paths_in t.nodes) f.more) in
    record {
      tree = tree-given u f.tree t.open e.clock later;
      profile =
          profile-given u f.tree t.open e.clock (IfSome-below t.open (length t.nodes) (length u.nodes) more tree.within)
          ∙ ap (λ P. credited_in P e.clock (profile_in u)) open_path
          ∙ ap (credited_in (path_at t.open (paths_in t.nodes)) e.clock) f.profile
          ∙ sym (told-credited e.kind e.method e.clock (profile_in t));
    }
