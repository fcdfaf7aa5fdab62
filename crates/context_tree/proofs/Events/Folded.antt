-- The fold of events and the count of the whole list come to the same contexts.
use Rattle.std.proofs.Common.{◌≡◌, ℕ, ◌-◌, Bool, true, false, not, List, [], ◌∷◌, ◌++◌, refl, ap, sym, ◌∙◌, subst, filter, count_by, cond, fold, replicate, if◌then◌else◌, arith}
use Rattle.std.specs.List.{list_any}
use Rattle.std.proofs.lemmas.Bool.{or_parts, or_left, or_right, true≢false}
use Rattle.std.proofs.lemmas.List.{append-nil, append_assoc, same_from_push}
use Rattle.std.proofs.lemmas.List.Folds.{list_any-append}
use Rattle.std.proofs.lemmas.List.Sums.{sum_by-append}
use Rattle.jvm_model.specs.declared.event.Event.{Event}
use Rattle.jvm_model.specs.declared.event.EventKind.{EventKind}
use Rattle.jvm_model.specs.declared.event.EventKind.TheVariants.{Root, Enter, Leave, Unwind}
use Rattle.jvm_model.specs.Profiling.Paths.{Context, same_path, is_outside, is_inside, distinct, contexts_of}
use Rattle.context_tree.specs.Profiles.{Profile, parent_path, last_method, steps_credited, path_opened, event_told, event_taken}
use Rattle.context_tree.specs.Counts.{path_by, path_after, opens, paths_opened, paths_stepped, AreInOrder}
use Rattle.context_tree.specs.Laws.{FoldsToCounts}
use Rattle.context_tree.proofs.Paths.SamePaths.{same_path-is, same_path-refl, is_outside-cons, is_outside-push, path-split}
use Rattle.context_tree.proofs.Events.Counted.{map-with_own, count_by-replicate, call_begun-contexts_of}

-- each path on the way from outside to this one, and it itself, was begun
pub record IsBegun (begun : List (List ℕ)) (path : List ℕ) : Type 0 where
  pub each : (front rest : List ℕ) → path ≡ front ++ rest → is_outside front ≡ false → list_any (same_path front) begun ≡ true

-- steps were made in no path that was not begun
pub record AreOfBegun (begun made : List (List ℕ)) : Type 0 where
  pub none : (q : List ℕ) → is_outside q ≡ false → list_any (same_path q) begun ≡ false → count_by (same_path q) made ≡ 0

outside-nil : (p : List ℕ) → is_outside p ≡ true → p ≡ []
outside-nil [] h = refl
outside-nil (x ∷ p) h = absurd (true≢false (sym h ∙ is_outside-cons x p))

IsBegun-blank : IsBegun [] []
IsBegun-blank = record { each = by }
  where
    by : (front rest : List ℕ) → [] ≡ front ++ rest → is_outside front ≡ false → list_any (same_path front) [] ≡ true
    by [] rest e h = absurd (true≢false h)
    by (x ∷ front) rest e h = cc

AreOfBegun-blank : AreOfBegun [] []
AreOfBegun-blank = record { none = λ q h k. refl }

IsBegun-push : (begun : List (List ℕ)) (path : List ℕ) (m : ℕ) → IsBegun begun path → IsBegun (begun ++ (path ++ m ∷ []) ∷ []) (path ++ m ∷ [])
IsBegun-push begun path m h = record { each = λ front rest e inside. by front rest e inside (is_outside rest) refl }
  where
    by : (front rest : List ℕ) → path ++ m ∷ [] ≡ front ++ rest → is_outside front ≡ false → (b : Bool) → is_outside rest ≡ b
        → list_any (same_path front) (begun ++ (path ++ m ∷ []) ∷ []) ≡ true
    by front rest e inside true o =
        let all : path ++ m ∷ [] ≡ front = e ∙ ap (λ r. front ++ r) (outside-nil rest o) ∙ append-nil front in
        let same : same_path front (path ++ m ∷ []) ≡ true = ap (same_path front) all ∙ same_path-refl front in
        list_any-append (same_path front) begun ((path ++ m ∷ []) ∷ []) ∙ or_right _ _ (or_left _ false same)
    by front rest e inside false o =
        let longer : path ++ m ∷ [] ≡ (front ++ parent_path rest) ++ last_method rest ∷ [] =
        e ∙ ap (λ r. front ++ r) (sym (path-split rest o)) ∙ sym (append_assoc front (parent_path rest) (last_method rest ∷ [])) in
        let shorter = same_from_push path (front ++ parent_path rest) m (last_method rest) longer in
        list_any-append (same_path front) begun ((path ++ m ∷ []) ∷ []) ∙ or_left _ _ (h.each front (parent_path rest) shorter.0 inside)

IsBegun-parent : (begun : List (List ℕ)) (path : List ℕ) → IsBegun begun path → IsBegun begun (parent_path path)
IsBegun-parent begun path h = by (is_outside path) refl
  where
    by : (b : Bool) → is_outside path ≡ b → IsBegun begun (parent_path path)
    by true o = subst (IsBegun begun) (outside-nil path o ∙ ap parent_path (sym (outside-nil path o))) h
    by false o = record {
      each = λ front rest e inside. h.each front (rest ++ last_method path ∷ [])
          (sym (path-split path o) ∙ ap (λ r. r ++ last_method path ∷ []) e ∙ append_assoc front rest (last_method path ∷ [])) inside;
    }

-- the steps since the last clock were made in the open path
AreOfBegun-steps : (begun made : List (List ℕ)) (path : List ℕ) (n : ℕ) → IsBegun begun path → AreOfBegun begun made → AreOfBegun begun (made ++ replicate n path)
AreOfBegun-steps begun made path n way of = record { none = λ q inside new. by q inside new (same_path q path) refl }
  where
    by : (q : List ℕ) → is_outside q ≡ false → list_any (same_path q) begun ≡ false → (b : Bool) → same_path q path ≡ b → count_by (same_path q) (made ++ replicate n path) ≡ 0
    by q inside new true e =
        let there : list_any (same_path q) begun ≡ true = way.each q [] (sym (same_path-is q path e) ∙ sym (append-nil q)) inside in
        absurd (true≢false (sym there ∙ new))
    by q inside new false e =
        let last : count_by (same_path q) (replicate n path) ≡ 0 = count_by-replicate q path n ∙ ap (λ b. if b then n else 0) e in
        sum_by-append (λ x. cond (same_path q x) 1 0) made (replicate n path) ∙ omega (arith, of.none q inside new, last)

AreOfBegun-more : (begun made more : List (List ℕ)) → AreOfBegun begun made → AreOfBegun (begun ++ more) made
AreOfBegun-more begun made more of = record {
  none = λ q inside new. of.none q inside (or_parts (list_any (same_path q) begun) (list_any (same_path q) more) (sym (list_any-append (same_path q) begun more) ∙ new)).0;
}

-- ---- one event

-- the contexts that are counted from these paths
abbrev profile_at : List (List ℕ) → List (List ℕ) → List ℕ → ℕ → Profile
profile_at begun made path clock = record { contexts = contexts_of begun made; «open» = path; clock = clock }

-- the path that an event opens, or none
abbrev opening : List ℕ → EventKind → ℕ → List (List ℕ)
opening path kind method = if opens path kind then path_by kind method path ∷ [] else []

record Goes (kind : EventKind) (method : ℕ) (begun made : List (List ℕ)) (path : List ℕ) (clock : ℕ) : Type 0 where
  to : event_told kind method (profile_at begun made path clock) ≡ profile_at (begun ++ opening path kind method) made (path_by kind method path) clock
  begins : IsBegun (begun ++ opening path kind method) (path_by kind method path)

goes_opened : (method : ℕ) (begun made : List (List ℕ)) (path : List ℕ) (clock : ℕ) → IsBegun begun path → AreOfBegun begun made
    → path_opened method (profile_at begun made path clock) ≡ profile_at (begun ++ (path ++ method ∷ []) ∷ []) made (path ++ method ∷ []) clock
goes_opened method begun made path clock way of =
    let inside = is_outside-push path method in
    ap (λ (l : List Context). record { contexts = l; «open» = path ++ method ∷ []; clock = clock })
    (call_begun-contexts_of (path ++ method ∷ []) begun made inside (of.none (path ++ method ∷ []) inside))

stays : (begun made : List (List ℕ)) (path : List ℕ) (clock : ℕ) → profile_at begun made path clock ≡ profile_at (begun ++ []) made path clock
stays begun made path clock = ap (λ (l : List (List ℕ)). profile_at l made path clock) (sym (append-nil begun))

IsBegun-nil : (begun : List (List ℕ)) (path : List ℕ) → IsBegun begun path → IsBegun (begun ++ []) path
IsBegun-nil begun path way = subst (λ l. IsBegun l path) (sym (append-nil begun)) way

-- another method's entry, outside (b) or inside
abbrev path_entered : Bool → List ℕ → ℕ → List ℕ
path_entered b path method = if b then path else path ++ method ∷ []

abbrev begun_entered : Bool → List ℕ → ℕ → List (List ℕ)
begun_entered b path method = if not b then path_entered b path method ∷ [] else []

goes_entered : (b : Bool) (method : ℕ) (begun made : List (List ℕ)) (path : List ℕ) (clock : ℕ) → IsBegun begun path → AreOfBegun begun made
    → (if b then profile_at begun made path clock else path_opened method (profile_at begun made path clock)) ≡ profile_at (begun ++ begun_entered b path method) made (path_entered b path method) clock
goes_entered true method begun made path clock way of = stays begun made path clock
goes_entered false method begun made path clock way of = goes_opened method begun made path clock way of

IsBegun-entered : (b : Bool) (method : ℕ) (begun : List (List ℕ)) (path : List ℕ) → IsBegun begun path → IsBegun (begun ++ begun_entered b path method) (path_entered b path method)
IsBegun-entered true method begun path way = IsBegun-nil begun path way
IsBegun-entered false method begun path way = IsBegun-push begun path method way

goes : (kind : EventKind) (method : ℕ) (begun made : List (List ℕ)) (path : List ℕ) (clock : ℕ) → IsBegun begun path → AreOfBegun begun made → Goes kind method begun made path clock
goes Root method begun made path clock way of = record { to = goes_opened method begun made path clock way of; begins = IsBegun-push begun path method way }
goes Enter method begun made path clock way of = record {
  to = goes_entered (is_outside path) method begun made path clock way of;
  begins = IsBegun-entered (is_outside path) method begun path way;
}
goes Leave method begun made path clock way of = record {
  to = stays begun made (parent_path path) clock;
  begins = IsBegun-nil begun (parent_path path) (IsBegun-parent begun path way);
}
goes Unwind method begun made path clock way of = record {
  to = stays begun made (parent_path path) clock;
  begins = IsBegun-nil begun (parent_path path) (IsBegun-parent begun path way);
}

-- ---- all events

credited_at : (begun made : List (List ℕ)) (path : List ℕ) (clock to : ℕ)
    → steps_credited to (profile_at begun made path clock) ≡ profile_at begun (made ++ replicate (to - clock) path) path to
credited_at begun made path clock to =
    ap (λ (l : List Context). record { contexts = l; «open» = path; clock = to }) (map-with_own begun made path (to - clock) (distinct (filter is_inside begun)))

opened_first : (b : Bool) (next : List ℕ) (rest : List (List ℕ)) → (if b then next ∷ rest else rest) ≡ (if b then next ∷ [] else []) ++ rest
opened_first true next rest = refl
opened_first false next rest = refl

folds : (events : List Event) (begun made : List (List ℕ)) (path : List ℕ) (clock last : ℕ) → IsBegun begun path → AreOfBegun begun made → AreInOrder clock events last
    → (steps_credited last (fold event_taken (profile_at begun made path clock) events)).contexts ≡ contexts_of (begun ++ paths_opened path events) (made ++ paths_stepped path clock events last)
folds [] begun made path clock last way of order =
    ap (λ (p : Profile). p.contexts) (credited_at begun made path clock last) ∙ ap (λ l. contexts_of l (made ++ replicate (last - clock) path)) (sym (append-nil begun))
folds (e ∷ events) begun made path clock last way of order =
    ap (λ (p : Profile). (steps_credited last (fold event_taken p events)).contexts) here
    ∙ folds events (begun ++ opening path e.kind e.method) more (path_after path e) e.clock last next.begins (AreOfBegun-more begun more (opening path e.kind e.method) of_more) order.1
    ∙ ap (λ l. contexts_of l (more ++ paths_stepped (path_after path e) e.clock events last)) begun_all
    ∙ ap (λ l. contexts_of (begun ++ paths_opened path (e ∷ events)) l) (append_assoc made (replicate (e.clock - clock) path) (paths_stepped (path_after path e) e.clock events last))
  where
    more : List (List ℕ)
    more = made ++ replicate (e.clock - clock) path

    of_more : AreOfBegun begun more
    of_more = AreOfBegun-steps begun made path (e.clock - clock) way of

    next : Goes e.kind e.method begun more path e.clock
    next = goes e.kind e.method begun more path e.clock way of_more

    here : event_taken (profile_at begun made path clock) e ≡ profile_at (begun ++ opening path e.kind e.method) more (path_after path e) e.clock
    here = ap (event_told e.kind e.method) (credited_at begun made path clock e.clock) ∙ next.to

    begun_all : (begun ++ opening path e.kind e.method) ++ paths_opened (path_after path e) events ≡ begun ++ paths_opened path (e ∷ events)
    begun_all = append_assoc begun (opening path e.kind e.method) (paths_opened (path_after path e) events)
        ∙ ap (λ l. begun ++ l) (sym (opened_first (opens path e.kind) (path_after path e) (paths_opened (path_after path e) events)))

pub folds_to_counts : FoldsToCounts
folds_to_counts events clock order = folds events [] [] [] 0 clock IsBegun-blank AreOfBegun-blank order
