-- What is kept at every point of a run: profiled live activations are entered, and each activation began in a version
-- that suits it.
use Rattle.std.proofs.Common.{◌≡◌, ℕ, zero, suc, ◌<◌, ◌≤◌, Bool, true, false, not, ◌||◌, ◌&&◌, List, [], ◌∷◌, ◌++◌, length, Some, None, slice_get, slice_set, if◌then◌else◌, refl, sym, ap, ap₂, subst, ◌∙◌, eqb-true, inl, inr, arith}
use Rattle.std.specs.Prelude.{fold, filter, map, nat_le, ◌-◌, ◌==◌}
use Rattle.std.specs.List.{AllByRecursion, list_any}
use Rattle.std.specs.Option.{option_map_or}
use Rattle.std.proofs.lemmas.Bool.{cond-true, ne_eqb, eq-eqb, cases_eq, false≢true, or_right, lt-leb, le-leb, leb-true, leb-false as below}
use Rattle.std.proofs.lemmas.List.{append-nil, append_assoc, length_push}
use Rattle.std.proofs.lemmas.Option.{none-some, same_Some, slice_get_within}
use Rattle.jf_bytes.proofs.Tests.{equals_itself}
use Rattle.jvm_model.specs.declared.event.Act.{Act}
use Rattle.jvm_model.specs.declared.event.Mark.{Mark}
use Rattle.jvm_model.specs.declared.event.Mark.TheVariants.{Off, Plain, Root}
use Rattle.jvm_model.specs.Basis.Data.{Program, Change, Loads, Began, Left, Unwound, Local, Operation, World}
use Rattle.jvm_model.specs.Profiling.Activations.{Activation, Trace, current, without_current, with_end, trace_changed, all_changed, trace, trace_before, trace_in-zero, trace_in-suc}
use Rattle.jvm_model.specs.Running.Changes.{EndThenBegin, AreOrdered}
use Rattle.jvm_model.specs.Profiling.EventLists.{Marking}
use Rattle.jvm_model.specs.Classes.Load.{is_among}
use Rattle.jvm_model.specs.Codes.Originals.{original}
use Rattle.jvm_model.specs.Profiling.Paths.{is_inside}
use Rattle.jvm_model.specs.Profiling.Projection.{is_root, is_selected, path_at}
use Rattle.jvm_model.specs.Running.Run.{run, turn}
use Rattle.jvm_model.proofs.Events.Chains.{slice_get-append_left, slice_get_at, IsBelow, is_inside-cons, path_in, paths_of-ended, path_at-push, path_at-last, path_at-found}
use Rattle.jvm_model.proofs.Events.Order.{run-ordered}
use Rattle.jvm_model.proofs.Events.Traces.{IsLive, AreLive, IsTrace, no_trace-is, changed-keeps, ended_in, ended_at-found, live_methods, changed-methods, method_at}
use Rattle.jvm_model.proofs.Events.TracesFrames.{live-frames}
use Rattle.jvm_model.specs.Soundness.Calls.{AreFrom, IsCalled, AreCalled, loads_of, loaded_before, methods_before, IsTold}
use Rattle.jvm_model.specs.Profiling.Points.{Standing, nothing, has_root, is_empty, is_quiet, standing_settled, methods_selected, after_act, after_acts, acts_at, acts_behind, is_profiled, with_entered, after_change, after_changes, standing_in, standing_in-zero, standing_in-suc, has_class, is_target, mark_in, before_begin, marking_in}
use Rattle.jvm_model.specs.Soundness.Suited.{Suits, AreSuited, StaySuited}
use Rattle.jvm_model.specs.Profiling.Targets.{targets_in}

-- ---- lists of methods

abbrev All : List ℕ → List ℕ → Type 0
All entered path = AllByRecursion (λ m. is_among m entered ≡ true) path

among-more : (x y : ℕ) (xs : List ℕ) → is_among x xs ≡ true → is_among x (y ∷ xs) ≡ true
among-more x y xs e = or_right (x == y) (is_among x xs) e

all-more : (y : ℕ) (entered path : List ℕ) → All entered path → All (y ∷ entered) path
all-more y entered [] all = tt
all-more y entered (m ∷ path) all = (among-more m y entered all.0, all-more y entered path all.1)

all-push : (entered path : List ℕ) (m : ℕ) → All entered path → is_among m entered ≡ true → All entered (path ++ m ∷ [])
all-push entered [] m all there = (there, tt)
all-push entered (x ∷ path) m all there = (all.0, all-push entered path m all.1 there)

all-front : (entered path : List ℕ) (m : ℕ) → All entered (path ++ m ∷ []) → All entered path
all-front entered [] m all = tt
all-front entered (x ∷ path) m all = (all.0, all-front entered path m all.1)

all-last : (entered path : List ℕ) (m : ℕ) → All entered (path ++ m ∷ []) → is_among m entered ≡ true
all-last entered [] m all = all.0
all-last entered (x ∷ path) m all = all-last entered path m all.1

is_inside-push : (path : List ℕ) (m : ℕ) → is_inside (path ++ m ∷ []) ≡ true
is_inside-push [] m = is_inside-cons m []
is_inside-push (n ∷ path) m = is_inside-cons n (path ++ m ∷ [])

any-among : (f : ℕ → Bool) (x : ℕ) (xs : List ℕ) → is_among x xs ≡ true → f x ≡ true → list_any f xs ≡ true
any-among f x [] there is = absurd (false≢true there)
any-among f x (y ∷ xs) there is = by (x == y) refl there (λ h. any-among f x xs h is)
  where
    by : (b : Bool) → (x == y) ≡ b → (b || is_among x xs) ≡ true → (is_among x xs ≡ true → list_any f xs ≡ true) → (f y || list_any f xs) ≡ true
    by true same h rest = ap (λ b. b || list_any f xs) (ap f (sym (eqb-true x y same)) ∙ is)
    by false other h rest = or_right (f y) (list_any f xs) (rest h)

-- ---- actions

-- what an action makes of a method's selection
abbrev pub set_by : ℕ → Bool → Act → Bool
set_by method now act = if act.method == method then act.select else now

among-others : (x y : ℕ) (xs : List ℕ) → is_among x (filter (λ m. not (m == y)) xs) ≡ (if y == x then false else is_among x xs)
among-others x y [] = by (y == x)
  where
    by : (b : Bool) → false ≡ (if b then false else false)
    by true = refl
    by false = refl
among-others x y (z ∷ xs) = by (z == y) refl (among-others x y xs)
  where
    among_if : Bool → Bool
    among_if b = is_among x (if not b then z ∷ filter (λ m. not (m == y)) xs else filter (λ m. not (m == y)) xs)

    -- z is y
    same : z ≡ y → (b : Bool) → (y == x) ≡ b → (if b then false else is_among x xs) ≡ (if b then false else (x == z || is_among x xs))
    same e true is = refl
    same e false is = sym (ap (λ c. c || is_among x xs) (ne_eqb x z (λ x_z. absurd (false≢true (sym is ∙ eq-eqb y x (sym e ∙ sym x_z))))))

    -- z is another one
    other : (z ≡ y → ⊥) → (b : Bool) → (y == x) ≡ b → (x == z || (if b then false else is_among x xs)) ≡ (if b then false else (x == z || is_among x xs))
    other ne true is = ap (λ c. c || false) (ne_eqb x z (λ x_z. ne (sym x_z ∙ sym (eqb-true y x is))))
    other ne false is = refl

    by : (b : Bool) → (z == y) ≡ b → is_among x (filter (λ m. not (m == y)) xs) ≡ (if y == x then false else is_among x xs)
        → is_among x (if not b then z ∷ filter (λ m. not (m == y)) xs else filter (λ m. not (m == y)) xs) ≡ (if y == x then false else (x == z || is_among x xs))
    by true e rest = rest ∙ same (eqb-true z y e) (y == x) refl
    by false e rest = ap (λ b. x == z || b) rest ∙ other (λ z_y. false≢true (sym e ∙ eq-eqb z y z_y)) (y == x) refl

pub among-chosen : (act : Act) (selected : List ℕ) (m : ℕ) → is_among m (methods_selected act selected) ≡ set_by m (is_among m selected) act
among-chosen act selected m = by act.select
  where
    turned : (b : Bool) → (act.method == m) ≡ b → (m == act.method || (if b then false else is_among m selected)) ≡ (if b then true else is_among m selected)
    turned true e = ap (λ c. c || false) (eq-eqb m act.method (sym (eqb-true act.method m e)))
    turned false e = ap (λ c. c || is_among m selected) (ne_eqb m act.method (λ same. absurd (false≢true (sym e ∙ eq-eqb act.method m (sym same)))))

    by : (select : Bool)
        → is_among m (if select then act.method ∷ filter (λ x. not (x == act.method)) selected else filter (λ x. not (x == act.method)) selected)
        ≡ (if act.method == m then select else is_among m selected)
    by true = ap (λ b. m == act.method || b) (among-others m act.method selected) ∙ turned (act.method == m) refl
    by false = among-others m act.method selected

-- the actions of moments up to this one
abbrev upto : ℕ → ℕ → Bool → Act → Bool
upto most method now act = if act.method == method && nat_le act.moment most then act.select else now

upto-not : (most method : ℕ) (now : Bool) (act : Act) → nat_le act.moment most ≡ false → upto most method now act ≡ now
upto-not most method now act e = by (act.method == method) (nat_le act.moment most) e
  where
    by : (a b : Bool) → b ≡ false → (if a && b then act.select else now) ≡ now
    by true false e = refl
    by false b e = refl
    by true true e = absurd (false≢true (sym e))

upto-is : (most method : ℕ) (now : Bool) (act : Act) → nat_le act.moment most ≡ true → upto most method now act ≡ set_by method now act
upto-is most method now act e = by (act.method == method) (nat_le act.moment most) e
  where
    by : (a b : Bool) → b ≡ true → (if a && b then act.select else now) ≡ (if a then act.select else now)
    by true true e = refl
    by false b e = refl
    by true false e = absurd (false≢true e)

less-than : (a k : ℕ) → k ≤ a → (a ≡ k → ⊥) → k < a
less-than a k le ne = elim (cases_eq a k) [ inl same ↦ absurd (ne same) | inr different ↦ omega arith ]

-- where each moment is above this one, none of them is among these
none-upto : (most method least : ℕ) (acts : List Act) (now : Bool) → most < least → AreFrom least acts → fold (upto most method) now acts ≡ now
none-upto most method least [] now less from = refl
none-upto most method least (act ∷ more) now less from =
    ap (λ b. fold (upto most method) b more) (upto-not most method now act (lt-leb act.moment most (let at : least ≤ act.moment = from.0 in omega arith)))
    ∙ none-upto most method act.moment more now (let at : least ≤ act.moment = from.0 in omega arith) from.1

-- where no moment is below this one
at-upto : (k method least : ℕ) (acts : List Act) (now : Bool) → k ≤ least → AreFrom least acts
    → fold (upto k method) now acts ≡ fold (set_by method) now (acts_at k acts)
at-upto k method least [] now le from = refl
at-upto k method least (act ∷ more) now le from =
    by (act.moment == k) refl (λ next. at-upto k method act.moment more next (let at : least ≤ act.moment = from.0 in omega arith) from.1)
  where
    at : least ≤ act.moment
    at = from.0

    by : (b : Bool) → (act.moment == k) ≡ b → ((next : Bool) → fold (upto k method) next more ≡ fold (set_by method) next (acts_at k more))
        → fold (upto k method) (upto k method now act) more ≡ fold (set_by method) now (if b then act ∷ acts_at k more else acts_at k more)
    by true e rest =
        let same : act.moment ≡ k = eqb-true act.moment k e in
        ap (λ b. fold (upto k method) b more) (upto-is k method now act (le-leb act.moment k (omega arith)))
        ∙ rest (set_by method now act)
    by false e rest =
        let other : act.moment ≡ k → ⊥ = λ same. false≢true (sym e ∙ eq-eqb act.moment k same) in
        let above : k < act.moment = less-than act.moment k (let r : k ≤ act.moment = omega arith in r) other in
        ap (λ b. fold (upto k method) b more) (upto-not k method now act (lt-leb act.moment k above))
        ∙ rest now

-- one moment more
more-upto : (k method least : ℕ) (acts : List Act) (now : Bool) → AreFrom least acts
    → fold (upto (suc k) method) now acts ≡ fold (set_by method) (fold (upto k method) now acts) (acts_at (suc k) acts)
more-upto k method least [] now from = refl
more-upto k method least (act ∷ more) now from = by (nat_le act.moment k) refl (λ next. more-upto k method act.moment more next from.1)
  where
    by : (b : Bool) → nat_le act.moment k ≡ b
        → ((next : Bool) → fold (upto (suc k) method) next more ≡ fold (set_by method) (fold (upto k method) next more) (acts_at (suc k) more))
        → fold (upto (suc k) method) (upto (suc k) method now act) more
        ≡ fold (set_by method) (fold (upto k method) (upto k method now act) more) (if act.moment == suc k then act ∷ acts_at (suc k) more else acts_at (suc k) more)
    by true e rest =
        let le : act.moment ≤ k = leb-true act.moment k e in
        let other : (act.moment == suc k) ≡ false = ne_eqb act.moment (suc k) (λ same. omega arith) in
        ap (λ b. fold (upto (suc k) method) b more) (upto-is (suc k) method now act (le-leb act.moment (suc k) (omega arith)) ∙ sym (upto-is k method now act e))
        ∙ (rest (upto k method now act)
        ∙ ap (λ b. fold (set_by method) (fold (upto k method) (upto k method now act) more) (if b then act ∷ acts_at (suc k) more else acts_at (suc k) more)) (sym other))
    by false e rest =
        let above : k < act.moment = below act.moment k e in
        let none : fold (upto k method) (upto k method now act) more ≡ now =
        ap (λ b. fold (upto k method) b more) (upto-not k method now act e) ∙ none-upto k method act.moment more now above from.1 in
        at-upto (suc k) method act.moment (act ∷ more) now (omega arith) (omega arith, from.1)
        ∙ ap (λ b. fold (set_by method) b (if act.moment == suc k then act ∷ acts_at (suc k) more else acts_at (suc k) more)) (sym none)

-- the selection before the start, and behind a step
pub first-selected : (acts : List Act) (method : ℕ) → AreFrom 0 acts → is_selected acts 0 method ≡ fold (set_by method) false (acts_at 0 acts)
first-selected acts method from = at-upto 0 method 0 acts false (omega arith) from

pub next-selected : (acts : List Act) (k method : ℕ) → AreFrom 0 acts
    → is_selected acts (suc k) method ≡ fold (set_by method) (is_selected acts k method) (acts_behind k acts)
next-selected acts zero method from = refl
next-selected acts (suc k) method from =
    let less : (n : ℕ) → suc n - 1 ≡ n = λ n. omega arith in
    let was : is_selected acts (suc k) method ≡ fold (upto k method) false acts = ap (λ most. fold (upto most method) false acts) (less k) in
    let is : is_selected acts (suc (suc k)) method ≡ fold (upto (suc k) method) false acts = ap (λ most. fold (upto most method) false acts) (less (suc k)) in
    is ∙ (more-upto k method 0 acts false from ∙ ap (λ b. fold (set_by method) b (acts_at (suc k) acts)) (sym was))

-- ---- the current activation's path

abbrev open_of : List Act → Trace → List ℕ
open_of acts t = path_at acts t.activations (current t.live)

-- a path by whether the activation is a root, and by the path above it
abbrev gone_on : ℕ → Bool → List ℕ → List ℕ
gone_on method root path = if root || is_inside path then path ++ method ∷ [] else []

own-path : (acts : List Act) (activations : List Activation) (number : ℕ) (rest : List ℕ) → (one : IsLive activations number rest)
    → path_at acts activations (Some number) ≡ gone_on one.activation.method (is_root acts one.activation) (path_at acts activations (current rest))
own-path acts activations number rest one =
    let a = one.activation in
    path_at-found acts activations number a one.found (subst (IsBelow number) (sym one.invoked) one.earlier)
    ∙ ap (gone_on a.method (is_root acts a)) (ap (path_at acts activations) one.invoked)

-- where no live activation is a root, none is profiled
pub rootless : (acts : List Act) (activations : List Activation) (live : List ℕ) → AreLive activations live → has_root acts activations live ≡ false
    → path_at acts activations (current live) ≡ []
rootless acts activations [] are none = refl
rootless acts activations (number ∷ rest) are none =
    let a = are.0.activation in
    let found : option_map_or (is_root acts) (slice_get activations number) false ≡ is_root acts a = ap (λ o. option_map_or (is_root acts) o false) are.0.found in
    let above : path_at acts activations (current rest) ≡ [] = rootless acts activations rest are.1 (second (option_map_or (is_root acts) (slice_get activations number) false) (has_root acts activations rest) none) in
    own-path acts activations number rest are.0
    ∙ ap₂ (λ root path. gone_on a.method root path) (sym found ∙ first (option_map_or (is_root acts) (slice_get activations number) false) (has_root acts activations rest) none) above
  where
    first : (a b : Bool) → (a || b) ≡ false → a ≡ false
    first false b e = refl
    first true b e = absurd (false≢true (sym e))

    second : (a b : Bool) → (a || b) ≡ false → b ≡ false
    second false b e = e
    second true b e = absurd (false≢true (sym e))

-- ---- the current activation's path is entered

own-with : (method : ℕ) (entered : List ℕ) → is_among method (with_entered method entered) ≡ true
own-with method entered = by (is_among method entered) refl
  where
    by : (b : Bool) → is_among method entered ≡ b → is_among method (if b then entered else method ∷ entered) ≡ true
    by true e = e
    by false e = ap (λ c. c || is_among method entered) (equals_itself method)

all-with : (method : ℕ) (entered path : List ℕ) → All entered path → All (with_entered method entered) path
all-with method entered path all = by (is_among method entered)
  where
    by : (b : Bool) → All (if b then entered else method ∷ entered) path
    by true = all
    by false = all-more method entered path all

all-gone_on : (entered path : List ℕ) (method : ℕ) (root : Bool) → All entered path
    → All (if is_inside (gone_on method root path) then with_entered method entered else entered) (gone_on method root path)
all-gone_on entered path method root all = by (root || is_inside path)
  where
    by : (b : Bool) → All (if is_inside (if b then path ++ method ∷ [] else []) then with_entered method entered else entered) (if b then path ++ method ∷ [] else [])
    by true =
        subst (λ c. All (if c then with_entered method entered else entered) (path ++ method ∷ [])) (sym (is_inside-push path method))
        (all-push (with_entered method entered) path method (all-with method entered path all) (own-with method entered))
    by false = tt

all-gone_back : (entered path : List ℕ) (method : ℕ) (root : Bool) → All entered (gone_on method root path) → All entered path
all-gone_back entered [] method root all = tt
all-gone_back entered (m ∷ path) method root all =
    all-front entered (m ∷ path) method
    (subst (All entered) (cond-true (root || is_inside (m ∷ path)) ((m ∷ path) ++ method ∷ []) [] (or_right root (is_inside (m ∷ path)) (is_inside-cons m path))) all)

-- the method of a profiled one is among what is entered
own-entered : (entered path : List ℕ) (method : ℕ) (root : Bool) → All entered (gone_on method root path) → is_inside (gone_on method root path) ≡ true
    → is_among method entered ≡ true
own-entered entered path method root all inside = by (root || is_inside path) all inside
  where
    by : (b : Bool) → All entered (if b then path ++ method ∷ [] else []) → is_inside (if b then path ++ method ∷ [] else []) ≡ true → is_among method entered ≡ true
    by true all inside = all-last entered path method all
    by false all inside = absurd (false≢true inside)

-- ---- what is kept

-- of what stands within a step, or before it
pub record Keeps (acts : List Act) (marking : Marking) (step : ℕ) (s : Standing) : Type 0 where
  pub live : IsTrace s.trace
  pub selected : (method : ℕ) → is_among method s.selected ≡ is_selected acts step method
  pub entered : All s.entered (open_of acts s.trace)
  pub suited : AreSuited acts marking s.trace.activations

-- ---- a quiet point

settled-keeps : (acts : List Act) (marking : Marking) (step : ℕ) (s : Standing) → Keeps acts marking step s → Keeps acts marking step (standing_settled acts s)
settled-keeps acts marking step s keeps = by (is_quiet acts s) refl
  where
    rootless-all : (b : Bool) → (is_empty s.selected && not (has_root acts s.trace.activations s.trace.live)) ≡ true → open_of acts s.trace ≡ []
    rootless-all b e = rootless acts s.trace.activations s.trace.live keeps.live (none (is_empty s.selected) (has_root acts s.trace.activations s.trace.live) e)
      where
        none : (a b : Bool) → (a && not b) ≡ true → b ≡ false
        none a false e = refl
        none true true e = absurd (false≢true e)
        none false true e = absurd (false≢true e)

    by : (b : Bool) → is_quiet acts s ≡ b → Keeps acts marking step (if b then record s { entered = [] } else s)
    by false e = keeps
    by true e = record {
      live = keeps.live;
      selected = keeps.selected;
      entered = subst (All []) (sym (rootless-all true e)) tt;
      suited = keeps.suited;
    }

-- ---- an activation ends

-- an ended activation is the same in what counts
record IsOld (acts : List Act) (activations : List Activation) (number : ℕ) (a : Activation) : Type 0 where
  before : Activation
  found : slice_get activations number ≡ Some before
  method : before.method ≡ a.method
  begin : before.begin ≡ a.begin

old-same : (acts : List Act) (activations : List Activation) (number : ℕ) (a : Activation) → slice_get activations number ≡ Some a → IsOld acts activations number a
old-same acts activations number a found = record { before = a; found = found; method = refl; begin = refl }

old-set : (acts : List Act) (activations : List Activation) (at : ℕ) (ended : Activation) (step : ℕ) → slice_get activations at ≡ Some ended
    → (number : ℕ) (a : Activation) → slice_get (slice_set activations at (ended_in step ended)) number ≡ Some a → IsOld acts activations number a
old-set acts [] at ended step there number a found = absurd (none-some a found)
old-set acts (b ∷ rest) zero ended step there zero a found =
    let same : ended_in step ended ≡ a = same_Some (ended_in step ended) a found in
    let was : b ≡ ended = same_Some b ended there in
    record {
      before = b;
      found = refl;
      method = ap (λ (x : Activation). x.method) was ∙ ap (λ (x : Activation). x.method) same;
      begin = ap (λ (x : Activation). x.begin) was ∙ ap (λ (x : Activation). x.begin) same;
    }
old-set acts (b ∷ rest) zero ended step there (suc number) a found = record { before = a; found = found; method = refl; begin = refl }
old-set acts (b ∷ rest) (suc at) ended step there zero a found = record { before = a; found = found; method = refl; begin = refl }
old-set acts (b ∷ rest) (suc at) ended step there (suc number) a found =
    let below = old-set acts rest at ended step there number a found in
    record { before = below.before; found = below.found; method = below.method; begin = below.begin }

suited-set : (acts : List Act) (marking : Marking) (activations : List Activation) (at : ℕ) (ended : Activation) (step : ℕ) → slice_get activations at ≡ Some ended
    → AreSuited acts marking activations → AreSuited acts marking (slice_set activations at (ended_in step ended))
suited-set acts marking activations at ended step there suited number a found =
    let old = old-set acts activations at ended step there number a found in
    let b = old.before in
    let same : path_at acts (slice_set activations at (ended_in step ended)) (Some number) ≡ path_at acts activations (Some number) =
    ap (λ paths. path_in paths (Some number)) (paths_of-ended acts activations at ended (Some step) there) in
    subst (λ path. Suits (is_root acts a) path (marking a.begin a.method)) (sym same)
    (subst (λ m. Suits (is_selected acts a.begin m) (path_at acts activations (Some number)) (marking a.begin m)) old.method
    (subst (λ k. Suits (is_selected acts k b.method) (path_at acts activations (Some number)) (marking k b.method)) old.begin
    (suited number b old.found)))

end-keeps : (acts : List Act) (marking : Marking) (step : ℕ) (s : Standing) → Keeps acts marking step s
    → Keeps acts marking step (record s { trace = with_end step s.trace })
end-keeps acts marking step s keeps = record {
  live = changed-keeps step s.trace Left keeps.live;
  selected = keeps.selected;
  entered = all s.trace.live refl keeps.live;
  suited = suits s.trace.live keeps.live;
} where
  all : (live : List ℕ) → s.trace.live ≡ live → AreLive s.trace.activations live → All s.entered (open_of acts (without_current step live s.trace))
  all [] e are = keeps.entered
  all (number ∷ rest) e are =
      let a = are.0.activation in
      let above = path_at acts s.trace.activations (current rest) in
      let own : open_of acts s.trace ≡ gone_on a.method (is_root acts a) above =
      ap (λ numbers. path_at acts s.trace.activations (current numbers)) e ∙ own-path acts s.trace.activations number rest are.0 in
      let same : path_at acts (slice_set s.trace.activations number (ended_in step a)) (current rest) ≡ above =
      ap (λ paths. path_in paths (current rest)) (paths_of-ended acts s.trace.activations number a (Some step) are.0.found) in
      subst (λ (activations : List Activation). All s.entered (path_at acts activations (current rest))) (sym (ended_at-found step number s.trace.activations a are.0.found))
      (subst (All s.entered) (sym same) (all-gone_back s.entered above a.method (is_root acts a) (subst (All s.entered) own keeps.entered)))

  suits : (live : List ℕ) → AreLive s.trace.activations live → AreSuited acts marking (without_current step live s.trace).activations
  suits [] are = keeps.suited
  suits (number ∷ rest) are =
      let a = are.0.activation in
      subst (λ (activations : List Activation). AreSuited acts marking activations) (sym (ended_at-found step number s.trace.activations a are.0.found))
      (suited-set acts marking s.trace.activations number a step are.0.found keeps.suited)

-- ---- an activation begins

-- where a path goes on inside and no root begins, it is inside already
above-inside : (method : ℕ) (path : List ℕ) → is_inside (gone_on method false path) ≡ true → is_inside path ≡ true
above-inside method [] inside = inside
above-inside method (m ∷ path) inside = is_inside-cons m path

off_root : Off ≡ Root → ⊥
off_root e = cc

plain_root : Plain ≡ Root → ⊥
plain_root e = cc

root_off : Root ≡ Off → ⊥
root_off e = cc

plain_off : Plain ≡ Off → ⊥
plain_off e = cc

root-suits : (path : List ℕ) (mark : Mark) → mark ≡ Root → Suits true path mark
root-suits path mark e = record { roots = λ root. e; only = λ is. refl; inside = λ within off. root_off (sym e ∙ off) }

other-suits : (path : List ℕ) (mark : Mark) (target : Bool) → mark ≡ (if target then Plain else Off) → (is_inside path ≡ true → target ≡ true) → Suits false path mark
other-suits path mark true e called = record {
  roots = λ root. absurd (false≢true root);
  only = λ is. absurd (plain_root (sym e ∙ is));
  inside = λ within off. plain_off (sym e ∙ off);
}
other-suits path mark false e called = record {
  roots = λ root. absurd (false≢true root);
  only = λ is. absurd (off_root (sym e ∙ is));
  inside = λ within off. false≢true (called within);
}

module _ (acts : List Act) (p : Program) (code : ℕ → List (Operation Local)) (marking : Marking) (step : ℕ) where
  -- a method that is called on a profiled activation is a target of what is entered
  called-target : (s : Standing) (method : ℕ) → Keeps acts marking step s → IsCalled p code s.loaded (live_methods s.trace) method
      → is_inside (open_of acts s.trace) ≡ true → is_target p code s.loaded s.entered method ≡ true
  called-target s method keeps called inside = by s.trace.live refl keeps.live called
    where
      by : (live : List ℕ) → s.trace.live ≡ live → AreLive s.trace.activations live → IsCalled p code s.loaded (map (method_at s.trace.activations) live) method
          → is_target p code s.loaded s.entered method ≡ true
      by [] e are called =
          let empty : open_of acts s.trace ≡ [] = ap (λ numbers. path_at acts s.trace.activations (current numbers)) e in
          absurd (false≢true (sym (ap is_inside empty) ∙ inside))
      by (number ∷ rest) e are called =
          let a = are.0.activation in
          let own : open_of acts s.trace ≡ gone_on a.method (is_root acts a) (path_at acts s.trace.activations (current rest)) =
          ap (λ numbers. path_at acts s.trace.activations (current numbers)) e ∙ own-path acts s.trace.activations number rest are.0 in
          let named : method_at s.trace.activations number ≡ a.method = ap (λ o. option_map_or (λ (b : Activation). b.method) o 0) are.0.found in
          any-among (λ caller. is_among method (targets_in p s.loaded (code caller))) a.method s.entered
          (own-entered s.entered (path_at acts s.trace.activations (current rest)) a.method (is_root acts a)
          (subst (All s.entered) own keeps.entered) (sym (ap is_inside own) ∙ inside))
          (subst (λ caller. is_among method (targets_in p s.loaded (code caller)) ≡ true) named called)

  begin-suits : (s : Standing) (method : ℕ) → Keeps acts marking step s → has_class p s.loaded method ≡ true
      → IsCalled p code s.loaded (live_methods s.trace) method → marking step method ≡ mark_in p code s method
      → Suits (is_selected acts step method) (gone_on method (is_selected acts step method) (open_of acts s.trace)) (marking step method)
  begin-suits s method keeps loaded called marked = by (is_selected acts step method) refl
    where
      mark_is : marking step method ≡ (if is_selected acts step method then Root else if is_target p code s.loaded s.entered method then Plain else Off)
      mark_is =
          marked ∙ (ap (λ b. if b then (if is_among method s.selected then Root else if is_target p code s.loaded s.entered method then Plain else Off) else Off) loaded
          ∙ ap (λ b. if b then Root else if is_target p code s.loaded s.entered method then Plain else Off) (keeps.selected method))

      by : (root : Bool) → is_selected acts step method ≡ root → Suits root (gone_on method root (open_of acts s.trace)) (marking step method)
      by true e = root-suits (gone_on method true (open_of acts s.trace)) (marking step method)
          (mark_is ∙ ap (λ b. if b then Root else if is_target p code s.loaded s.entered method then Plain else Off) e)
      by false e = other-suits (gone_on method false (open_of acts s.trace)) (marking step method) (is_target p code s.loaded s.entered method)
          (mark_is ∙ ap (λ b. if b then Root else if is_target p code s.loaded s.entered method then Plain else Off) e)
          (λ inside. called-target s method keeps called (above-inside method (open_of acts s.trace) inside))

  begin-keeps : (s : Standing) (method : ℕ) → Keeps acts marking step s → has_class p s.loaded method ≡ true
      → IsCalled p code s.loaded (live_methods s.trace) method → marking step method ≡ mark_in p code s method
      → Keeps acts marking step (after_change acts step s (Began method))
  begin-keeps s method keeps loaded called marked =
      let a : Activation = record { method = method; parent = current s.trace.live; begin = step; «end» = None } in
      let activations = s.trace.activations in
      let root = is_selected acts step method in
      let last : path_at acts (activations ++ a ∷ []) (Some (length activations)) ≡ gone_on method root (open_of acts s.trace) = path_at-last acts activations a in
      record {
        live = changed-keeps step s.trace (Began method) keeps.live;
        selected = keeps.selected;
        entered = subst (λ path. All (if is_inside path then with_entered method s.entered else s.entered) path) (sym last)
            (all-gone_on s.entered (open_of acts s.trace) method root keeps.entered);
        suited = λ number b found. grown number b found (slice_get_within (activations ++ a ∷ []) number b found) last;
      }
    where
      grown : (number : ℕ) (b : Activation)
          → slice_get (s.trace.activations ++ record { method = method; parent = current s.trace.live; begin = step; «end» = None } ∷ []) number ≡ Some b
          → number < length (s.trace.activations ++ record { method = method; parent = current s.trace.live; begin = step; «end» = None } ∷ [])
          → path_at acts (s.trace.activations ++ record { method = method; parent = current s.trace.live; begin = step; «end» = None } ∷ []) (Some (length s.trace.activations))
          ≡ gone_on method (is_selected acts step method) (open_of acts s.trace)
          → Suits (is_root acts b) (path_at acts (s.trace.activations ++ record { method = method; parent = current s.trace.live; begin = step; «end» = None } ∷ []) (Some number)) (marking b.begin b.method)
      grown number b found within last = elim (cases_eq number (length s.trace.activations)) [
        | inl same ↦
            let a : Activation = record { method = method; parent = current s.trace.live; begin = step; «end» = None } in
            let is : b ≡ a = same_Some b a (sym found ∙ (ap (slice_get (s.trace.activations ++ a ∷ [])) same ∙ slice_get_at s.trace.activations a [])) in
            subst (λ (x : Activation). Suits (is_root acts x) (path_at acts (s.trace.activations ++ a ∷ []) (Some number)) (marking x.begin x.method)) (sym is)
            (subst (λ k. Suits (is_root acts a) (path_at acts (s.trace.activations ++ a ∷ []) (Some k)) (marking step method)) (sym same)
            (subst (λ path. Suits (is_selected acts step method) path (marking step method)) (sym last) (begin-suits s method keeps loaded called marked)))
        | inr different ↦
            let a : Activation = record { method = method; parent = current s.trace.live; begin = step; «end» = None } in
            let below : number < length s.trace.activations = omega (arith, length_push s.trace.activations a) in
            let was : slice_get s.trace.activations number ≡ Some b = sym (slice_get-append_left s.trace.activations (a ∷ []) number below) ∙ found in
            subst (λ path. Suits (is_root acts b) path (marking b.begin b.method)) (sym (path_at-push acts s.trace.activations a (Some number) below))
            (keeps.suited number b was)
      ]

  -- ---- the changes of a step

  -- this is the mark of what begins among these changes
  abbrev IsMarked : Standing → List Change → Type 0
  IsMarked s changes = (method : ℕ) → marking step method ≡ mark_in p code (before_begin acts step s changes) method

  -- what stands behind these changes, and on the way to it
  pub record Stays (s : Standing) (changes : List Change) : Type 0 where
    pub way : StaySuited acts marking step s.trace changes
    pub after : Keeps acts marking step (after_changes acts step s changes)

  then-stays : (s : Standing) (c : Change) (more : List Change) → Keeps acts marking step s → (after_change acts step s c).trace ≡ trace_changed step s.trace c
      → Stays (after_change acts step s c) more → Stays s (c ∷ more)
  then-stays s c more keeps same rest =
      record { way = (keeps.suited, subst (λ t. StaySuited acts marking step t more) same rest.way); after = rest.after }

  -- without a load
  ends-stay : (changes : List Change) (s : Standing) → EndThenBegin changes → Keeps acts marking step s → IsMarked s changes
      → AreCalled p code s.loaded (live_methods s.trace) changes → Stays s changes
  ends-stay [] s order keeps marked called = record { way = keeps.suited; after = keeps }
  ends-stay (Left ∷ more) s order keeps marked called =
      let next = record s { trace = with_end step s.trace } in
      then-stays s Left more keeps refl
      (ends-stay more next order (end-keeps acts marking step s keeps) marked
      (subst (λ live. AreCalled p code s.loaded live more) (sym (changed-methods step s.trace Left keeps.live)) called))
  ends-stay (Unwound ∷ more) s order keeps marked called =
      let next = record s { trace = with_end step s.trace } in
      then-stays s Unwound more keeps refl
      (ends-stay more next order (end-keeps acts marking step s keeps) marked
      (subst (λ live. AreCalled p code s.loaded live more) (sym (changed-methods step s.trace Unwound keeps.live)) called))
  ends-stay (Began method ∷ []) s order keeps marked called =
      let after = begin-keeps s method keeps called.0 called.1 (marked method) in
      record { way = (keeps.suited, after.suited); after = after }
  ends-stay (Began method ∷ c ∷ more) s order keeps marked called = absurd order
  ends-stay (Loads classes ∷ more) s order keeps marked called = absurd order

  load-keeps : (s : Standing) (classes : List ℕ) → Keeps acts marking step s → Keeps acts marking step (record s { loaded = s.loaded ++ classes })
  load-keeps s classes keeps = record { live = keeps.live; selected = keeps.selected; entered = keeps.entered; suited = keeps.suited }

  no-loads : (changes : List Change) → EndThenBegin changes → loads_of changes ≡ []
  no-loads [] order = refl
  no-loads (Left ∷ more) order = no-loads more order
  no-loads (Unwound ∷ more) order = no-loads more order
  no-loads (Began method ∷ []) order = refl
  no-loads (Began method ∷ c ∷ more) order = absurd order
  no-loads (Loads classes ∷ more) order = absurd order

  pub changes-stay : (changes : List Change) (s : Standing) → AreOrdered changes → Keeps acts marking step s → IsMarked s changes
      → AreCalled p code (s.loaded ++ loads_of changes) (live_methods s.trace) changes → Stays s changes
  changes-stay (Loads classes ∷ more) s order keeps marked called =
      let next = record s { loaded = s.loaded ++ classes } in
      let whole : classes ++ loads_of more ≡ classes = ap (λ rest. classes ++ rest) (no-loads more order) ∙ append-nil classes in
      then-stays s (Loads classes) more keeps refl
      (ends-stay more next order (load-keeps s classes keeps) marked
      (subst (λ loaded. AreCalled p code loaded (live_methods s.trace) more) (ap (λ rest. s.loaded ++ rest) whole) called))
  changes-stay [] s order keeps marked called = record { way = keeps.suited; after = keeps }
  changes-stay (Left ∷ more) s order keeps marked called =
      ends-stay (Left ∷ more) s order keeps marked
      (subst (λ loaded. AreCalled p code loaded (live_methods s.trace) (Left ∷ more)) (without s.loaded (no-loads more order)) called)
    where
      without : (loaded : List ℕ) → loads_of more ≡ [] → loaded ++ loads_of more ≡ loaded
      without loaded e = ap (λ rest. loaded ++ rest) e ∙ append-nil loaded
  changes-stay (Unwound ∷ more) s order keeps marked called =
      ends-stay (Unwound ∷ more) s order keeps marked
      (subst (λ loaded. AreCalled p code loaded (live_methods s.trace) (Unwound ∷ more)) (without s.loaded (no-loads more order)) called)
    where
      without : (loaded : List ℕ) → loads_of more ≡ [] → loaded ++ loads_of more ≡ loaded
      without loaded e = ap (λ rest. loaded ++ rest) e ∙ append-nil loaded
  changes-stay (Began method ∷ more) s order keeps marked called =
      ends-stay (Began method ∷ more) s order keeps marked
      (subst (λ loaded. AreCalled p code loaded (live_methods s.trace) (Began method ∷ more)) (without s.loaded (no-loads (Began method ∷ more) order)) called)
    where
      without : (loaded : List ℕ) → loads_of (Began method ∷ more) ≡ [] → loaded ++ loads_of (Began method ∷ more) ≡ loaded
      without loaded e = ap (λ rest. loaded ++ rest) e ∙ append-nil loaded

-- ---- what stands behind a step, beside what is kept

after-trace : (acts : List Act) (step : ℕ) (changes : List Change) (s : Standing) → (after_changes acts step s changes).trace ≡ all_changed step s.trace changes
after-trace acts step [] s = refl
after-trace acts step (Loads classes ∷ more) s = after-trace acts step more (after_change acts step s (Loads classes))
after-trace acts step (Began method ∷ more) s = after-trace acts step more (after_change acts step s (Began method))
after-trace acts step (Left ∷ more) s = after-trace acts step more (after_change acts step s Left)
after-trace acts step (Unwound ∷ more) s = after-trace acts step more (after_change acts step s Unwound)

after-loaded : (acts : List Act) (step : ℕ) (changes : List Change) (s : Standing) → (after_changes acts step s changes).loaded ≡ s.loaded ++ loads_of changes
after-loaded acts step [] s = sym (append-nil s.loaded)
after-loaded acts step (Loads classes ∷ more) s =
    after-loaded acts step more (after_change acts step s (Loads classes)) ∙ append_assoc s.loaded classes (loads_of more)
after-loaded acts step (Began method ∷ more) s = after-loaded acts step more (after_change acts step s (Began method))
after-loaded acts step (Left ∷ more) s = after-loaded acts step more (after_change acts step s Left)
after-loaded acts step (Unwound ∷ more) s = after-loaded acts step more (after_change acts step s Unwound)

-- the trace and the loaded classes are as before
record SameRun (s after : Standing) : Type 0 where
  trace : after.trace ≡ s.trace
  loaded : after.loaded ≡ s.loaded

settled-run : (acts : List Act) (s : Standing) → SameRun s (standing_settled acts s)
settled-run acts s = by (is_quiet acts s)
  where
    by : (b : Bool) → SameRun s (if b then record s { entered = [] } else s)
    by true = record { trace = refl; loaded = refl }
    by false = record { trace = refl; loaded = refl }

settled-selected : (acts : List Act) (s : Standing) → (standing_settled acts s).selected ≡ s.selected
settled-selected acts s = by (is_quiet acts s)
  where
    by : (b : Bool) → (if b then record s { entered = [] } else s).selected ≡ s.selected
    by true = refl
    by false = refl

-- ---- actions

acts-run : (acts more : List Act) (s : Standing) → SameRun s (after_acts acts s more)
acts-run acts [] s = record { trace = refl; loaded = refl }
acts-run acts (act ∷ more) s =
    let first = settled-run acts (record s { selected = methods_selected act s.selected }) in
    let rest = acts-run acts more (after_act acts s act) in
    record { trace = rest.trace ∙ first.trace; loaded = rest.loaded ∙ first.loaded }

acts-selected : (acts more : List Act) (s : Standing) (method : ℕ)
    → is_among method (after_acts acts s more).selected ≡ fold (set_by method) (is_among method s.selected) more
acts-selected acts [] s method = refl
acts-selected acts (act ∷ more) s method =
    acts-selected acts more (after_act acts s act) method
    ∙ ap (λ b. fold (set_by method) b more)
    (ap (is_among method) (settled-selected acts (record s { selected = methods_selected act s.selected })) ∙ among-chosen act s.selected method)

-- all but the selection
record Half (acts : List Act) (marking : Marking) (s : Standing) : Type 0 where
  live : IsTrace s.trace
  entered : All s.entered (open_of acts s.trace)
  suited : AreSuited acts marking s.trace.activations

half-settled : (acts : List Act) (marking : Marking) (s : Standing) → Half acts marking s → Half acts marking (standing_settled acts s)
half-settled acts marking s half = by (is_quiet acts s) refl
  where
    none : (a b : Bool) → (a && not b) ≡ true → b ≡ false
    none a false e = refl
    none true true e = absurd (false≢true e)
    none false true e = absurd (false≢true e)

    by : (b : Bool) → is_quiet acts s ≡ b → Half acts marking (if b then record s { entered = [] } else s)
    by false e = half
    by true e = record {
      live = half.live;
      entered = subst (All []) (sym (rootless acts s.trace.activations s.trace.live half.live (none (is_empty s.selected) (has_root acts s.trace.activations s.trace.live) e))) tt;
      suited = half.suited;
    }

half-acts : (acts : List Act) (marking : Marking) (more : List Act) (s : Standing) → Half acts marking s → Half acts marking (after_acts acts s more)
half-acts acts marking [] s half = half
half-acts acts marking (act ∷ more) s half =
    half-acts acts marking more (after_act acts s act)
    (half-settled acts marking (record s { selected = methods_selected act s.selected }) (record { live = half.live; entered = half.entered; suited = half.suited }))

-- ---- the run

-- the changes of a step go on from the trace before it
trace-next : (w : World) (n : ℕ) → trace w n ≡ all_changed n (trace_before w n) (turn w n).changes
trace-next w zero = trace_in-zero w (original w.program)
trace-next w (suc n) = trace_in-suc w (original w.program) n

methods-live : (w : World) (n : ℕ) → live_methods (trace_before w n) ≡ methods_before w n
methods-live w zero = refl
methods-live w (suc n) = live-frames w (original w.program) n

module _ (acts : List Act) (w : World) (code : ℕ → List (Operation Local)) (from : AreFrom 0 acts) (told : (n : ℕ) → IsTold w code n) where
  abbrev marking : Marking
  marking = marking_in acts w (original w.program) code

  abbrev standing : ℕ → Standing
  standing n = standing_in acts w (original w.program) n

  -- what stands before a step
  pub record Stands (n : ℕ) : Type 0 where
    pub trace : (standing n).trace ≡ trace_before w n
    pub loaded : (standing n).loaded ≡ loaded_before w n
    pub keeps : Keeps acts marking n (standing n)

  stands-by : (n : ℕ) (s : Standing) → standing n ≡ s → s.trace ≡ trace_before w n → s.loaded ≡ loaded_before w n → Keeps acts marking n s → Stands n
  stands-by n s e trace loaded keeps = record {
    trace = ap (λ (x : Standing). x.trace) e ∙ trace;
    loaded = ap (λ (x : Standing). x.loaded) e ∙ loaded;
    keeps = subst (Keeps acts marking n) (sym e) keeps;
  }

  -- with the actions behind it
  with-acts : (n : ℕ) (s : Standing) (more : List Act) → Half acts marking s → ((method : ℕ) → is_selected acts n method ≡ fold (set_by method) (is_among method s.selected) more)
      → Keeps acts marking n (after_acts acts s more)
  with-acts n s more half selected =
      let after = half-acts acts marking more s half in
      record { live = after.live; selected = λ method. acts-selected acts more s method ∙ sym (selected method); entered = after.entered; suited = after.suited }

  first-stands : Stands 0
  first-stands =
      let run = acts-run acts (acts_at 0 acts) (nothing w) in
      stands-by 0 (after_acts acts (nothing w) (acts_at 0 acts)) (standing_in-zero acts w (original w.program)) run.trace run.loaded
      (with-acts 0 (nothing w) (acts_at 0 acts)
      (record { live = no_trace-is; entered = tt; suited = λ number a found. absurd (let no : None ≡ Some a → ⊥ = λ e. cc in no found) })
      (λ method. first-selected acts method from))

  step-stays : (n : ℕ) → Stands n → Stays acts w.program code marking n (standing n) (turn w n).changes
  step-stays n stands =
      let is = told n in
      changes-stay acts w.program code marking n (turn w n).changes (standing n) (run-ordered w (original w.program) n) stands.keeps (λ method. refl)
      (subst (λ loaded. AreCalled w.program code loaded (live_methods (standing n).trace) (turn w n).changes)
      (is.loads ∙ ap (λ loaded. loaded ++ loads_of (turn w n).changes) (sym stands.loaded))
      (subst (λ live. AreCalled w.program code (run w n).shared.loaded live (turn w n).changes)
      (sym (ap live_methods stands.trace ∙ methods-live w n)) is.calls))

  next-stands : (n : ℕ) → Stands n → Stands (suc n)
  next-stands n stands =
      let changes = (turn w n).changes in
      let s = standing n in
      let after = after_changes acts n s changes in
      let ended = standing_settled acts after in
      let stays = step-stays n stands in
      let run_ended = settled-run acts after in
      let run_acts = acts-run acts (acts_behind n acts) ended in
      let half = half-settled acts marking after (record { live = stays.after.live; entered = stays.after.entered; suited = stays.after.suited }) in
      stands-by (suc n) (after_acts acts ended (acts_behind n acts)) (standing_in-suc acts w (original w.program) n)
      (run_acts.trace ∙ (run_ended.trace ∙ (after-trace acts n changes s ∙ (ap (λ t. all_changed n t changes) stands.trace ∙ sym (trace-next w n)))))
      (run_acts.loaded ∙ (run_ended.loaded ∙ (after-loaded acts n changes s ∙ (ap (λ loaded. loaded ++ loads_of changes) stands.loaded ∙ sym (told n).loads))))
      (with-acts (suc n) ended (acts_behind n acts) half
      (λ method. next-selected acts n method from
      ∙ ap (λ b. fold (set_by method) b (acts_behind n acts))
      (sym (ap (is_among method) (settled-selected acts after) ∙ stays.after.selected method))))

  pub stands : (n : ℕ) → Stands n
  stands zero = first-stands
  stands (suc n) = next-stands n (stands n)

  -- The marking suits the run.
  pub suits-run : (n : ℕ) → StaySuited acts marking n (trace_before w n) (turn w n).changes
  suits-run n = subst (λ t. StaySuited acts marking n t (turn w n).changes) (stands n).trace (step-stays n (stands n)).way

-- ---- what a session knows

-- A root activation is live exactly where the current activation's path is not empty.
pub rooted : (acts : List Act) (activations : List Activation) (live : List ℕ) → AreLive activations live
    → has_root acts activations live ≡ is_inside (path_at acts activations (current live))
rooted acts activations [] are = refl
rooted acts activations (number ∷ rest) are =
    let a = are.0.activation in
    let above = path_at acts activations (current rest) in
    let found : option_map_or (is_root acts) (slice_get activations number) false ≡ is_root acts a = ap (λ o. option_map_or (is_root acts) o false) are.0.found in
    ap (λ b. b || has_root acts activations rest) found
    ∙ (ap (λ b. is_root acts a || b) (rooted acts activations rest are.1)
    ∙ (by (is_root acts a || is_inside above) ∙ sym (ap is_inside (own-path acts activations number rest are.0))))
  where
    by : (b : Bool) → b ≡ is_inside (if b then path_at acts activations (current rest) ++ are.0.activation.method ∷ [] else [])
    by true = sym (is_inside-push (path_at acts activations (current rest)) are.0.activation.method)
    by false = refl

-- Where the current activation is profiled no point is quiet: so the end of a step in which a profiled activation
-- begins stands as the point behind that begin, and changes no mark.
pub profiled-unsettled : (acts : List Act) (s : Standing) → IsTrace s.trace → is_profiled acts s.trace ≡ true → standing_settled acts s ≡ s
profiled-unsettled acts s is inside =
    ap (λ b. if is_empty s.selected && not b then record s { entered = [] } else s) (rooted acts s.trace.activations s.trace.live is ∙ inside)
    ∙ by (is_empty s.selected)
  where
    by : (b : Bool) → (if b && false then record s { entered = [] } else s) ≡ s
    by true = refl
    by false = refl
