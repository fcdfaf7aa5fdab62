-- In a step classes are loaded first, then activations end, and one begins behind them at most; and each state of a run
-- is normal.
use Rattle.std.proofs.Common.{◌≡◌, ℕ, zero, suc, ◌≤◌, ◌⊎◌, inl, inr, Bool, true, false, List, [], ◌∷◌, ◌++◌, Option, Some, None, nat_lt, if◌then◌else◌, refl, sym, ap, subst, ◌∙◌, arith}
use Rattle.std.specs.Option.{IfSome}
use Rattle.std.proofs.lemmas.Option.{none-some, IfSome_then}
use Rattle.jvm_model.specs.Basis.Data.{Datum, Operands, Frame, Entry, Active, Initializing, Part, Constants, Superclass, Initializer, Finish, Ending, State, Change, Loads, Began, Left, Unwound, Turn, Instruction, Listing, Outcome, GoesOn, Subroutine, Invokes, Returns, Throws, Raises, Initializes, Exits, Breaks, Done, World}
use Rattle.jvm_model.specs.Basis.Programs.{initializer_of}
use Rattle.jvm_model.specs.Basis.SharedState.{class_of}
use Rattle.jvm_model.specs.Instructions.Does.{does, loads}
use Rattle.jvm_model.specs.Running.Applies.{still, with_frame, new_frame, has_room, live_in, most_live, begins, begins_beside, applies}
use Rattle.jvm_model.specs.Running.Moves.{handler_for, throw_caught, at_part, runs_initializer, argument_array, main_or_end, moves, move, then_turn, turn_settled}
use Rattle.jvm_model.specs.Running.Run.{attempt, starts, has_no_changes, is_going_on, with_classes_loaded, loaded_turn, steps_by, steps_at, steps_on, step, main_loads, starts_with, start, turn_in, turn_in-zero, turn_in-suc}
use Rattle.jvm_model.specs.Running.Changes.{begun_count, EndThenBegin, OnlyEnd, AreOrdered}
use Rattle.jvm_model.proofs.Running.Settles.{settled-keeps, settled-stops}
use Rattle.jvm_model.proofs.Running.Attempts.{again-by, with_loaded-shared, loaded-after}

-- ---- lists of changes

end-begin : (cs : List Change) → OnlyEnd cs → EndThenBegin cs
end-begin [] o = tt
end-begin (Left ∷ more) o = end-begin more o
end-begin (Unwound ∷ more) o = end-begin more o
end-begin (Began m ∷ more) o = absurd o
end-begin (Loads classes ∷ more) o = absurd o

end-append : (a b : List Change) → OnlyEnd a → OnlyEnd b → OnlyEnd (a ++ b)
end-append [] b p q = q
end-append (Left ∷ more) b p q = end-append more b p q
end-append (Unwound ∷ more) b p q = end-append more b p q
end-append (Began m ∷ more) b p q = absurd p
end-append (Loads classes ∷ more) b p q = absurd p

begin-append : (a b : List Change) → OnlyEnd a → EndThenBegin b → EndThenBegin (a ++ b)
begin-append [] b p q = q
begin-append (Left ∷ more) b p q = begin-append more b p q
begin-append (Unwound ∷ more) b p q = begin-append more b p q
begin-append (Began m ∷ more) b p q = absurd p
begin-append (Loads classes ∷ more) b p q = absurd p

-- without a load
begin-ordered : (cs : List Change) → EndThenBegin cs → AreOrdered cs
begin-ordered [] o = tt
begin-ordered (Left ∷ more) o = o
begin-ordered (Unwound ∷ more) o = o
begin-ordered (Began m ∷ more) o = o
begin-ordered (Loads classes ∷ more) o = absurd o

loaded-ordered : (classes : List ℕ) (a : Turn) → EndThenBegin a.changes → AreOrdered (loaded_turn classes a).changes
loaded-ordered [] a o = begin-ordered a.changes o
loaded-ordered (c ∷ more) a o = o

-- one begins at most
begin-once : (cs : List Change) → EndThenBegin cs → begun_count cs ≤ 1
begin-once [] o = omega arith
begin-once (Left ∷ more) o = begin-once more o
begin-once (Unwound ∷ more) o = begin-once more o
begin-once (Began m ∷ []) o = omega arith
begin-once (Began m ∷ c ∷ more) o = absurd o
begin-once (Loads classes ∷ more) o = absurd o

pub ordered-once : (cs : List Change) → AreOrdered cs → begun_count cs ≤ 1
ordered-once [] o = omega arith
ordered-once (Loads classes ∷ more) o = begin-once more o
ordered-once (Left ∷ more) o = begin-once more o
ordered-once (Unwound ∷ more) o = begin-once more o
ordered-once (Began m ∷ more) o = begin-once (Began m ∷ more) o

-- ---- moves

-- nothing has begun so far, or no move applies any more
abbrev pub GoesWell : World → Listing → Turn → Type 0
GoesWell w t a = OnlyEnd a.changes ⊎ EndThenBegin a.changes × (move w t a.after ≡ None)

chosen-well : (w : World) (t : Listing) (test : Bool) (x y : Turn) → GoesWell w t x → GoesWell w t y → GoesWell w t (if test then x else y)
chosen-well w t true x y p q = p
chosen-well w t false x y p q = q

caught-well : (w : World) (t : Listing) (s : State) (r : ℕ) (f : Frame) (h : Option ℕ) → GoesWell w t (throw_caught w t s r f h)
caught-well w t s r f None = inl tt
caught-well w t s r f (Some target) = inl tt

-- with a frame on top and nothing thrown no move applies
none_thrown-stops : (w : World) (t : Listing) (s : State) (f : Frame) (below : List Entry) → s.ending ≡ None → s.thrown ≡ None → s.stack ≡ Active f ∷ below → move w t s ≡ None
none_thrown-stops w t s f below open' none_thrown top =
    ap (λ e. moves w t s e s.thrown s.stack) open' ∙ (ap (λ thrown. moves w t s None thrown s.stack) none_thrown ∙ ap (moves w t s None None) top)

runs-well : (w : World) (t : Listing) (s : State) → s.ending ≡ None → s.thrown ≡ None → (c : ℕ) (m : Option ℕ) → GoesWell w t (runs_initializer w t s c m)
runs-well w t s open' none_thrown c None = inl tt
runs-well w t s open' none_thrown c (Some m) =
    let after : State = with_frame (at_part s c Finish) (new_frame w t m []) in
    chosen-well w t (nat_lt (live_in s.stack) most_live) (record { after = after; changes = Began m ∷ [] }) _
    (inr (tt, none_thrown-stops w t after (new_frame w t m []) (Initializing c Finish ∷ s.stack) open' none_thrown refl)) (inl tt)

main-well : (w : World) (t : Listing) (s : State) → s.ending ≡ None → s.thrown ≡ None → (b : Bool) → GoesWell w t (main_or_end w t s b)
main-well w t s open' none_thrown true = inl tt
main-well w t s open' none_thrown false =
    let f : Frame = new_frame w t w.program.main argument_array in
    let after : State = record s { begun = true; stack = Active f ∷ [] } in
    chosen-well w t (has_room w w.program.main argument_array) _ _ (inr (tt, none_thrown-stops w t after f [] open' none_thrown refl)) (inl tt)

pub moves-well : (w : World) (t : Listing) (s : State) (ending : Option Ending) (thrown : Option ℕ) (stack : List Entry) → s.ending ≡ ending → s.thrown ≡ thrown
    → IfSome (moves w t s ending thrown stack) (GoesWell w t)
moves-well w t s (Some e) thrown stack open' none_thrown = tt
moves-well w t s None (Some r) [] open' none_thrown = inl tt
moves-well w t s None (Some r) (Active f ∷ below) open' none_thrown = caught-well w t (record s { stack = below }) r f (handler_for w (class_of w.program s.shared r) f.place (t.handlers f.version))
moves-well w t s None (Some r) (Initializing c part ∷ below) open' none_thrown = inl tt
moves-well w t s None None [] open' none_thrown = main-well w t s open' none_thrown s.begun
moves-well w t s None None (Active f ∷ below) open' none_thrown = tt
moves-well w t s None None (Initializing c Constants ∷ below) open' none_thrown = inl tt
moves-well w t s None None (Initializing c Superclass ∷ below) open' none_thrown = inl tt
moves-well w t s None None (Initializing c Initializer ∷ below) open' none_thrown = runs-well w t (record s { stack = below }) open' none_thrown c (initializer_of w.program c)
moves-well w t s None None (Initializing c Finish ∷ below) open' none_thrown = inl tt

then-well : (w : World) (t : Listing) (a next : Turn) → OnlyEnd a.changes → GoesWell w t next → GoesWell w t (then_turn a next)
then-well w t a next p (inl q) = inl (end-append a.changes next.changes p q)
then-well w t a next p (inr q) = inr (begin-append a.changes next.changes p q.0, q.1)

goes-well : (w : World) (t : Listing) (a : Turn) → GoesWell w t a → IfSome (move w t a.after) (λ next. GoesWell w t (then_turn a next))
goes-well w t a (inl p) =
    IfSome_then (move w t a.after) {P = GoesWell w t} {Q = λ next. GoesWell w t (then_turn a next)}
    (moves-well w t a.after a.after.ending a.after.thrown a.after.stack refl refl) (λ next q. then-well w t a next p q)
goes-well w t a (inr p) = subst (λ found. IfSome found (λ next. GoesWell w t (then_turn a next))) (sym p.1) tt

well-begins : (w : World) (t : Listing) (a : Turn) → GoesWell w t a → EndThenBegin a.changes
well-begins w t a (inl p) = end-begin a.changes p
well-begins w t a (inr p) = p.0

settled-begins : (w : World) (t : Listing) (a : Turn) → GoesWell w t a → EndThenBegin (turn_settled w t a).changes
settled-begins w t a p = well-begins w t (turn_settled w t a) (settled-keeps w t (GoesWell w t) (goes-well w t) a p)

-- ---- a step

beside-well : (w : World) (t : Listing) (s : State) (f : Frame) (m : ℕ) (args : List Datum) (below : Operands) (live : ℕ) → s.ending ≡ None → s.thrown ≡ None
    → GoesWell w t (begins_beside w t s f m args below live)
beside-well w t s f m args below live open' none_thrown =
    let after : State = (begins w t s f m args below).after in
    chosen-well w t (nat_lt live most_live) (begins w t s f m args below) _
    (inr (tt, none_thrown-stops w t after (new_frame w t m args) (Active (record f { operands = below }) ∷ s.stack) open' none_thrown refl)) (inl tt)

applies-well : (w : World) (t : Listing) (i : Instruction) (outcome : Outcome) (s : State) (f : Frame) → s.ending ≡ None → s.thrown ≡ None → GoesWell w t (applies w t i outcome s f)
applies-well w t i (GoesOn l o to) s f open' none_thrown = inl tt
applies-well w t i Subroutine s f open' none_thrown = inl tt
applies-well w t i (Invokes m args below) s f open' none_thrown =
    let live = suc (live_in s.stack) in
    chosen-well w t (has_room w m args) (begins_beside w t s f m args below live) _ (beside-well w t s f m args below live open' none_thrown) (inl tt)
applies-well w t i (Returns d) s f open' none_thrown = inl tt
applies-well w t i (Throws r) s f open' none_thrown = inl tt
applies-well w t i (Raises c message) s f open' none_thrown = inl tt
applies-well w t i (Initializes c) s f open' none_thrown = inl tt
applies-well w t i (Exits n) s f open' none_thrown = inl tt
applies-well w t i (Breaks true) s f open' none_thrown = inl tt
applies-well w t i (Breaks false) s f open' none_thrown = inl tt

attempt-begins : (w : World) (t : Listing) (i : Instruction) (s : State) (f : Frame) → s.ending ≡ None → s.thrown ≡ None → EndThenBegin (attempt w t i s f).changes
attempt-begins w t i s f open' none_thrown =
    let d : Done = does w i.operation s.shared f.locals f.operands in
    let after : State = record s { shared = d.shared; output = s.output ++ d.wrote } in
    settled-begins w t (applies w t i d.outcome after f) (applies-well w t i d.outcome after f open' none_thrown)

-- what goes on has neither ended nor thrown
open-ended : (ending : Option Ending) (thrown : Option ℕ) → is_going_on ending thrown ≡ true → ending ≡ None
open-ended None thrown e = refl
open-ended (Some x) thrown e = absurd (let f : false ≡ true = e in cc)

open-thrown : (ending : Option Ending) (thrown : Option ℕ) → is_going_on ending thrown ≡ true → thrown ≡ None
open-thrown ending None e = refl
open-thrown None (Some r) e = absurd (let f : false ≡ true = e in cc)
open-thrown (Some x) (Some r) e = absurd (let f : false ≡ true = e in cc)

quiet-end : (cs : List Change) → has_no_changes cs ≡ true → OnlyEnd cs
quiet-end [] e = tt
quiet-end (c ∷ cs) e = absurd (let f : false ≡ true = e in cc)

pub by-begins : (w : World) (t : Listing) (i : Instruction) (s : State) (f : Frame) → s.ending ≡ None → s.thrown ≡ None → EndThenBegin (steps_by w t i s f (does w i.operation s.shared f.locals f.operands)).changes
by-begins w t i s f open' none_thrown =
    let a = attempt w t i s f in
    let again : State = record a.after { stack = s.stack } in
    again-by (λ b. EndThenBegin b.changes) w t i s f (starts (does w i.operation s.shared f.locals f.operands).outcome) a (attempt-begins w t i s f open' none_thrown)
    (λ quiet on. begin-append a.changes (attempt w t i again f).changes (quiet-end a.changes quiet)
    (attempt-begins w t i again f (open-ended a.after.ending a.after.thrown on) (open-thrown a.after.ending a.after.thrown on)))

at-ordered : (w : World) (t : Listing) (s : State) (f : Frame) (found : Option Instruction) → s.ending ≡ None → s.thrown ≡ None → AreOrdered (steps_at w t s f found).changes
at-ordered w t s f None open' none_thrown = tt
at-ordered w t s f (Some i) open' none_thrown =
    let classes = loads w i.operation s.shared f.operands in
    let ready = with_classes_loaded classes s in
    let turn = steps_by w t i ready f (does w i.operation ready.shared f.locals f.operands) in
    let same = with_loaded-shared classes s in
    let ending : ready.ending ≡ s.ending = ap (λ (x : State). x.ending) same in
    let thrown : ready.thrown ≡ s.thrown = ap (λ (x : State). x.thrown) same in
    loaded-ordered classes turn (by-begins w t i ready f (ending ∙ open') (thrown ∙ none_thrown))

-- where no move applies and a frame is on top, nothing is thrown
pub stopped-none_thrown : (w : World) (t : Listing) (s : State) (thrown : Option ℕ) (f : Frame) (below : List Entry) → moves w t s None thrown (Active f ∷ below) ≡ None → thrown ≡ None
stopped-none_thrown w t s None f below e = refl
stopped-none_thrown w t s (Some r) f below e = absurd (none-some _ (sym e))

on-ordered : (w : World) (t u : Listing) (s : State) (ending : Option Ending) (stack : List Entry) → s.ending ≡ ending → moves w t s ending s.thrown stack ≡ None
    → AreOrdered (steps_on w u s ending stack).changes
on-ordered w t u s None (Active f ∷ below) open' stop = at-ordered w u (record s { stack = below }) f (u.at f.version f.place) open' (stopped-none_thrown w t s s.thrown f below stop)
on-ordered w t u s None [] open' stop = tt
on-ordered w t u s None (Initializing c part ∷ below) open' stop = tt
on-ordered w t u s (Some e) stack open' stop = tt

-- from a normal state; the listing may be another one than the one before
pub step-ordered : (w : World) (t u : Listing) (s : State) → move w t s ≡ None → AreOrdered (step w u s).changes
step-ordered w t u s stop = on-ordered w t u s s.ending s.stack refl stop

-- behind what the start loads
pub started-begins : (w : World) (t : Listing) → EndThenBegin (turn_settled w t (still (starts_with w))).changes
started-begins w t = settled-begins w t (still (starts_with w)) (inl tt)

pub start-ordered : (w : World) (t : Listing) → AreOrdered (start w t).changes
start-ordered w t = loaded-ordered (main_loads w) (turn_settled w t (still (starts_with w))) (started-begins w t)

-- ---- a step ends in a normal state

attempt-stops : (w : World) (t : Listing) (i : Instruction) (s : State) (f : Frame) → move w t (attempt w t i s f).after ≡ None
attempt-stops w t i s f =
    let d : Done = does w i.operation s.shared f.locals f.operands in
    settled-stops w t (applies w t i d.outcome (record s { shared = d.shared; output = s.output ++ d.wrote }) f)

at-stops : (w : World) (t : Listing) (s : State) (f : Frame) (found : Option Instruction) → move w t (steps_at w t s f found).after ≡ None
at-stops w t s f None = refl
at-stops w t s f (Some i) =
    let classes = loads w i.operation s.shared f.operands in
    let ready = with_classes_loaded classes s in
    let d = does w i.operation ready.shared f.locals f.operands in
    let a = attempt w t i ready f in
    ap (move w t) (loaded-after classes (steps_by w t i ready f d))
    ∙ again-by (λ b. move w t b.after ≡ None) w t i ready f (starts d.outcome) a (attempt-stops w t i ready f) (λ quiet on. attempt-stops w t i (record a.after { stack = ready.stack }) f)

-- without a frame on top some move applies, or the run has ended
moving : (w : World) (t : Listing) (s : State) (thrown : Option ℕ) → moves w t s None thrown [] ≡ None → ⊥
moving w t s None e = none-some _ (sym e)
moving w t s (Some r) e = none-some _ (sym e)

initializing : (w : World) (t : Listing) (s : State) (thrown : Option ℕ) (c : ℕ) (part : Part) (below : List Entry) → moves w t s None thrown (Initializing c part ∷ below) ≡ None → ⊥
initializing w t s None c part below e = none-some _ (sym e)
initializing w t s (Some r) c part below e = none-some _ (sym e)

on-stops : (w : World) (t u : Listing) (s : State) (ending : Option Ending) (stack : List Entry) → s.ending ≡ ending → moves w t s ending s.thrown stack ≡ None
    → move w u (steps_on w u s ending stack).after ≡ None
on-stops w t u s None (Active f ∷ below) same stop = at-stops w u (record s { stack = below }) f (u.at f.version f.place)
on-stops w t u s None [] same stop = absurd (moving w t s s.thrown stop)
on-stops w t u s None (Initializing c part ∷ below) same stop = absurd (initializing w t s s.thrown c part below stop)
on-stops w t u s (Some e) stack same stop = ap (λ x. moves w u s x s.thrown s.stack) same

pub step-stops : (w : World) (t u : Listing) (s : State) → move w t s ≡ None → move w u (step w u s).after ≡ None
step-stops w t u s stop = on-stops w t u s s.ending s.stack refl stop

pub start-stops : (w : World) (t : Listing) → move w t (start w t).after ≡ None
start-stops w t =
    let first = still (starts_with w) in
    ap (move w t) (loaded-after (main_loads w) (turn_settled w t first)) ∙ settled-stops w t first

-- ---- the run

-- every state of a run is normal
pub run-stops : (w : World) (t : Listing) (n : ℕ) → move w t (turn_in w t n).after ≡ None
run-stops w t zero = ap (λ (a : Turn). move w t a.after) (turn_in-zero w t) ∙ start-stops w t
run-stops w t (suc n) = ap (λ (a : Turn). move w t a.after) (turn_in-suc w t n) ∙ step-stops w t t (turn_in w t n).after (run-stops w t n)

pub run-ordered : (w : World) (t : Listing) (n : ℕ) → AreOrdered (turn_in w t n).changes
run-ordered w t zero = subst (λ (a : Turn). AreOrdered a.changes) (sym (turn_in-zero w t)) (start-ordered w t)
run-ordered w t (suc n) = subst (λ (a : Turn). AreOrdered a.changes) (sym (turn_in-suc w t n)) (step-ordered w t t (turn_in w t n).after (run-stops w t n))

-- in each step one activation begins at most
pub run-begins : (w : World) (t : Listing) (n : ℕ) → begun_count (turn_in w t n).changes ≤ 1
run-begins w t n = ordered-once (turn_in w t n).changes (run-ordered w t n)
