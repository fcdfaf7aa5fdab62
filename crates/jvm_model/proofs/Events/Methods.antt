-- The changes of a step tell exactly how the frames' methods changed.
use Rattle.std.proofs.Common.{◌≡◌, ℕ, suc, slice_get, Bool, true, false, List, [], ◌∷◌, ◌++◌, Option, Some, None, nat_le, nat_lt, if◌then◌else◌, refl, sym, ap, subst, ◌∙◌}
use Rattle.std.specs.Option.{IfSome, option_map}
use Rattle.std.proofs.lemmas.Option.{IfSome_then}
use Rattle.heap_objects.specs.declared.Value.TheVariants.{Ref, Addr}
use Rattle.jvm_model.specs.Basis.Data.{Datum, Locals, Operands, Frame, Entry, Active, Initializing, Constants, Superclass, Initializer, Finish, Phase, Fresh, Erroneous, Ending, State, Change, Turn, Instruction, Listing, Outcome, GoesOn, Subroutine, Invokes, Returns, Throws, Raises, Initializes, Exits, Breaks, Done, World}
use Rattle.frame_stack.specs.Widths.{height_of}
use Rattle.jvm_model.specs.Basis.Values.{as_value, with_value}
use Rattle.jvm_model.specs.Basis.Programs.{super_of, initializer_of}
use Rattle.jvm_model.specs.Basis.SharedState.{phase_of, class_of, arguments_fit}
use Rattle.jvm_model.specs.Instructions.Does.{does, loads}
use Rattle.jvm_model.specs.Running.Applies.{still, with_frame, breaks, goes, place_of, enters_subroutine, has_room, live_in, most_live, begins_beside, resumes, gives_back, applies}
use Rattle.jvm_model.specs.Running.Moves.{handler_for, own_at, throw_caught, after_super, with_super, runs_initializer, argument_array, main_or_end, moves, move, then_turn, turn_settled}
use Rattle.jvm_model.specs.Classes.Load.{Fault}
use Rattle.jvm_model.specs.Running.Run.{attempt, starts, has_no_changes, before, arguments_made, with_classes_loaded, loaded_turn, steps_by, steps_at, steps_on, step, main_loading, main_classes, loads_if, starts_unless, run_opened, heap_exhausted, starts_if, start, turn_in, turn_in-zero, turn_in-suc}
use Rattle.jvm_model.specs.Running.Changes.{methods, methods_after_change, methods_after_changes}
use Rattle.jvm_model.proofs.Running.Settles.{settled-keeps}
use Rattle.jvm_model.proofs.Running.Attempts.{again-by, with_loaded-shared}

-- from these methods the changes lead to those of the state
abbrev pub Tells : List ℕ → Turn → Type 0
Tells ms a = methods a.after.stack ≡ methods_after_changes ms a.changes

after_changes-append : (ms : List ℕ) (a b : List Change) → methods_after_changes ms (a ++ b) ≡ methods_after_changes (methods_after_changes ms a) b
after_changes-append ms [] b = refl
after_changes-append ms (c ∷ more) b = after_changes-append (methods_after_change ms c) more b

pub then-tells : (ms : List ℕ) (a b : Turn) → Tells ms a → Tells (methods a.after.stack) b → Tells ms (then_turn a b)
then-tells ms a b p q = q ∙ (ap (λ k. methods_after_changes k b.changes) p ∙ sym (after_changes-append ms a.changes b.changes))

chosen-tells : (ms : List ℕ) (test : Bool) (x y : Turn) → Tells ms x → Tells ms y → Tells ms (if test then x else y)
chosen-tells ms true x y p q = p
chosen-tells ms false x y p q = q

-- ---- outcomes

goes-methods : (s : State) (f : Frame) (own : ℕ) (l : Locals) (o : Operands) (place : Option ℕ) → methods (goes s f own l o place).stack ≡ f.method ∷ methods s.stack
goes-methods s f own l o None = refl
goes-methods s f own l o (Some place) = by (nat_le (height_of o) f.max_stack) where
  moved : Frame
  moved = record f { place = place; locals = l; operands = o }

  by : (b : Bool) → methods (if b then with_frame s moved else breaks s f own).stack ≡ f.method ∷ methods s.stack
  by true = refl
  by false = refl

enters-methods : (s : State) (f : Frame) (i : Instruction) (next : Option ℕ) → methods (enters_subroutine s f i next).stack ≡ f.method ∷ methods s.stack
enters-methods s f i None = refl
enters-methods s f i (Some next) = goes-methods s f i.own f.locals (Addr next ∷ f.operands) (slice_get i.targets 0)

resumes-methods : (s : State) (f : Frame) (d : Option Datum) (found : Option Instruction) → methods (resumes s f d found).stack ≡ f.method ∷ methods s.stack
resumes-methods s f d None = refl
resumes-methods s f d (Some i) = goes-methods s f i.own f.locals (with_value (option_map as_value d) f.operands) i.next

gives_back-methods : (t : Listing) (s : State) (d : Option Datum) (stack : List Entry) → s.stack ≡ stack → methods (gives_back t s d stack).stack ≡ methods stack
gives_back-methods t s d [] e = ap methods e
gives_back-methods t s d (Initializing c part ∷ below) e = ap methods e
gives_back-methods t s d (Active f ∷ below) e = resumes-methods (record s { stack = below }) f d (t.at f.version f.place)

beside-tells : (w : World) (t : Listing) (s : State) (f : Frame) (m : ℕ) (args : List Datum) (below : Operands) (live : ℕ)
    → Tells (f.method ∷ methods s.stack) (begins_beside w t s f m args below live)
beside-tells w t s f m args below live = chosen-tells (f.method ∷ methods s.stack) (nat_lt live most_live) _ _ refl refl

pub applies-tells : (w : World) (t : Listing) (i : Instruction) (outcome : Outcome) (s : State) (f : Frame) → Tells (f.method ∷ methods s.stack) (applies w t i outcome s f)
applies-tells w t i (GoesOn l o to) s f = goes-methods s f i.own l o (place_of i to)
applies-tells w t i Subroutine s f = enters-methods s f i i.next
applies-tells w t i (Invokes m args below) s f = chosen-tells (f.method ∷ methods s.stack) (has_room w m args) _ _ (beside-tells w t s f m args below (suc (live_in s.stack))) refl
applies-tells w t i (Returns d) s f = gives_back-methods t s d s.stack refl
applies-tells w t i (Throws r) s f = refl
applies-tells w t i (Raises c message) s f = refl
applies-tells w t i (Initializes c) s f = refl
applies-tells w t i (Exits n) s f = refl
applies-tells w t i (Breaks true) s f = refl
applies-tells w t i (Breaks false) s f = refl

-- ---- moves

caught-tells : (w : World) (t : Listing) (s : State) (r : ℕ) (f : Frame) (h : Option ℕ) → Tells (f.method ∷ methods s.stack) (throw_caught w t s r f h)
caught-tells w t s r f None = refl
caught-tells w t s r f (Some target) = goes-methods (record s { thrown = None }) f (own_at t f) f.locals (Ref r ∷ []) (Some target)

super-methods : (w : World) (s : State) (c d : ℕ) (p : Option Phase) → methods (after_super w s c d p).stack ≡ methods s.stack
super-methods w s c d (Some Fresh) = refl
super-methods w s c d (Some Erroneous) = refl
super-methods w s c d _ = refl

with_super-methods : (w : World) (s : State) (c : ℕ) (d : Option ℕ) → methods (with_super w s c d).stack ≡ methods s.stack
with_super-methods w s c None = refl
with_super-methods w s c (Some d) = super-methods w s c d (phase_of s.shared d)

runs-tells : (w : World) (t : Listing) (s : State) (c : ℕ) (m : Option ℕ) → Tells (methods s.stack) (runs_initializer w t s c m)
runs-tells w t s c None = refl
runs-tells w t s c (Some m) = chosen-tells (methods s.stack) (nat_lt (live_in s.stack) most_live) _ _ refl refl

main-tells : (w : World) (t : Listing) (s : State) (begun : Bool) → methods s.stack ≡ [] → Tells [] (main_or_end w t s begun)
main-tells w t s true e = e
main-tells w t s false e = chosen-tells [] (has_room w w.program.main argument_array) _ _ refl e

pub moves-tell : (w : World) (t : Listing) (s : State) (ending : Option Ending) (thrown : Option ℕ) (stack : List Entry) → s.stack ≡ stack → IfSome (moves w t s ending thrown stack) (Tells (methods stack))
moves-tell w t s (Some e) thrown stack same = tt
moves-tell w t s None (Some r) [] same = ap methods same
moves-tell w t s None (Some r) (Active f ∷ below) same = caught-tells w t (record s { stack = below }) r f (handler_for w (class_of w.program s.shared r) f.place (t.handlers f.version))
moves-tell w t s None (Some r) (Initializing c part ∷ below) same = refl
moves-tell w t s None None [] same = main-tells w t s s.begun (ap methods same)
moves-tell w t s None None (Active f ∷ below) same = tt
moves-tell w t s None None (Initializing c Constants ∷ below) same = refl
moves-tell w t s None None (Initializing c Superclass ∷ below) same = with_super-methods w (record s { stack = below }) c (super_of w.program c)
moves-tell w t s None None (Initializing c Initializer ∷ below) same = runs-tells w t (record s { stack = below }) c (initializer_of w.program c)
moves-tell w t s None None (Initializing c Finish ∷ below) same = refl

pub settled-tells : (w : World) (t : Listing) (ms : List ℕ) (a : Turn) → Tells ms a → Tells ms (turn_settled w t a)
settled-tells w t ms a p = settled-keeps w t (Tells ms)
    (λ b q. IfSome_then (move w t b.after) {P = Tells (methods b.after.stack)} {Q = λ next. Tells ms (then_turn b next)}
    (moves-tell w t b.after b.after.ending b.after.thrown b.after.stack refl) (λ next r. then-tells ms b next q r)) a p

-- ---- a step

attempt-tells : (w : World) (t : Listing) (i : Instruction) (s : State) (f : Frame) → Tells (f.method ∷ methods s.stack) (attempt w t i s f)
attempt-tells w t i s f =
    let d : Done = does w i.operation s.shared f.locals f.operands in
    let after : State = record s { shared = d.shared; output = s.output ++ d.wrote } in
    settled-tells w t (f.method ∷ methods s.stack) (applies w t i d.outcome after f) (applies-tells w t i d.outcome after f)

-- without changes the methods are the same
quiet-same : (ms : List ℕ) (changes : List Change) → has_no_changes changes ≡ true → methods_after_changes ms changes ≡ ms
quiet-same ms [] e = refl
quiet-same ms (c ∷ more) e = absurd (let f : false ≡ true = e in cc)

by-tells : (w : World) (t : Listing) (i : Instruction) (s : State) (f : Frame) → Tells (f.method ∷ methods s.stack) (steps_by w t i s f (does w i.operation s.shared f.locals f.operands))
by-tells w t i s f =
    let ms = f.method ∷ methods s.stack in
    let a = attempt w t i s f in
    let second = attempt w t i (record a.after { stack = s.stack }) f in
    let first = attempt-tells w t i s f in
    again-by (Tells ms) w t i s f (starts (does w i.operation s.shared f.locals f.operands).outcome) a first
    (λ quiet on. then-tells ms a second first (subst (λ k. Tells k second) (sym (first ∙ quiet-same ms a.changes quiet)) (attempt-tells w t i (record a.after { stack = s.stack }) f)))

-- loading changes no frame
loaded-tells : (classes ms : List ℕ) (a : Turn) → Tells ms a → Tells ms (loaded_turn classes a)
loaded-tells [] ms a p = p
loaded-tells (c ∷ more) ms a p = p

at-tells : (w : World) (t : Listing) (s : State) (f : Frame) (found : Option Instruction) → Tells (f.method ∷ methods s.stack) (steps_at w t s f found)
at-tells w t s f None = refl
at-tells w t s f (Some i) =
    let classes = loads w i.operation s.shared f.operands in
    let ready = with_classes_loaded classes s in
    let turn = steps_by w t i ready f (does w i.operation ready.shared f.locals f.operands) in
    let same : ready.stack ≡ s.stack = ap (λ (x : State). x.stack) (with_loaded-shared classes s) in
    loaded-tells classes (f.method ∷ methods s.stack) turn (subst (λ stack. Tells (f.method ∷ methods stack) turn) same (by-tells w t i ready f))

on-tells : (w : World) (t : Listing) (s : State) (ending : Option Ending) (stack : List Entry) → s.stack ≡ stack → Tells (methods stack) (steps_on w t s ending stack)
on-tells w t s None (Active f ∷ below) e = at-tells w t (record s { stack = below }) f (t.at f.version f.place)
on-tells w t s _ stack e = ap methods e

pub step-tells : (w : World) (t : Listing) (s : State) → methods (step w t s).after.stack ≡ methods_after_changes (methods s.stack) (step w t s).changes
step-tells w t s = on-tells w t s s.ending s.stack refl

-- no frame is there in the start
starts_unless-methods : (w : World) (fault : Option Fault) (s : State) → methods s.stack ≡ [] → methods (starts_unless w fault s).stack ≡ []
starts_unless-methods w None s e = refl
starts_unless-methods w (Some fault) s e = e

pub start-tells : (w : World) (t : Listing) → methods (start w t).after.stack ≡ methods_after_changes [] (start w t).changes
start-tells w t = by (arguments_fit w.program) where
  by : (b : Bool) → Tells [] (loaded_turn (loads_if w b) (turn_settled w t (still (starts_if w b))))
  by true =
      let same : (run_opened w).stack ≡ [] = ap (λ (x : State). x.stack) (with_loaded-shared (main_classes w) (arguments_made w (before w))) in
      let none = starts_unless-methods w (main_loading w).fault (run_opened w) (ap methods same) in
      loaded-tells (main_classes w) [] (turn_settled w t (still (starts_if w true))) (settled-tells w t [] (still (starts_if w true)) none)
  by false = settled-tells w t [] (still (heap_exhausted w)) refl

-- ---- the run

-- the frames' methods after a step are those before it, changed as the step tells
pub run-tells : (w : World) (t : Listing) (n : ℕ) → methods (turn_in w t (suc n)).after.stack ≡ methods_after_changes (methods (turn_in w t n).after.stack) (turn_in w t (suc n)).changes
run-tells w t n = subst (Tells (methods (turn_in w t n).after.stack)) (sym (turn_in-suc w t n)) (step-tells w t (turn_in w t n).after)

-- and after the start they are those that it tells of
pub run-tells-first : (w : World) (t : Listing) → methods (turn_in w t 0).after.stack ≡ methods_after_changes [] (turn_in w t 0).changes
run-tells-first w t = subst (Tells []) (sym (turn_in-zero w t)) (start-tells w t)
