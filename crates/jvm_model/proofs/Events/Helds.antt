-- The changes of a step tell exactly how the live activations changed, each with the mark of its version.
use Rattle.std.proofs.Common.{◌≡◌, ℕ, suc, slice_get, Bool, true, false, List, [], ◌∷◌, ◌++◌, Option, Some, None, nat_le, nat_lt, if◌then◌else◌, refl, sym, ap, subst, ◌∙◌}
use Rattle.std.specs.Option.{IfSome, option_map}
use Rattle.std.proofs.lemmas.Option.{IfSome_then}
use Rattle.heap_objects.specs.declared.Value.TheVariants.{Ref, Addr}
use Rattle.jvm_model.specs.declared.event.Mark.{Mark}
use Rattle.jvm_model.specs.Basis.Data.{Datum, Locals, Operands, Frame, Entry, Active, Initializing, Constants, Superclass, Initializer, Finish, Phase, Fresh, Erroneous, Ending, State, Change, Turn, Instruction, Listing, Outcome, GoesOn, Subroutine, Invokes, Returns, Throws, Raises, Initializes, Exits, Breaks, Done, World}
use Rattle.frame_stack.specs.Widths.{height_of}
use Rattle.jvm_model.specs.Basis.Values.{as_value, with_value}
use Rattle.jvm_model.specs.Basis.Programs.{super_of, initializer_of}
use Rattle.jvm_model.specs.Basis.SharedState.{phase_of, class_of, arguments_fit}
use Rattle.jvm_model.specs.Instructions.Does.{does, loads}
use Rattle.jvm_model.specs.Running.Applies.{still, with_frame, breaks, goes, place_of, enters_subroutine, has_room, live_in, most_live, begins_beside, resumes, gives_back, applies}
use Rattle.jvm_model.specs.Running.Moves.{handler_for, own_at, throw_caught, after_super, with_super, runs_initializer, argument_array, main_or_end, moves, move, then_turn, turn_settled}
use Rattle.jvm_model.specs.Classes.Load.{Fault}
use Rattle.jvm_model.specs.Running.Run.{attempt, starts, has_no_changes, before, arguments_made, with_classes_loaded, loaded_turn, steps_by, steps_at, steps_on, step, main_loading, main_classes, loads_if, starts_unless, run_opened, heap_exhausted, starts_if, start}
use Rattle.jvm_model.specs.Turns.Told.{Held, frame_held, helds, mark_now, held_after, all_held}
use Rattle.jvm_model.proofs.Running.Settles.{settled-keeps}
use Rattle.jvm_model.proofs.Running.Attempts.{again-by, with_loaded-shared}

all_held-append : (marks : ℕ → Mark) (ms : List Held) (a b : List Change) → all_held marks ms (a ++ b) ≡ all_held marks (all_held marks ms a) b
all_held-append marks ms [] b = refl
all_held-append marks ms (c ∷ more) b = all_held-append marks (held_after marks ms c) more b

module _ (v : ℕ → Mark) where
  -- from these live activations the changes lead to those of the state
  abbrev Tells : Listing → List Held → Turn → Type 0
  Tells t ms a = helds v a.after.stack ≡ all_held (mark_now v t) ms a.changes

  then-tells : (t : Listing) (ms : List Held) (a b : Turn) → Tells t ms a → Tells t (helds v a.after.stack) b → Tells t ms (then_turn a b)
  then-tells t ms a b p q = q ∙ (ap (λ k. all_held (mark_now v t) k b.changes) p ∙ sym (all_held-append (mark_now v t) ms a.changes b.changes))

  chosen-tells : (t : Listing) (ms : List Held) (test : Bool) (x y : Turn) → Tells t ms x → Tells t ms y → Tells t ms (if test then x else y)
  chosen-tells t ms true x y p q = p
  chosen-tells t ms false x y p q = q

  -- ---- outcomes

  goes-helds : (s : State) (f : Frame) (own : ℕ) (l : Locals) (o : Operands) (place : Option ℕ) → helds v (goes s f own l o place).stack ≡ frame_held v f ∷ helds v s.stack
  goes-helds s f own l o None = refl
  goes-helds s f own l o (Some place) = by (nat_le (height_of o) f.max_stack) where
    moved : Frame
    moved = record f { place = place; locals = l; operands = o }

    by : (b : Bool) → helds v (if b then with_frame s moved else breaks s f own).stack ≡ frame_held v f ∷ helds v s.stack
    by true = refl
    by false = refl

  enters-helds : (s : State) (f : Frame) (i : Instruction) (next : Option ℕ) → helds v (enters_subroutine s f i next).stack ≡ frame_held v f ∷ helds v s.stack
  enters-helds s f i None = refl
  enters-helds s f i (Some next) = goes-helds s f i.own f.locals (Addr next ∷ f.operands) (slice_get i.targets 0)

  resumes-helds : (s : State) (f : Frame) (d : Option Datum) (found : Option Instruction) → helds v (resumes s f d found).stack ≡ frame_held v f ∷ helds v s.stack
  resumes-helds s f d None = refl
  resumes-helds s f d (Some i) = goes-helds s f i.own f.locals (with_value (option_map as_value d) f.operands) i.next

  gives_back-helds : (t : Listing) (s : State) (d : Option Datum) (stack : List Entry) → s.stack ≡ stack → helds v (gives_back t s d stack).stack ≡ helds v stack
  gives_back-helds t s d [] e = ap (helds v) e
  gives_back-helds t s d (Initializing c part ∷ below) e = ap (helds v) e
  gives_back-helds t s d (Active f ∷ below) e = resumes-helds (record s { stack = below }) f d (t.at f.version f.place)

  beside-tells : (w : World) (t : Listing) (s : State) (f : Frame) (m : ℕ) (args : List Datum) (below : Operands) (live : ℕ)
      → Tells t (frame_held v f ∷ helds v s.stack) (begins_beside w t s f m args below live)
  beside-tells w t s f m args below live = chosen-tells t (frame_held v f ∷ helds v s.stack) (nat_lt live most_live) _ _ refl refl

  pub applies-tells : (w : World) (t : Listing) (i : Instruction) (outcome : Outcome) (s : State) (f : Frame) → Tells t (frame_held v f ∷ helds v s.stack) (applies w t i outcome s f)
  applies-tells w t i (GoesOn l o to) s f = goes-helds s f i.own l o (place_of i to)
  applies-tells w t i Subroutine s f = enters-helds s f i i.next
  applies-tells w t i (Invokes m args below) s f = chosen-tells t (frame_held v f ∷ helds v s.stack) (has_room w m args) _ _ (beside-tells w t s f m args below (suc (live_in s.stack))) refl
  applies-tells w t i (Returns d) s f = gives_back-helds t s d s.stack refl
  applies-tells w t i (Throws r) s f = refl
  applies-tells w t i (Raises c message) s f = refl
  applies-tells w t i (Initializes c) s f = refl
  applies-tells w t i (Exits n) s f = refl
  applies-tells w t i (Breaks true) s f = refl
  applies-tells w t i (Breaks false) s f = refl

  -- ---- moves

  caught-tells : (w : World) (t : Listing) (s : State) (r : ℕ) (f : Frame) (h : Option ℕ) → Tells t (frame_held v f ∷ helds v s.stack) (throw_caught w t s r f h)
  caught-tells w t s r f None = refl
  caught-tells w t s r f (Some target) = goes-helds (record s { thrown = None }) f (own_at t f) f.locals (Ref r ∷ []) (Some target)

  super-helds : (w : World) (s : State) (c d : ℕ) (p : Option Phase) → helds v (after_super w s c d p).stack ≡ helds v s.stack
  super-helds w s c d (Some Fresh) = refl
  super-helds w s c d (Some Erroneous) = refl
  super-helds w s c d _ = refl

  with_super-helds : (w : World) (s : State) (c : ℕ) (d : Option ℕ) → helds v (with_super w s c d).stack ≡ helds v s.stack
  with_super-helds w s c None = refl
  with_super-helds w s c (Some d) = super-helds w s c d (phase_of s.shared d)

  runs-tells : (w : World) (t : Listing) (s : State) (c : ℕ) (m : Option ℕ) → Tells t (helds v s.stack) (runs_initializer w t s c m)
  runs-tells w t s c None = refl
  runs-tells w t s c (Some m) = chosen-tells t (helds v s.stack) (nat_lt (live_in s.stack) most_live) _ _ refl refl

  main-tells : (w : World) (t : Listing) (s : State) (begun : Bool) → helds v s.stack ≡ [] → Tells t [] (main_or_end w t s begun)
  main-tells w t s true e = e
  main-tells w t s false e = chosen-tells t [] (has_room w w.program.main argument_array) _ _ refl e

  pub moves-tell : (w : World) (t : Listing) (s : State) (ending : Option Ending) (thrown : Option ℕ) (stack : List Entry) → s.stack ≡ stack → IfSome (moves w t s ending thrown stack) (Tells t (helds v stack))
  moves-tell w t s (Some e) thrown stack same = tt
  moves-tell w t s None (Some r) [] same = ap (helds v) same
  moves-tell w t s None (Some r) (Active f ∷ below) same = caught-tells w t (record s { stack = below }) r f (handler_for w (class_of w.program s.shared r) f.place (t.handlers f.version))
  moves-tell w t s None (Some r) (Initializing c part ∷ below) same = refl
  moves-tell w t s None None [] same = main-tells w t s s.begun (ap (helds v) same)
  moves-tell w t s None None (Active f ∷ below) same = tt
  moves-tell w t s None None (Initializing c Constants ∷ below) same = refl
  moves-tell w t s None None (Initializing c Superclass ∷ below) same = with_super-helds w (record s { stack = below }) c (super_of w.program c)
  moves-tell w t s None None (Initializing c Initializer ∷ below) same = runs-tells w t (record s { stack = below }) c (initializer_of w.program c)
  moves-tell w t s None None (Initializing c Finish ∷ below) same = refl

  pub settled-tells : (w : World) (t : Listing) (ms : List Held) (a : Turn) → Tells t ms a → Tells t ms (turn_settled w t a)
  settled-tells w t ms a p = settled-keeps w t (Tells t ms)
      (λ b q. IfSome_then (move w t b.after) {P = Tells t (helds v b.after.stack)} {Q = λ next. Tells t ms (then_turn b next)}
      (moves-tell w t b.after b.after.ending b.after.thrown b.after.stack refl) (λ next r. then-tells t ms b next q r)) a p

  -- ---- a step

  attempt-tells : (w : World) (t : Listing) (i : Instruction) (s : State) (f : Frame) → Tells t (frame_held v f ∷ helds v s.stack) (attempt w t i s f)
  attempt-tells w t i s f =
      let d : Done = does w i.operation s.shared f.locals f.operands in
      let after : State = record s { shared = d.shared; output = s.output ++ d.wrote } in
      settled-tells w t (frame_held v f ∷ helds v s.stack) (applies w t i d.outcome after f) (applies-tells w t i d.outcome after f)

  -- without changes they are the same
  quiet-same : (t : Listing) (ms : List Held) (changes : List Change) → has_no_changes changes ≡ true → all_held (mark_now v t) ms changes ≡ ms
  quiet-same t ms [] e = refl
  quiet-same t ms (c ∷ more) e = absurd (let f : false ≡ true = e in cc)

  by-tells : (w : World) (t : Listing) (i : Instruction) (s : State) (f : Frame) → Tells t (frame_held v f ∷ helds v s.stack) (steps_by w t i s f (does w i.operation s.shared f.locals f.operands))
  by-tells w t i s f =
      let ms = frame_held v f ∷ helds v s.stack in
      let a = attempt w t i s f in
      let second = attempt w t i (record a.after { stack = s.stack }) f in
      let first = attempt-tells w t i s f in
      again-by (Tells t ms) w t i s f (starts (does w i.operation s.shared f.locals f.operands).outcome) a first
      (λ quiet on. then-tells t ms a second first (subst (λ k. Tells t k second) (sym (first ∙ quiet-same t ms a.changes quiet)) (attempt-tells w t i (record a.after { stack = s.stack }) f)))

  -- loading changes no frame
  loaded-tells : (t : Listing) (classes : List ℕ) (ms : List Held) (a : Turn) → Tells t ms a → Tells t ms (loaded_turn classes a)
  loaded-tells t [] ms a p = p
  loaded-tells t (c ∷ more) ms a p = p

  at-tells : (w : World) (t : Listing) (s : State) (f : Frame) (found : Option Instruction) → Tells t (frame_held v f ∷ helds v s.stack) (steps_at w t s f found)
  at-tells w t s f None = refl
  at-tells w t s f (Some i) =
      let classes = loads w i.operation s.shared f.operands in
      let ready = with_classes_loaded classes s in
      let turn = steps_by w t i ready f (does w i.operation ready.shared f.locals f.operands) in
      let same : ready.stack ≡ s.stack = ap (λ (x : State). x.stack) (with_loaded-shared classes s) in
      loaded-tells t classes (frame_held v f ∷ helds v s.stack) turn (subst (λ stack. Tells t (frame_held v f ∷ helds v stack) turn) same (by-tells w t i ready f))

  on-tells : (w : World) (t : Listing) (s : State) (ending : Option Ending) (stack : List Entry) → s.stack ≡ stack → Tells t (helds v stack) (steps_on w t s ending stack)
  on-tells w t s None (Active f ∷ below) e = at-tells w t (record s { stack = below }) f (t.at f.version f.place)
  on-tells w t s _ stack e = ap (helds v) e

  pub step-tells : (w : World) (t : Listing) (s : State) → helds v (step w t s).after.stack ≡ all_held (mark_now v t) (helds v s.stack) (step w t s).changes
  step-tells w t s = on-tells w t s s.ending s.stack refl

  -- no frame is there in the start
  starts_unless-helds : (w : World) (fault : Option Fault) (s : State) → helds v s.stack ≡ [] → helds v (starts_unless w fault s).stack ≡ []
  starts_unless-helds w None s e = refl
  starts_unless-helds w (Some fault) s e = e

  pub start-tells : (w : World) (t : Listing) → helds v (start w t).after.stack ≡ all_held (mark_now v t) [] (start w t).changes
  start-tells w t = by (arguments_fit w.program) where
    by : (b : Bool) → Tells t [] (loaded_turn (loads_if w b) (turn_settled w t (still (starts_if w b))))
    by true =
        let same : (run_opened w).stack ≡ [] = ap (λ (x : State). x.stack) (with_loaded-shared (main_classes w) (arguments_made w (before w))) in
        let none = starts_unless-helds w (main_loading w).fault (run_opened w) (ap (helds v) same) in
        loaded-tells t (main_classes w) [] (turn_settled w t (still (starts_if w true))) (settled-tells w t [] (still (starts_if w true)) none)
    by false = settled-tells w t [] (still (heap_exhausted w)) refl
