-- The moves of a state stop at the first of their changes that is told, and what is left behind that is what is left of
-- the step.
use Rattle.std.proofs.Common.{nat_lt, ◌≡◌, ℕ, zero, suc, ◌≤◌, ◌<◌, Bool, true, false, List, [], ◌∷◌, ◌++◌, Option, Some, None, if◌then◌else◌, refl, sym, ap, ◌∙◌, arith}
use Rattle.std.specs.Option.{IfSome, option_map_or}
use Rattle.jvm_model.specs.declared.event.EventKind.{EventKind}
use Rattle.jvm_model.specs.declared.event.EventKind.TheVariants as kind
use Rattle.jvm_model.specs.declared.event.Mark.{Mark}
use Rattle.jvm_model.specs.declared.event.Mark.TheVariants.{Off, Plain, Root}
use Rattle.jvm_model.specs.Basis.Data.{Constants, Superclass, Initializer, Finish, Frame, Entry, Active, Initializing, Ending, State, Change, Loads, Began, Left, Unwound, Turn, Listing, World}
use Rattle.jvm_model.specs.Basis.Programs.{initializer_of}
use Rattle.jvm_model.specs.Basis.SharedState.{class_of}
use Rattle.jvm_model.specs.Running.Applies.{has_room, live_in, most_live}
use Rattle.jvm_model.specs.Running.Moves.{handler_for, throw_caught, runs_initializer, argument_array, main_or_end, moves, move, moves_left}
use Rattle.jvm_model.specs.Turns.Told.{Held, held_after, all_held, helds, mark_now}
use Rattle.jvm_model.specs.Turns.Rest.{Moves, rest}
use Rattle.jvm_model.specs.Turns.Pauses.{end_due, later_of, unless_off, Due, Nothing, Ends, Begins, change_due, changes_due, stop_by, stop_in, Pause, pause_by, pauses, step_paused, passed_by, IsPaused}
use Rattle.jvm_model.proofs.Running.Settles.{move-less}
use Rattle.jvm_model.proofs.Events.Helds.{moves-tell}
use Rattle.jvm_model.proofs.Turns.Rests.{move-part, no-part, then-part, nothing-left}

-- ---- one move changes one thing at most

-- no move returns, and none loads
abbrev pub IsOfMove : Change → Type 0
IsOfMove Unwound = Unit {0}
IsOfMove (Began m) = Unit {0}
IsOfMove Left = ⊥
IsOfMove (Loads classes) = ⊥

pub data OneAtMost : List Change → Type 0 where
  none : OneAtMost []
  one : (c : Change) → IsOfMove c → OneAtMost (c ∷ [])

chosen-one : (b : Bool) (x y : Turn) → OneAtMost x.changes → OneAtMost y.changes → OneAtMost (if b then x else y).changes
chosen-one true x y p q = p
chosen-one false x y p q = q

caught-one : (w : World) (t : Listing) (s : State) (r : ℕ) (f : Frame) (h : Option ℕ) → OneAtMost (throw_caught w t s r f h).changes
caught-one w t s r f None = one Unwound tt
caught-one w t s r f (Some target) = none

runs-one : (w : World) (t : Listing) (s : State) (c : ℕ) (m : Option ℕ) → OneAtMost (runs_initializer w t s c m).changes
runs-one w t s c None = none
runs-one w t s c (Some m) = chosen-one (nat_lt (live_in s.stack) most_live) _ _ (one (Began m) tt) none

main-one : (w : World) (t : Listing) (s : State) (b : Bool) → OneAtMost (main_or_end w t s b).changes
main-one w t s true = none
main-one w t s false = chosen-one (has_room w w.program.main argument_array) _ _ (one (Began w.program.main) tt) none

moves-one : (w : World) (t : Listing) (s : State) (ending : Option Ending) (thrown : Option ℕ) (stack : List Entry)
    → IfSome (moves w t s ending thrown stack) (λ (next : Turn). OneAtMost next.changes)
moves-one w t s (Some e) thrown stack = tt
moves-one w t s None (Some r) [] = none
moves-one w t s None (Some r) (Active f ∷ below) = caught-one w t (record s { stack = below }) r f (handler_for w (class_of w.program s.shared r) f.place (t.handlers f.version))
moves-one w t s None (Some r) (Initializing c part ∷ below) = none
moves-one w t s None None [] = main-one w t s s.begun
moves-one w t s None None (Active f ∷ below) = tt
moves-one w t s None None (Initializing c Constants ∷ below) = none
moves-one w t s None None (Initializing c Superclass ∷ below) = none
moves-one w t s None None (Initializing c Initializer ∷ below) = runs-one w t (record s { stack = below }) c (initializer_of w.program c)
moves-one w t s None None (Initializing c Finish ∷ below) = none

pub move-one : (w : World) (t : Listing) (s : State) → IfSome (move w t s) (λ (next : Turn). OneAtMost next.changes)
move-one w t s = moves-one w t s s.ending s.thrown s.stack

-- ---- the pause

none-more : (w : World) (t : Listing) (s : State) (o : Option Turn) → IfSome o (λ next. moves_left next.after < moves_left s) → moves_left s ≤ 0 → o ≡ None
none-more w t s None less le = refl
none-more w t s (Some next) less le = absurd (omega arith)

begins_nothing : Begins ≡ Nothing → ⊥
begins_nothing e = cc

ends_nothing : (k : EventKind) → Ends k ≡ Nothing → ⊥
ends_nothing k e = cc

module _ (w : World) (t : Listing) (v : ℕ → Mark) where
  abbrev marks : ℕ → Mark
  marks = mark_now v t

  -- what is left of a state to which a move applies
  rest-move : (s : State) (next : Turn) → move w t s ≡ Some next → (rest w t Moves s).changes ≡ next.changes ++ (rest w t Moves next.after).changes
  rest-move s next e = (move-part w t s next e).tells

  rest-none : (s : State) → move w t s ≡ None → (rest w t Moves s).changes ≡ []
  rest-none s e = ap (λ (a : Turn). a.changes) (nothing-left w t s e)

  paused-none : (n : ℕ) (s : State) → move w t s ≡ None → IsPaused w t v n s (record { state = s; passed = n; due = Nothing })
  paused-none n s e = record {
    changes = [];
    part = no-part w t Moves s;
    count = refl;
    stops = ap (stop_in marks n (helds v s.stack)) (rest-none s e);
    ends = λ due. e;
    unwinds = λ end. (let h : false ≡ true = end in cc);
    later = refl;
  }

  -- behind a silent move
  paused-on : (n : ℕ) (s : State) (next : Turn) (p : Pause) → move w t s ≡ Some next
      → stop_in marks n (helds v s.stack) (next.changes ++ (rest w t Moves next.after).changes) ≡ stop_in marks (passed_by n next.changes) (helds v next.after.stack) (rest w t Moves next.after).changes
      → ((changes : List Change) → passed_by (passed_by n next.changes) changes ≡ passed_by n (next.changes ++ changes))
      → IsPaused w t v (passed_by n next.changes) next.after p → IsPaused w t v n s p
  paused-on n s next p e silent counts is = record {
    changes = next.changes ++ is.changes;
    part = then-part w t Moves Moves Moves s next.after p.state next.changes is.changes (move-part w t s next e) is.part;
    count = is.count ∙ counts is.changes;
    stops = ap (stop_in marks n (helds v s.stack)) (rest-move s next e) ∙ (silent ∙ is.stops);
    ends = is.ends;
    unwinds = is.unwinds;
    later = is.later;
  }

  due_end : (k : EventKind) (live : List Held) (c : Change) → change_due marks live c ≡ Ends k → IsOfMove c → c ≡ Unwound
  due_end k live Unwound e other = refl
  due_end k live Left e other = absurd other
  due_end k live (Loads classes) e other = absurd other
  due_end k live (Began m) e other = absurd (by (marks m) e) where
    by : (mark : Mark) → unless_off mark Begins ≡ Ends k → ⊥
    by Off e = (let h : Nothing ≡ Ends k = e in cc)
    by Plain e = (let h : Begins ≡ Ends k = e in cc)
    by Root e = (let h : Begins ≡ Ends k = e in cc)

  unwinding : (k : EventKind) (live : List Held) (c : Change) → change_due marks live c ≡ Ends k → c ≡ Unwound → Ends k ≡ Ends kind.Unwind
  unwinding k live c e is = sym e ∙ (ap (change_due marks live) is ∙ ends live (sym (ap (change_due marks live) is) ∙ e)) where
    unless-ends : (m : Mark) → unless_off m (Ends kind.Unwind) ≡ Ends k → unless_off m (Ends kind.Unwind) ≡ Ends kind.Unwind
    unless-ends Off e = absurd (let h : Nothing ≡ Ends k = e in cc)
    unless-ends Plain e = refl
    unless-ends Root e = refl

    ends : (live : List Held) → end_due kind.Unwind live ≡ Ends k → end_due kind.Unwind live ≡ Ends kind.Unwind
    ends [] e = absurd (let h : Nothing ≡ Ends k = e in cc)
    ends (h ∷ more) e = unless-ends h.mark e

  paused-by : (n : ℕ) (s after : State) (c : Change) (later : Pause) → IsOfMove c → move w t s ≡ Some (record { after = after; changes = c ∷ [] })
      → helds v after.stack ≡ held_after marks (helds v s.stack) c
      → IsPaused w t v (suc n) after later
      → (d : Due) → change_due marks (helds v s.stack) c ≡ d → IsPaused w t v n s (pause_by s after n (c ∷ []) d later)
  paused-by n s after c later other e held is Nothing due =
      paused-on n s (record { after = after; changes = c ∷ [] }) later e
      (ap (λ d. stop_by (helds v s.stack) (held_after marks (helds v s.stack) c) n d (stop_in marks (suc n) (held_after marks (helds v s.stack) c) (rest w t Moves after).changes)) due
      ∙ ap (λ live. stop_in marks (suc n) live (rest w t Moves after).changes) (sym held))
      (λ changes. refl) is
  paused-by n s after c later other e held is (Ends k) due = record {
    changes = [];
    part = no-part w t Moves s;
    count = refl;
    stops = ap (stop_in marks n (helds v s.stack)) (rest-move s (record { after = after; changes = c ∷ [] }) e)
        ∙ ap (λ d. stop_by (helds v s.stack) (held_after marks (helds v s.stack) c) n d (stop_in marks (suc n) (held_after marks (helds v s.stack) c) (rest w t Moves after).changes)) due;
    ends = λ nothing. absurd (ends_nothing k nothing);
    unwinds = λ end. record { after = after; next = e ∙ ap (λ k. Some (record { after = after; changes = k ∷ [] })) (due_end k (helds v s.stack) c due other) };
    later = ap later_of (unwinding k (helds v s.stack) c due (due_end k (helds v s.stack) c due other));
  }
  paused-by n s after c later other e held is Begins due = record {
    changes = c ∷ [];
    part = move-part w t s (record { after = after; changes = c ∷ [] }) e;
    count = refl;
    stops = ap (stop_in marks n (helds v s.stack)) (rest-move s (record { after = after; changes = c ∷ [] }) e)
        ∙ (ap (λ d. stop_by (helds v s.stack) (held_after marks (helds v s.stack) c) n d (stop_in marks (suc n) (held_after marks (helds v s.stack) c) (rest w t Moves after).changes)) due
        ∙ ap (λ live. record { live = live; passed = suc n; due = Begins }) (sym held));
    ends = λ nothing. absurd (begins_nothing nothing);
    unwinds = λ end. (let h : false ≡ true = end in cc);
    later = refl;
  }

  paused-move : (n : ℕ) (s after : State) (changes : List Change) (later : Pause) → OneAtMost changes → move w t s ≡ Some (record { after = after; changes = changes })
      → helds v after.stack ≡ all_held marks (helds v s.stack) changes
      → IsPaused w t v (passed_by n changes) after later
      → IsPaused w t v n s (pause_by s after n changes (changes_due marks (helds v s.stack) changes) later)
  paused-move n s after [] later none e held is =
      paused-on n s (record { after = after; changes = [] }) later e (ap (λ live. stop_in marks n live (rest w t Moves after).changes) (sym held)) (λ changes. refl) is
  paused-move n s after _ later (one c other) e held is = paused-by n s after c later other e held is (change_due marks (helds v s.stack) c) refl

  pauses-by : (k n : ℕ) (s : State) → ((next : Turn) → moves_left next.after ≤ k → IsPaused w t v (passed_by n next.changes) next.after (pauses w t v k (passed_by n next.changes) next.after))
      → (o : Option Turn) → move w t s ≡ o → IfSome o (λ next. moves_left next.after < moves_left s) → IfSome o (λ (next : Turn). OneAtMost next.changes)
      → IfSome o (λ next. helds v next.after.stack ≡ all_held marks (helds v s.stack) next.changes) → moves_left s ≤ suc k
      → IsPaused w t v n s (option_map_or (λ (next : Turn). pause_by s next.after n next.changes (changes_due marks (helds v s.stack) next.changes)
      (pauses w t v k (passed_by n next.changes) next.after)) o (record { state = s; passed = n; due = Nothing }))
  pauses-by k n s later None e less single held le = paused-none n s e
  pauses-by k n s later (Some next) e less single held le =
      paused-move n s next.after next.changes (pauses w t v k (passed_by n next.changes) next.after) single e held (later next (omega arith))

  pub pauses-is : (k n : ℕ) (s : State) → moves_left s ≤ k → IsPaused w t v n s (pauses w t v k n s)
  pauses-is zero n s le = paused-none n s (none-more w t s (move w t s) (move-less w t s) le)
  pauses-is (suc k) n s le =
      pauses-by k n s (λ next less. pauses-is k (passed_by n next.changes) next.after less) (move w t s) refl (move-less w t s) (move-one w t s)
      (moves-tell v w t s s.ending s.thrown s.stack refl) le

  pub paused-is : (n : ℕ) (s : State) → IsPaused w t v n s (step_paused w t v n s)
  paused-is n s = pauses-is (moves_left s) n s (omega arith)
