-- The moves come to an end: each makes `left` less, and none applies to what `settled` gives.
use Rattle.std.proofs.Common.{◌≡◌, ℕ, zero, suc, ◌+◌, ◌*◌, ◌<◌, ◌≤◌, Bool, true, false, List, [], ◌∷◌, Option, Some, None, slice_get, slice_set, nat_le, nat_lt, if◌then◌else◌, refl, sym, ap, subst, ◌∙◌, arith}
use Rattle.std.specs.Option.{IfSome, option_map_or}
use Rattle.heap_objects.specs.declared.datum.Datum.TheVariants as datum
use Rattle.heap_objects.specs.declared.Value.TheVariants.{Ref}
use Rattle.jvm_model.specs.Basis.Data.{Datum, Locals, Operands, Frame, Entry, Active, Initializing, Part, Constants, Superclass, Initializer, Finish, Phase, Fresh, Running, Ready, Erroneous, Program, Shared, Ending, State, Turn, Listing, World}
use Rattle.frame_stack.specs.Widths.{height_of}
use Rattle.const_pool.specs.declared.class.ClassFile.{ClassFile}
use Rattle.const_pool.specs.declared.class.Member.{Member}
use Rattle.jvm_model.specs.Running.Constants.{FieldConstant, Number, Units, Setting, constant_for, can_intern, constant_set, sets_field, then_sets, sets_fields, sets_constants}
use Rattle.jvm_model.specs.Classes.Lookup.{is_below}
use Rattle.jvm_model.specs.Basis.Programs.{class_at, name_at, super_of, initializer_of}
use Rattle.jvm_model.specs.Basis.SharedState.{error, no_class_definition, in_initializer, stack_overflow, phase_of, with_phase, class_of, Field, message_cost, with_message, with_exception, Allocated, made_with, null}
use Rattle.heap_objects.specs.Heaps.{next_number}
use Rattle.jvm_model.specs.Running.Applies.{with_frame, goes, breaks, has_room, live_in, most_live}
use Rattle.jvm_model.specs.Running.Moves.{handler_for, own_at, throw_caught, throw_wrapped, raises, with_constants, after_super, with_super, runs_initializer, initializes, argument_array, main_or_end, moves, move, weights, fresh, unit_unless, moves_left, then_turn, settles, turn_settled}

-- ---- phases

-- a class that is fresh no more
pub data IsStarted : Phase → Type 0 where
  running : IsStarted Running
  ready : IsStarted Ready
  erroneous : IsStarted Erroneous

pub started-fewer : (ps : List Phase) (c : ℕ) (p : Phase) → IsStarted p → fresh (slice_set ps c p) ≤ fresh ps
started-fewer [] c p is = omega arith
started-fewer (Fresh ∷ ps) zero Running is = omega arith
started-fewer (Fresh ∷ ps) zero Ready is = omega arith
started-fewer (Fresh ∷ ps) zero Erroneous is = omega arith
started-fewer (Running ∷ ps) zero Running is = omega arith
started-fewer (Running ∷ ps) zero Ready is = omega arith
started-fewer (Running ∷ ps) zero Erroneous is = omega arith
started-fewer (Ready ∷ ps) zero Running is = omega arith
started-fewer (Ready ∷ ps) zero Ready is = omega arith
started-fewer (Ready ∷ ps) zero Erroneous is = omega arith
started-fewer (Erroneous ∷ ps) zero Running is = omega arith
started-fewer (Erroneous ∷ ps) zero Ready is = omega arith
started-fewer (Erroneous ∷ ps) zero Erroneous is = omega arith
started-fewer (q ∷ ps) zero Fresh is = elim is [ ]
started-fewer (Fresh ∷ ps) (suc c) p is = let h = started-fewer ps c p is in omega arith
started-fewer (Running ∷ ps) (suc c) p is = started-fewer ps c p is
started-fewer (Ready ∷ ps) (suc c) p is = started-fewer ps c p is
started-fewer (Erroneous ∷ ps) (suc c) p is = started-fewer ps c p is

-- a fresh class that runs now is one fewer
pub running-fewer : (ps : List Phase) (c : ℕ) → slice_get ps c ≡ Some Fresh → fresh (slice_set ps c Running) < fresh ps
running-fewer [] c e = absurd (let f : None ≡ Some Fresh = e in cc)
running-fewer (Fresh ∷ ps) zero e = omega arith
running-fewer (Running ∷ ps) zero e = absurd (let f : Some Running ≡ Some Fresh = e in cc)
running-fewer (Ready ∷ ps) zero e = absurd (let f : Some Ready ≡ Some Fresh = e in cc)
running-fewer (Erroneous ∷ ps) zero e = absurd (let f : Some Erroneous ≡ Some Fresh = e in cc)
running-fewer (Fresh ∷ ps) (suc c) e = let h = running-fewer ps c e in omega arith
running-fewer (Running ∷ ps) (suc c) e = running-fewer ps c e
running-fewer (Ready ∷ ps) (suc c) e = running-fewer ps c e
running-fewer (Erroneous ∷ ps) (suc c) e = running-fewer ps c e

-- ---- constants change no phase

set_field-phases : (p : Program) (f : Field) (k : Option FieldConstant) (s : Shared) → (sets_field p f k s).shared.phases ≡ s.phases
set_field-phases p f None s = refl
set_field-phases p f (Some (Number d)) s = refl
set_field-phases p f (Some (Units units)) s = by (can_intern units s.heap) refl where
  by : (b : Bool) → can_intern units s.heap ≡ b → (sets_field p f (Some (Units units)) s).shared.phases ≡ s.phases
  by true e = rw e refl
  by false e = rw e refl

then_sets-phases : (before : Setting) (next : Shared → Setting) → ((s : Shared) → (next s).shared.phases ≡ s.phases)
    → (then_sets before next).shared.phases ≡ before.shared.phases
then_sets-phases before next keeps = by before.thrown before.shared where
  by : (thrown : Option ℕ) (s : Shared) → (then_sets (record { shared = s; thrown = thrown }) next).shared.phases ≡ s.phases
  by None s = keeps s
  by (Some object) s = refl

set_fields-phases : (p : Program) (c : ClassFile) (class position : ℕ) (fields : List Member) (s : Shared)
    → (sets_fields p c class position fields s).shared.phases ≡ s.phases
set_fields-phases p c class position [] s = refl
set_fields-phases p c class position (f ∷ rest) s =
    let at : Field = record { class = class; position = position } in
    then_sets-phases (sets_field p at (constant_for c f) s) (sets_fields p c class (position + 1) rest) (set_fields-phases p c class (position + 1) rest)
    ∙ set_field-phases p at (constant_for c f) s

pub constants-phases : (p : Program) (class : ℕ) (s : Shared) → (sets_constants p class s).shared.phases ≡ s.phases
constants-phases p class s = by (class_at p class) where
  by : (found : Option ClassFile) → (option_map_or (λ (c : ClassFile). sets_fields p c class 0 c.fields s) found (constant_set s)).shared.phases ≡ s.phases
  by None = refl
  by (Some c) = set_fields-phases p c class 0 c.fields s

-- ---- each move

abbrev state : List Entry → Option ℕ → Bool → List ℕ → Shared → Option Ending → State
state stack thrown begun output shared ending = record { stack = stack; thrown = thrown; begun = begun; shared = shared; output = output; ending = ending }

made-phases : (w : World) (s : Shared) (name : List ℕ) (message : Option (List ℕ)) (cause : Datum) → (made_with w s name message cause).shared.phases ≡ s.phases
made-phases w s name message cause = by (nat_le (s.heap.used + (message_cost message + 3)) s.heap.limit) where
  made : Allocated
  made = record {
    shared = record s { heap = with_exception w.program name message cause s.heap };
    reference = next_number (with_message w.program message s.heap);
  }

  by : (b : Bool) → (let a : Allocated = if b then made else record { shared = s; reference = 1 } in a).shared.phases ≡ s.phases
  by true = refl
  by false = refl

-- where a test decides, both ways are less
chosen-less : (k : ℕ) (b : Bool) (x y : Turn) → moves_left x.after < k → moves_left y.after < k → moves_left (if b then x else y).after < k
chosen-less k true x y p q = p
chosen-less k false x y p q = q

-- a frame that goes on is one more at most
goes-left : (s : State) (f : Frame) (own : ℕ) (l : Locals) (o : Operands) (place : ℕ) → moves_left (goes s f own l o (Some place)) ≤ moves_left s + 1
goes-left s f own l o place = by (nat_le (height_of o) f.max_stack) where
  by : (b : Bool) → moves_left (if b then with_frame s (record f { place = place; locals = l; operands = o }) else breaks s f own) ≤ moves_left s + 1
  by true = omega arith
  by false = omega arith

caught-less : (w : World) (t : Listing) (below : List Entry) (r : ℕ) (begun : Bool) (output : List ℕ) (shared : Shared) (f : Frame) (h : Option ℕ)
    → moves_left (throw_caught w t (state below (Some r) begun output shared None) r f h).after < moves_left (state (Active f ∷ below) (Some r) begun output shared None)
caught-less w t below r begun output shared f None = omega arith
caught-less w t below r begun output shared f (Some target) =
    let h = goes-left (state below None begun output shared None) f (own_at t f) f.locals (Ref r ∷ []) target in omega arith

-- a phase that is no more fresh, with an exception or without
fails-phases : (w : World) (s : Shared) (c r : ℕ) → fresh (with_phase (throw_wrapped w s r).shared c Erroneous).phases ≤ fresh s.phases
fails-phases w s c r = by (is_below w.program (class_of w.program s r) error) where
  by : (b : Bool) → fresh (with_phase (if b then record { shared = s; reference = r } else made_with w s in_initializer None (datum.Ref r)).shared c Erroneous).phases ≤ fresh s.phases
  by true = started-fewer s.phases c Erroneous erroneous
  by false = subst (λ ps. fresh (slice_set ps c Erroneous) ≤ fresh s.phases) (sym (made-phases w s in_initializer None (datum.Ref r))) (started-fewer s.phases c Erroneous erroneous)

raises-left : (w : World) (stack : List Entry) (begun : Bool) (output : List ℕ) (shared : Shared) (name : List ℕ) (message : Option (List ℕ))
    → moves_left (raises w (state stack None begun output shared None) name message) ≡ moves_left (state stack None begun output shared None) + 1
raises-left w stack begun output shared name message =
    subst (λ ps. 8 * fresh ps + weights stack + 1 + 2 * unit_unless begun + 1 ≡ 8 * fresh shared.phases + weights stack + 0 + 2 * unit_unless begun + 1 + 1) (sym (made-phases w shared name message null)) (omega arith)

after_super-less : (w : World) (stack : List Entry) (begun : Bool) (output : List ℕ) (shared : Shared) (c d : ℕ) (p : Option Phase) → phase_of shared d ≡ p
    → moves_left (after_super w (state stack None begun output shared None) c d p) < moves_left (state (Initializing c Superclass ∷ stack) None begun output shared None)
after_super-less w stack begun output shared c d (Some Fresh) e = let h = running-fewer shared.phases d e in omega arith
after_super-less w stack begun output shared c d (Some Erroneous) e = let h = raises-left w (Initializing c Initializer ∷ stack) begun output shared no_class_definition (name_at w.program d) in omega arith
after_super-less w stack begun output shared c d (Some Running) e = omega arith
after_super-less w stack begun output shared c d (Some Ready) e = omega arith
after_super-less w stack begun output shared c d None e = omega arith

with_super-less : (w : World) (stack : List Entry) (begun : Bool) (output : List ℕ) (shared : Shared) (c : ℕ) (d : Option ℕ)
    → moves_left (with_super w (state stack None begun output shared None) c d) < moves_left (state (Initializing c Superclass ∷ stack) None begun output shared None)
with_super-less w stack begun output shared c None = omega arith
with_super-less w stack begun output shared c (Some d) = after_super-less w stack begun output shared c d (phase_of shared d) refl

runs-less : (w : World) (t : Listing) (stack : List Entry) (begun : Bool) (output : List ℕ) (shared : Shared) (c : ℕ) (m : Option ℕ)
    → moves_left (runs_initializer w t (state stack None begun output shared None) c m).after < moves_left (state (Initializing c Initializer ∷ stack) None begun output shared None)
runs-less w t stack begun output shared c None = omega arith
runs-less w t stack begun output shared c (Some m) =
    let h = raises-left w (Initializing c Finish ∷ stack) begun output shared stack_overflow None in
    chosen-less (moves_left (state (Initializing c Initializer ∷ stack) None begun output shared None)) (nat_lt (live_in stack) most_live) _ _ (omega arith) (omega arith)

-- an object that was thrown is one more at most
constants-less : (stack : List Entry) (begun : Bool) (output : List ℕ) (shared : Shared) (c : ℕ) (thrown : Option ℕ) (after : Shared) → after.phases ≡ shared.phases
    → moves_left (with_constants (state stack None begun output shared None) c (record { shared = after; thrown = thrown }))
    < moves_left (state (Initializing c Constants ∷ stack) None begun output shared None)
constants-less stack begun output shared c None after same = let h : fresh after.phases ≡ fresh shared.phases = ap fresh same in omega arith
constants-less stack begun output shared c (Some r) after same = let h : fresh after.phases ≡ fresh shared.phases = ap fresh same in omega arith

initializes-less : (w : World) (t : Listing) (stack : List Entry) (begun : Bool) (output : List ℕ) (shared : Shared) (c : ℕ) (part : Part)
    → moves_left (initializes w t (state stack None begun output shared None) c part).after < moves_left (state (Initializing c part ∷ stack) None begun output shared None)
initializes-less w t stack begun output shared c Constants =
    let setting : Setting = sets_constants w.program c shared in
    constants-less stack begun output shared c setting.thrown setting.shared (constants-phases w.program c shared)
initializes-less w t stack begun output shared c Superclass = with_super-less w stack begun output shared c (super_of w.program c)
initializes-less w t stack begun output shared c Initializer = runs-less w t stack begun output shared c (initializer_of w.program c)
initializes-less w t stack begun output shared c Finish = let h = started-fewer shared.phases c Ready ready in omega arith

main-less : (w : World) (t : Listing) (begun : Bool) (output : List ℕ) (shared : Shared) → moves_left (main_or_end w t (state [] None begun output shared None) begun).after < moves_left (state [] None begun output shared None)
main-less w t true output shared = omega arith
main-less w t false output shared = chosen-less (moves_left (state [] None false output shared None)) (has_room w w.program.main (argument_array)) _ _ (omega arith) (omega arith)

moves-less : (w : World) (t : Listing) (stack : List Entry) (thrown : Option ℕ) (begun : Bool) (output : List ℕ) (shared : Shared) (ending : Option Ending)
    → IfSome (moves w t (state stack thrown begun output shared ending) ending thrown stack) (λ next. moves_left next.after < moves_left (state stack thrown begun output shared ending))
moves-less w t stack thrown begun output shared (Some e) = tt
moves-less w t [] (Some r) begun output shared None = omega arith
moves-less w t (Active f ∷ below) (Some r) begun output shared None = caught-less w t below r begun output shared f (handler_for w (class_of w.program shared r) f.place (t.handlers f.version))
moves-less w t (Initializing c Constants ∷ below) (Some r) begun output shared None = let h = fails-phases w shared c r in omega arith
moves-less w t (Initializing c Superclass ∷ below) (Some r) begun output shared None = let h = fails-phases w shared c r in omega arith
moves-less w t (Initializing c Initializer ∷ below) (Some r) begun output shared None = let h = fails-phases w shared c r in omega arith
moves-less w t (Initializing c Finish ∷ below) (Some r) begun output shared None = let h = fails-phases w shared c r in omega arith
moves-less w t [] None begun output shared None = main-less w t begun output shared
moves-less w t (Active f ∷ below) None begun output shared None = tt
moves-less w t (Initializing c part ∷ below) None begun output shared None = initializes-less w t below begun output shared c part

pub move-less : (w : World) (t : Listing) (s : State) → IfSome (move w t s) (λ next. moves_left next.after < moves_left s)
move-less w t s = moves-less w t s.stack s.thrown s.begun s.output s.shared s.ending

-- ---- the end of the moves

none-left : (w : World) (t : Listing) (s : State) (o : Option Turn) → IfSome o (λ next. moves_left next.after < moves_left s) → moves_left s ≤ 0 → o ≡ None
none-left w t s None less le = refl
none-left w t s (Some next) less le = absurd (omega arith)

stops-by : (w : World) (t : Listing) (n : ℕ) → ((turn : Turn) → moves_left turn.after ≤ n → move w t (settles w t n turn).after ≡ None)
    → (turn : Turn) (o : Option Turn) → move w t turn.after ≡ o → IfSome o (λ next. moves_left next.after < moves_left turn.after) → moves_left turn.after ≤ suc n
    → move w t (option_map_or (λ next. settles w t n (then_turn turn next)) o turn).after ≡ None
stops-by w t n before turn None e less le = e
stops-by w t n before turn (Some next) e less le = before (then_turn turn next) (omega arith)

settles-stops : (w : World) (t : Listing) (n : ℕ) (turn : Turn) → moves_left turn.after ≤ n → move w t (settles w t n turn).after ≡ None
settles-stops w t zero turn le = none-left w t turn.after (move w t turn.after) (move-less w t turn.after) le
settles-stops w t (suc n) turn le = stops-by w t n (settles-stops w t n) turn (move w t turn.after) refl (move-less w t turn.after) le

-- no move applies to a settled state
pub settled-stops : (w : World) (t : Listing) (turn : Turn) → move w t (turn_settled w t turn).after ≡ None
settled-stops w t turn = settles-stops w t (moves_left turn.after) turn (omega arith)

-- ---- what each move keeps

keeps-by : (w : World) (t : Listing) (P : Turn → Type 0) (n : ℕ) → ((turn : Turn) → P turn → P (settles w t n turn))
    → (turn : Turn) (o : Option Turn) → P turn → IfSome o (λ next. P (then_turn turn next)) → P (option_map_or (λ next. settles w t n (then_turn turn next)) o turn)
keeps-by w t P n before turn None p q = p
keeps-by w t P n before turn (Some next) p q = before (then_turn turn next) q

settles-keeps : (w : World) (t : Listing) (P : Turn → Type 0) → ((turn : Turn) → P turn → IfSome (move w t turn.after) (λ next. P (then_turn turn next)))
    → (n : ℕ) (turn : Turn) → P turn → P (settles w t n turn)
settles-keeps w t P one zero turn p = p
settles-keeps w t P one (suc n) turn p = keeps-by w t P n (settles-keeps w t P one n) turn (move w t turn.after) p (one turn p)

pub settled-keeps : (w : World) (t : Listing) (P : Turn → Type 0) → ((turn : Turn) → P turn → IfSome (move w t turn.after) (λ next. P (then_turn turn next)))
    → (turn : Turn) → P turn → P (turn_settled w t turn)
settled-keeps w t P one turn p = settles-keeps w t P one (moves_left turn.after) turn p
