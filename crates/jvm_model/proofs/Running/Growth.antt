-- A run's output only grows, and a run that has ended stays as it is. What an instruction writes is appended, and
-- nothing else touches the output.
use Rattle.std.proofs.Common.{◌≡◌, ℕ, zero, suc, ◌≤◌, Bool, true, false, List, [], ◌∷◌, ◌++◌, Option, Some, None, is_some, nat_le, nat_lt, if◌then◌else◌, refl, sym, ap, subst, ◌∙◌, inl, inr, append_assoc, arith}
use Rattle.std.specs.List.{slice_get}
use Rattle.std.specs.Option.{IfSome, option_map}
use Rattle.std.proofs.lemmas.Option.{IfSome_then}
use Rattle.std.proofs.lemmas.Bool.{cases_lt}
use Rattle.std.proofs.lemmas.List.{append-nil}
use Rattle.heap_objects.specs.declared.Value.TheVariants.{Ref, Addr}
use Rattle.jvm_model.specs.Basis.Data.{Datum, Locals, Operands, Frame, Entry, Active, Initializing, Constants, Superclass, Initializer, Finish, Phase, Fresh, Erroneous, Ending, State, Turn, Instruction, Listing, Outcome, GoesOn, Subroutine, Invokes, Returns, Throws, Raises, Initializes, Exits, Breaks, Done, World}
use Rattle.frame_stack.specs.Widths.{height_of}
use Rattle.jvm_model.specs.Basis.Values.{as_value, with_value}
use Rattle.jvm_model.specs.Basis.Programs.{super_of, initializer_of}
use Rattle.jvm_model.specs.Basis.SharedState.{phase_of, class_of}
use Rattle.jvm_model.specs.Instructions.Does.{does, loads}
use Rattle.jvm_model.specs.Running.Applies.{still, goes, place_of, enters_subroutine, has_room, live_in, most_live, begins_beside, resumes, gives_back, applies}
use Rattle.jvm_model.specs.Running.Moves.{handler_for, own_at, throw_caught, after_super, with_super, runs_initializer, argument_array, main_or_end, moves, move, turn_settled}
use Rattle.jvm_model.specs.Running.Run.{attempt, starts, with_classes_loaded, steps_by, steps_at, steps_on, step, turn_in, turn_in-suc}
use Rattle.jvm_model.specs.Running.Growth.{Extends}
use Rattle.jvm_model.proofs.Running.Settles.{settled-keeps}
use Rattle.jvm_model.proofs.Running.Attempts.{again-by, with_loaded-shared, loaded-after}

-- ---- growth

pub Extends-same : (old : List ℕ) → Extends old old
Extends-same old = record { more = []; longer = sym (append-nil old) }

pub Extends-appended : (old more : List ℕ) → Extends old (old ++ more)
Extends-appended old more = record { more = more; longer = refl }

pub Extends-trans : {old mid new : List ℕ} → Extends old mid → Extends mid new → Extends old new
Extends-trans {old} {mid} {new} a b = record {
  more = a.more ++ b.more;
  longer = b.longer ∙ (ap (λ (l : List ℕ). l ++ b.more) a.longer ∙ append_assoc old a.more b.more);
}

-- where a test decides, both ways leave the output
chosen-keeps : (kept : List ℕ) (test : Bool) (x y : State) → x.output ≡ kept → y.output ≡ kept → (if test then x else y).output ≡ kept
chosen-keeps kept true x y p q = p
chosen-keeps kept false x y p q = q

chosen_turn-keeps : (kept : List ℕ) (test : Bool) (x y : Turn) → x.after.output ≡ kept → y.after.output ≡ kept → (if test then x else y).after.output ≡ kept
chosen_turn-keeps kept true x y p q = p
chosen_turn-keeps kept false x y p q = q

-- ---- outcomes leave the output

goes-keeps : (s : State) (f : Frame) (own : ℕ) (l : Locals) (o : Operands) (place : Option ℕ) → (goes s f own l o place).output ≡ s.output
goes-keeps s f own l o None = refl
goes-keeps s f own l o (Some place) = chosen-keeps s.output (nat_le (height_of o) f.max_stack) _ _ refl refl

enters-keeps : (s : State) (f : Frame) (i : Instruction) (next : Option ℕ) → (enters_subroutine s f i next).output ≡ s.output
enters-keeps s f i None = refl
enters-keeps s f i (Some next) = goes-keeps s f i.own f.locals (Addr next ∷ f.operands) (slice_get i.targets 0)

resumes-keeps : (s : State) (f : Frame) (d : Option Datum) (found : Option Instruction) → (resumes s f d found).output ≡ s.output
resumes-keeps s f d None = refl
resumes-keeps s f d (Some i) = goes-keeps s f i.own f.locals (with_value (option_map as_value d) f.operands) i.next

gives_back-keeps : (t : Listing) (s : State) (d : Option Datum) (stack : List Entry) → (gives_back t s d stack).output ≡ s.output
gives_back-keeps t s d [] = refl
gives_back-keeps t s d (Initializing c part ∷ below) = refl
gives_back-keeps t s d (Active f ∷ below) = resumes-keeps (record s { stack = below }) f d (t.at f.version f.place)

beside-keeps : (w : World) (t : Listing) (s : State) (f : Frame) (m : ℕ) (args : List Datum) (below : Operands) (live : ℕ)
    → (begins_beside w t s f m args below live).after.output ≡ s.output
beside-keeps w t s f m args below live = chosen_turn-keeps s.output (nat_lt live most_live) _ _ refl refl

pub applies-keeps : (w : World) (t : Listing) (i : Instruction) (outcome : Outcome) (s : State) (f : Frame) → (applies w t i outcome s f).after.output ≡ s.output
applies-keeps w t i (GoesOn l o to) s f = goes-keeps s f i.own l o (place_of i to)
applies-keeps w t i Subroutine s f = enters-keeps s f i i.next
applies-keeps w t i (Invokes m args below) s f = chosen_turn-keeps s.output (has_room w m args) _ _ (beside-keeps w t s f m args below (suc (live_in s.stack))) refl
applies-keeps w t i (Returns d) s f = gives_back-keeps t s d s.stack
applies-keeps w t i (Throws r) s f = refl
applies-keeps w t i (Raises c message) s f = refl
applies-keeps w t i (Initializes c) s f = refl
applies-keeps w t i (Exits n) s f = refl
applies-keeps w t i (Breaks true) s f = refl
applies-keeps w t i (Breaks false) s f = refl

-- ---- moves leave the output

caught-keeps : (w : World) (t : Listing) (s : State) (r : ℕ) (f : Frame) (h : Option ℕ) → (throw_caught w t s r f h).after.output ≡ s.output
caught-keeps w t s r f None = refl
caught-keeps w t s r f (Some target) = goes-keeps (record s { thrown = None }) f (own_at t f) f.locals (Ref r ∷ []) (Some target)

super-keeps : (w : World) (s : State) (c d : ℕ) (p : Option Phase) → (after_super w s c d p).output ≡ s.output
super-keeps w s c d (Some Erroneous) = refl
super-keeps w s c d (Some Fresh) = refl
super-keeps w s c d _ = refl

with_super-keeps : (w : World) (s : State) (c : ℕ) (d : Option ℕ) → (with_super w s c d).output ≡ s.output
with_super-keeps w s c None = refl
with_super-keeps w s c (Some d) = super-keeps w s c d (phase_of s.shared d)

runs-keeps : (w : World) (t : Listing) (s : State) (c : ℕ) (m : Option ℕ) → (runs_initializer w t s c m).after.output ≡ s.output
runs-keeps w t s c None = refl
runs-keeps w t s c (Some m) = chosen_turn-keeps s.output (nat_lt (live_in s.stack) most_live) _ _ refl refl

main-keeps : (w : World) (t : Listing) (s : State) (begun : Bool) → (main_or_end w t s begun).after.output ≡ s.output
main-keeps w t s true = refl
main-keeps w t s false = chosen_turn-keeps s.output (has_room w w.program.main argument_array) _ _ refl refl

moves-keep : (w : World) (t : Listing) (s : State) (ending : Option Ending) (thrown : Option ℕ) (stack : List Entry) → IfSome (moves w t s ending thrown stack) (λ next. next.after.output ≡ s.output)
moves-keep w t s (Some e) thrown stack = tt
moves-keep w t s None (Some r) [] = refl
moves-keep w t s None (Some r) (Active f ∷ below) = caught-keeps w t (record s { stack = below }) r f (handler_for w (class_of w.program s.shared r) f.place (t.handlers f.version))
moves-keep w t s None (Some r) (Initializing c part ∷ below) = refl
moves-keep w t s None None [] = main-keeps w t s s.begun
moves-keep w t s None None (Active f ∷ below) = tt
moves-keep w t s None None (Initializing c Constants ∷ below) = refl
moves-keep w t s None None (Initializing c Superclass ∷ below) = with_super-keeps w (record s { stack = below }) c (super_of w.program c)
moves-keep w t s None None (Initializing c Initializer ∷ below) = runs-keeps w t (record s { stack = below }) c (initializer_of w.program c)
moves-keep w t s None None (Initializing c Finish ∷ below) = refl

pub settled-output : (w : World) (t : Listing) (kept : List ℕ) (a : Turn) → a.after.output ≡ kept → (turn_settled w t a).after.output ≡ kept
settled-output w t kept a e = settled-keeps w t (λ b. b.after.output ≡ kept)
    (λ b p. IfSome_then (move w t b.after) {P = λ next. next.after.output ≡ b.after.output} {Q = λ next. next.after.output ≡ kept}
    (moves-keep w t b.after b.after.ending b.after.thrown b.after.stack) (λ next q. q ∙ p)) a e

-- ---- a step

attempt-grows : (w : World) (t : Listing) (i : Instruction) (s : State) (f : Frame) → Extends s.output (attempt w t i s f).after.output
attempt-grows w t i s f =
    let d : Done = does w i.operation s.shared f.locals f.operands in
    let after : State = record s { shared = d.shared; output = s.output ++ d.wrote } in
    record { more = d.wrote; longer = settled-output w t after.output (applies w t i d.outcome after f) (applies-keeps w t i d.outcome after f) }

by-grows : (w : World) (t : Listing) (i : Instruction) (s : State) (f : Frame) → Extends s.output (steps_by w t i s f (does w i.operation s.shared f.locals f.operands)).after.output
by-grows w t i s f =
    let a = attempt w t i s f in
    let first = attempt-grows w t i s f in
    again-by (λ b. Extends s.output b.after.output) w t i s f (starts (does w i.operation s.shared f.locals f.operands).outcome) a first
    (λ quiet on. Extends-trans first (attempt-grows w t i (record a.after { stack = s.stack }) f))

at-grows : (w : World) (t : Listing) (s : State) (f : Frame) (found : Option Instruction) → Extends s.output (steps_at w t s f found).after.output
at-grows w t s f None = Extends-same s.output
at-grows w t s f (Some i) =
    let classes = loads w i.operation s.shared f.operands in
    let ready = with_classes_loaded classes s in
    let turn = steps_by w t i ready f (does w i.operation ready.shared f.locals f.operands) in
    let same : ready.output ≡ s.output = ap (λ (x : State). x.output) (with_loaded-shared classes s) in
    subst (λ (x : State). Extends s.output x.output) (sym (loaded-after classes turn)) (subst (λ old. Extends old turn.after.output) same (by-grows w t i ready f))

on-grows : (w : World) (t : Listing) (s : State) (ending : Option Ending) (stack : List Entry) → Extends s.output (steps_on w t s ending stack).after.output
on-grows w t s None (Active f ∷ below) = at-grows w t (record s { stack = below }) f (t.at f.version f.place)
on-grows w t s _ _ = Extends-same s.output

pub step-grows : (w : World) (t : Listing) (s : State) → Extends s.output (step w t s).after.output
step-grows w t s = on-grows w t s s.ending s.stack

-- ---- the run

-- what holds at n, and at each number's successor with the number, holds from n on
from_on : (P : ℕ → Type 0) (n : ℕ) → P n → ((k : ℕ) → P k → P (suc k)) → (m : ℕ) → n ≤ m → P m
from_on P n here more zero le = let at : n ≡ zero = omega arith in subst P at here
from_on P n here more (suc m) le = elim (cases_lt m n) as (λ _. P (suc m)) [
  | inl lt ↦ let at : n ≡ suc m = omega arith in subst P at here
  | inr before ↦ more m (from_on P n here more m before)
]

-- what is written stays, and more comes behind it
pub run-grows : (w : World) (t : Listing) (m n : ℕ) → m ≤ n → Extends (turn_in w t m).after.output (turn_in w t n).after.output
run-grows w t m n le = from_on (λ k. Extends (turn_in w t m).after.output (turn_in w t k).after.output) m (Extends-same (turn_in w t m).after.output)
    (λ k so_far. subst (λ (x : Turn). Extends (turn_in w t m).after.output x.after.output) (sym (turn_in-suc w t k))
    (Extends-trans so_far (step-grows w t (turn_in w t k).after))) n le

-- ---- the end

on-ended : (w : World) (t : Listing) (s : State) (ending : Option Ending) → is_some ending ≡ true → steps_on w t s ending s.stack ≡ still s
on-ended w t s (Some e) ended = refl
on-ended w t s None ended = absurd (let f : false ≡ true = ended in cc)

-- a step of a run that has ended does nothing
pub step-ended : (w : World) (t : Listing) (s : State) → is_some s.ending ≡ true → step w t s ≡ still s
step-ended w t s ended = on-ended w t s s.ending ended

pub run-stays : (w : World) (t : Listing) (m n : ℕ) → m ≤ n → is_some (turn_in w t m).after.ending ≡ true → (turn_in w t n).after ≡ (turn_in w t m).after
run-stays w t m n le ended = from_on (λ k. (turn_in w t k).after ≡ (turn_in w t m).after) m refl
    (λ k so_far. ap (λ (x : Turn). x.after) (turn_in-suc w t k) ∙ (ap (λ s. (step w t s).after) so_far ∙ ap (λ (x : Turn). x.after) (step-ended w t (turn_in w t m).after ended))) n le
