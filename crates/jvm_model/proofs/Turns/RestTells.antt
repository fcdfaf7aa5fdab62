-- What is left of a step, once its classes are loaded, loads nothing.
use Rattle.std.proofs.Common.{◌≡◌, suc, Bool, true, false, List, [], ◌∷◌, ◌++◌, Option, Some, None, nat_lt, if◌then◌else◌, refl, sym, subst}
use Rattle.std.proofs.lemmas.Option.{IfSome_then}
use Rattle.jvm_model.specs.Basis.Data.{Frame, Entry, Active, Initializing, Ending, State, Change, Loads, Began, Left, Unwound, Turn, Instruction, Outcome, GoesOn, Subroutine, Invokes, Returns, Throws, Raises, Initializes, Exits, Breaks, Done, Listing, World}
use Rattle.jvm_model.specs.Instructions.Does.{does}
use Rattle.jvm_model.specs.Running.Applies.{still, applies, has_room, live_in, most_live}
use Rattle.jvm_model.specs.Running.Moves.{move, then_turn, turn_settled}
use Rattle.jvm_model.specs.Running.Run.{attempt, starts, with_classes_loaded, loaded_turn, steps_by, steps_at, steps_on}
use Rattle.jvm_model.specs.Turns.Rest.{classes_loaded_at, loads_first, loads_on, Todo, Attempt, Moves, rest}
use Rattle.jvm_model.specs.Turns.StepPauses.{NeedsNoLoad}
use Rattle.jvm_model.proofs.Running.Attempts.{again-by}
use Rattle.jvm_model.proofs.Running.Settles.{settled-keeps}
use Rattle.jvm_model.proofs.Turns.Pausing.{OneAtMost, none, one, move-one}

abbrev pub NoLoads : List Change → Type 0
NoLoads [] = Unit {0}
NoLoads (Loads classes ∷ more) = ⊥
NoLoads (Began m ∷ more) = NoLoads more
NoLoads (Left ∷ more) = NoLoads more
NoLoads (Unwound ∷ more) = NoLoads more

no-append : (a b : List Change) → NoLoads a → NoLoads b → NoLoads (a ++ b)
no-append [] b p q = q
no-append (Loads classes ∷ more) b p q = absurd p
no-append (Began m ∷ more) b p q = no-append more b p q
no-append (Left ∷ more) b p q = no-append more b p q
no-append (Unwound ∷ more) b p q = no-append more b p q

pub no-first : (cs : List Change) → NoLoads cs → loads_first cs ≡ []
no-first [] p = refl
no-first (Loads classes ∷ more) p = absurd p
no-first (Began m ∷ more) p = refl
no-first (Left ∷ more) p = refl
no-first (Unwound ∷ more) p = refl

of-one : (cs : List Change) → OneAtMost cs → NoLoads cs
of-one _ none = tt
of-one _ (one (Loads classes) is) = absurd is
of-one _ (one (Began m) is) = tt
of-one _ (one Left is) = tt
of-one _ (one Unwound is) = tt

settled-no : (w : World) (t : Listing) (a : Turn) → NoLoads a.changes → NoLoads (turn_settled w t a).changes
settled-no w t a p =
    settled-keeps w t (λ b. NoLoads b.changes)
    (λ b q. IfSome_then (move w t b.after) {P = λ (next : Turn). OneAtMost next.changes} {Q = λ next. NoLoads (then_turn b next).changes} (move-one w t b.after)
    (λ next r. no-append b.changes next.changes q (of-one next.changes r))) a p

chosen-no : (b : Bool) (x y : Turn) → NoLoads x.changes → NoLoads y.changes → NoLoads (if b then x else y).changes
chosen-no true x y p q = p
chosen-no false x y p q = q

applies-no : (w : World) (t : Listing) (i : Instruction) (outcome : Outcome) (s : State) (f : Frame) → NoLoads (applies w t i outcome s f).changes
applies-no w t i (GoesOn l o to) s f = tt
applies-no w t i Subroutine s f = tt
applies-no w t i (Invokes m args below) s f = chosen-no (has_room w m args) _ _ (chosen-no (nat_lt (suc (live_in s.stack)) most_live) _ _ tt tt) tt
applies-no w t i (Returns d) s f = tt
applies-no w t i (Throws r) s f = tt
applies-no w t i (Raises c message) s f = tt
applies-no w t i (Initializes c) s f = tt
applies-no w t i (Exits n) s f = tt
applies-no w t i (Breaks true) s f = tt
applies-no w t i (Breaks false) s f = tt

attempt-no : (w : World) (t : Listing) (i : Instruction) (s : State) (f : Frame) → NoLoads (attempt w t i s f).changes
attempt-no w t i s f =
    let d : Done = does w i.operation s.shared f.locals f.operands in
    settled-no w t (applies w t i d.outcome (record s { shared = d.shared; output = s.output ++ d.wrote }) f) (applies-no w t i d.outcome (record s { shared = d.shared; output = s.output ++ d.wrote }) f)

by-no : (w : World) (t : Listing) (i : Instruction) (s : State) (f : Frame) → NoLoads (steps_by w t i s f (does w i.operation s.shared f.locals f.operands)).changes
by-no w t i s f =
    let a = attempt w t i s f in
    again-by (λ b. NoLoads b.changes) w t i s f (starts (does w i.operation s.shared f.locals f.operands).outcome) a (attempt-no w t i s f)
    (λ quiet on. no-append a.changes (attempt w t i (record a.after { stack = s.stack }) f).changes (attempt-no w t i s f) (attempt-no w t i (record a.after { stack = s.stack }) f))

at-no : (w : World) (t : Listing) (s : State) (f : Frame) (o : Option Instruction) → classes_loaded_at w s f o ≡ [] → NoLoads (steps_at w t s f o).changes
at-no w t s f None e = tt
at-no w t s f (Some i) e =
    subst (λ cs. NoLoads (loaded_turn cs (steps_by w t i (with_classes_loaded cs s) f (does w i.operation (with_classes_loaded cs s).shared f.locals f.operands))).changes) (sym e) (by-no w t i s f)

on-no : (w : World) (t : Listing) (s : State) (ending : Option Ending) (stack : List Entry) → loads_on w t s ending stack ≡ [] → NoLoads (steps_on w t s ending stack).changes
on-no w t s None (Active f ∷ below) e = at-no w t (record s { stack = below }) f (t.at f.version f.place) e
on-no w t s None [] e = tt
on-no w t s None (Initializing c part ∷ below) e = tt
on-no w t s (Some x) stack e = tt

pub rest-no : (w : World) (t : Listing) (todo : Todo) (s : State) → NeedsNoLoad w t todo s → NoLoads (rest w t todo s).changes
rest-no w t Attempt s e = on-no w t s s.ending s.stack e
rest-no w t Moves s e = settled-no w t (still s) tt
