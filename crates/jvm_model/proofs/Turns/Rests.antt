-- What is left of a step: behind its load, and behind some of its moves.
use Rattle.std.proofs.Common.{append-nil, append_assoc, ◌≡◌, ℕ, zero, suc, List, [], ◌∷◌, ◌++◌, Option, Some, None, refl, sym, ap, ◌∙◌}
use Rattle.std.specs.Option.{option_map_or}
use Rattle.jvm_model.specs.Basis.Data.{Operands, Frame, Entry, Active, Initializing, Ending, State, Change, Turn, Local, Operation, Within, Named, Athrow, Monitor, Newarray, Arraylength, LoadElement, StoreElement, LdcString, Instruction, Listing, World}
use Rattle.jvm_model.specs.Instructions.Does.{does, loads}
use Rattle.jvm_model.specs.Instructions.SymbolicReference.{newly_loaded}
use Rattle.jvm_model.specs.Running.Applies.{still}
use Rattle.jvm_model.specs.Running.Moves.{move, moves_left, then_turn, settles, turn_settled}
use Rattle.jvm_model.specs.Running.Run.{with_classes_loaded, loaded_turn, steps_by, steps_at, steps_on, step}
use Rattle.jvm_model.specs.Turns.Rest.{classes_loaded_at, loads_on, step_loads, Todo, Moves, rest, IsPart}
use Rattle.jvm_model.proofs.Loading.LoadsAgain.{newly-again}
use Rattle.jvm_model.proofs.Running.LoopOfMoves.{moved-same, moved-end}

-- ---- behind the load

with_loaded-stack : (classes : List ℕ) (s : State) → (with_classes_loaded classes s).stack ≡ s.stack
with_loaded-stack [] s = refl
with_loaded-stack (c ∷ more) s = refl

with_loaded-ending : (classes : List ℕ) (s : State) → (with_classes_loaded classes s).ending ≡ s.ending
with_loaded-ending [] s = refl
with_loaded-ending (c ∷ more) s = refl

-- where it was loaded nothing is loaded more
named-again : (w : World) (classes : List ℕ) (s : State) (o : Operands) (n : Rattle.jvm_model.specs.Basis.Data.SymbolicReference) → newly_loaded w.program s.shared.loaded n o ≡ classes
    → newly_loaded w.program (with_classes_loaded classes s).shared.loaded n o ≡ []
named-again w [] s o n e = e
named-again w (c ∷ more) s o n e =
    ap (λ cs. newly_loaded w.program (s.shared.loaded ++ cs) n o) (sym e) ∙ newly-again w.program s.shared.loaded n o

loads-again : (w : World) (classes : List ℕ) (s : State) (o : Operands) (op : Operation Local) → loads w op s.shared o ≡ classes
    → loads w op (with_classes_loaded classes s).shared o ≡ []
loads-again w classes s o (Named n) e = named-again w classes s o n e
loads-again w classes s o (Within i) e = refl
loads-again w classes s o Athrow e = refl
loads-again w classes s o Monitor e = refl
loads-again w classes s o (Newarray kind) e = refl
loads-again w classes s o Arraylength e = refl
loads-again w classes s o (LoadElement k) e = refl
loads-again w classes s o (StoreElement k) e = refl
loads-again w classes s o (LdcString units) e = refl

cons-empty : (c : ℕ) (more : List ℕ) → [] ≡ c ∷ more → ⊥
cons-empty c more e = cc

module _ (w : World) (t : Listing) (c : ℕ) (more : List ℕ) where
  at-loads : (s : State) (f : Frame) (i : Option Instruction) → classes_loaded_at w s f i ≡ c ∷ more
      → steps_at w t s f i ≡ loaded_turn (c ∷ more) (steps_at w t (with_classes_loaded (c ∷ more) s) f i)
  at-loads s f None e = absurd (cons-empty c more e)
  at-loads s f (Some i) e =
      let s' : State = with_classes_loaded (c ∷ more) s in
      let stepped : State → List ℕ → Turn = λ x cs. loaded_turn cs (steps_by w t i (with_classes_loaded cs x) f (does w i.operation (with_classes_loaded cs x).shared f.locals f.operands)) in
      ap (stepped s) e
      ∙ ap (λ cs. loaded_turn (c ∷ more) (stepped s' cs)) (sym (loads-again w (c ∷ more) s f.operands i.operation e))

  on-loads : (s : State) (ending : Option Ending) (stack : List Entry) → loads_on w t s ending stack ≡ c ∷ more
      → steps_on w t s ending stack ≡ loaded_turn (c ∷ more) (steps_on w t (with_classes_loaded (c ∷ more) s) ending stack)
  on-loads s None (Active f ∷ below) e = at-loads (record s { stack = below }) f (t.at f.version f.place) e
  on-loads s None [] e = absurd (cons-empty c more e)
  on-loads s None (Initializing d part ∷ below) e = absurd (cons-empty c more e)
  on-loads s (Some x) stack e = absurd (cons-empty c more e)

-- A step is its load, and then the step of the state with these classes.
pub step-loads : (w : World) (t : Listing) (s : State) → step w t s ≡ loaded_turn (step_loads w t s) (step w t (with_classes_loaded (step_loads w t s) s))
step-loads w t s = by (step_loads w t s) refl where
  by : (classes : List ℕ) → step_loads w t s ≡ classes → step w t s ≡ loaded_turn classes (step w t (with_classes_loaded classes s))
  by [] e = refl
  by (c ∷ more) e = on-loads w t c more s s.ending s.stack e

-- and that loads nothing
again-at : (w : World) (s : State) (f : Frame) (classes : List ℕ) (i : Option Instruction) → classes_loaded_at w s f i ≡ classes → classes_loaded_at w (with_classes_loaded classes s) f i ≡ []
again-at w s f classes None e = refl
again-at w s f classes (Some i) e = loads-again w classes s f.operands i.operation e

again-on : (w : World) (t : Listing) (s : State) (classes : List ℕ) (ending : Option Ending) (stack : List Entry) → loads_on w t s ending stack ≡ classes
    → loads_on w t (with_classes_loaded classes s) ending stack ≡ []
again-on w t s classes None (Active f ∷ below) e = again-at w s f classes (t.at f.version f.place) e
again-on w t s classes None [] e = refl
again-on w t s classes None (Initializing d part ∷ below) e = refl
again-on w t s classes (Some x) stack e = refl

pub step_loads-again : (w : World) (t : Listing) (s : State) → step_loads w t (with_classes_loaded (step_loads w t s) s) ≡ []
step_loads-again w t s =
    let classes : List ℕ = step_loads w t s in
    let s' : State = with_classes_loaded classes s in
    ap (λ stack. loads_on w t s' s'.ending stack) (with_loaded-stack classes s)
    ∙ (ap (λ ending. loads_on w t s' ending s.stack) (with_loaded-ending classes s)
    ∙ again-on w t s classes s.ending s.stack refl)

-- ---- behind some moves

append-changes : (a b c : Turn) → then_turn (then_turn a b) c ≡ then_turn a (then_turn b c)
append-changes a b c = ap (λ changes. record { after = c.after; changes = changes }) (append_assoc a.changes b.changes c.changes)

-- what was done before stands before what follows
settles-then : (w : World) (t : Listing) (n : ℕ) (a b : Turn) → settles w t n (then_turn a b) ≡ then_turn a (settles w t n b)
settles-then w t zero a b = refl
settles-then w t (suc n) a b = by (move w t b.after) (λ next. settles-then w t n a (then_turn b next)) where
  by : (found : Option Turn) → ((next : Turn) → settles w t n (then_turn a (then_turn b next)) ≡ then_turn a (settles w t n (then_turn b next)))
      → option_map_or (λ next. settles w t n (then_turn (then_turn a b) next)) found (then_turn a b)
      ≡ then_turn a (option_map_or (λ next. settles w t n (then_turn b next)) found b)
  by None later = refl
  by (Some next) later = ap (settles w t n) (append-changes a b next) ∙ later next

-- the moves from a turn on are those from its state on
pub settled-still : (w : World) (t : Listing) (a : Turn) → turn_settled w t a ≡ then_turn a (turn_settled w t (still a.after))
settled-still w t a = ap (λ changes. settles w t (moves_left a.after) (record { after = a.after; changes = changes })) (sym (append-nil a.changes)) ∙ settles-then w t (moves_left a.after) a (still a.after)

-- A move, or several: what is left of a turn's moves is what is left of its state's, behind its changes.
pub move-part : (w : World) (t : Listing) (s : State) (next : Turn) → move w t s ≡ Some next → IsPart w t Moves s next.changes Moves next.after
move-part w t s next e =
    let all : turn_settled w t (still s) ≡ then_turn next (turn_settled w t (still next.after)) = sym (moved-same w t (still s) next e) ∙ settled-still w t next in
    record { same = ap (λ (a : Turn). a.after) all; tells = ap (λ (a : Turn). a.changes) all }

pub no-part : (w : World) (t : Listing) (l : Todo) (s : State) → IsPart w t l s [] l s
no-part w t l s = record { same = refl; tells = refl }

pub then-part : (w : World) (t : Listing) (l m n : Todo) (a b c : State) (first second : List Change) → IsPart w t l a first m b → IsPart w t m b second n c → IsPart w t l a (first ++ second) n c
then-part w t l m n a b c first second p q = record {
  same = p.same ∙ q.same;
  tells = p.tells ∙ (ap (λ cs. first ++ cs) q.tells ∙ sym (append_assoc first second (rest w t n c).changes));
}

-- where no move applies nothing is left
pub nothing-left : (w : World) (t : Listing) (s : State) → move w t s ≡ None → rest w t Moves s ≡ still s
nothing-left w t s e = moved-end w t (still s) e
