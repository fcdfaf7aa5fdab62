-- A rule of the model with its places put in: by the instruction's own targets it is what it is by those that its
-- family has.
use Rattle.std.proofs.Common.{◌≡◌, ℕ, Bool, true, false, List, [], ◌∷◌, ℤ, refl, ap}
use Rattle.std.specs.Prelude.{Option, Some, None, slice_get, ◌&&◌, if◌then◌else◌}
use Rattle.std.specs.Option.{option_map, option_and_then}
use Rattle.std.proofs.lemmas.Bool.{false≢true}
use Rattle.heap_objects.specs.declared.Value.{Value}
use Rattle.heap_objects.specs.declared.Value.TheVariants.{Int, Addr}
use Rattle.heap_objects.specs.declared.datum.Datum.{Datum}
use Rattle.const_pool.specs.declared.descriptor.Kind.{Kind}
use Rattle.frame_stack.specs.FrameLists.{FramesView, with_frames, top_operands}
use Rattle.code_model.specs.declared.instr.Arg.{Arg}
use Rattle.code_model.specs.declared.instr.Arg.TheVariants as arg
use Rattle.jvm_model.specs.declared.family.Family.{Family}
use Rattle.jvm_model.specs.declared.family.Family.TheVariants as family
use Rattle.jvm_model.specs.declared.family.Test.{Test}
use Rattle.jvm_model.specs.Basis.Data.{Locals, Operands}
use Rattle.jvm_model.specs.declared.instruction.Keys.{Keys}
use Rattle.jvm_model.specs.declared.instruction.Local.{Local}
use Rattle.jvm_model.specs.declared.instruction.Local.TheVariants.{Constant, Load, Store, Iinc, Branch, Goto, Jsr, Ret, Switch}
use Rattle.jvm_model.specs.Basis.Data.{Next as Behind, Target, Back}
use Rattle.jvm_model.specs.Basis.Data as model
use Rattle.jvm_model.specs.Codes.Lines.{value_in, slot_in, increment_in, target_in, keys_in, targets_of}
use Rattle.jvm_model.specs.Instructions.LocalRules
use Rattle.jvm_model.specs.Basis.StackForms.{forms_of}
use Rattle.jvm_model.specs.Basis.Values.{datum_of, local_loaded, is_storable, local_in, has_slots, local_stored, int_of, managed_stack}
use Rattle.jvm_basic.specs.Outcomes.{Rule, Leaves, top_locals, effect_in, frames_in, effect_of, after}
use Rattle.jvm_basic.specs.Rules.{datum_in, outcome_placed, going, needs, does, rule_by}

-- ---- outcomes that name no target

-- it goes on behind the instruction or back, or breaks
abbrev pub is_simple : model.Outcome → Bool
is_simple (model.GoesOn l o Behind) = true
is_simple (model.GoesOn l o (Back t)) = true
is_simple (model.Breaks false) = true
is_simple _ = false

pub simple-any : (x : model.Outcome) (next : ℕ) (targets : List ℕ) (l : Locals) (o : Operands) → is_simple x ≡ true → outcome_placed next [] l o x ≡ outcome_placed next targets l o x
simple-any (model.GoesOn m p Behind) next targets l o h = refl
simple-any (model.GoesOn m p (Back t)) next targets l o h = refl
simple-any (model.GoesOn m p (Target k)) next targets l o h = absurd (false≢true h)
simple-any (model.Breaks b) next targets l o h = refl
simple-any _ next targets l o h = absurd (false≢true h)

choice-simple : (b : Bool) (l : Locals) (o : Operands) → is_simple (if b then model.GoesOn l o Behind else model.Breaks false) ≡ true
choice-simple true l o = refl
choice-simple false l o = refl

pub pushes-simple : (v : Option Value) (l : Locals) (o : Operands) → is_simple (LocalRules.pushes v l o) ≡ true
pushes-simple None l o = refl
pushes-simple (Some v) l o = refl

pub replaces-simple : (n : ℕ) (v : Option Value) (l : Locals) (o : Operands) → is_simple (LocalRules.replaces n v l o) ≡ true
replaces-simple n None l o = refl
replaces-simple n (Some v) l o = refl

pub leaves-simple : (x : Option Operands) (l : Locals) → is_simple (LocalRules.leaves x l) ≡ true
leaves-simple None l = refl
leaves-simple (Some o) l = refl

pub stores-simple : (k : Kind) (slot : ℕ) (l : Locals) (o : Operands) → is_simple (LocalRules.stores k slot l o) ≡ true
stores-simple k slot l [] = refl
stores-simple k slot l (v ∷ o) = choice-simple (is_storable k v && has_slots l slot v) (local_stored l slot v) o

pub increments-simple : (slot : ℕ) (d : ℤ) (v : Option Value) (l : Locals) (o : Operands) → is_simple (LocalRules.increments slot d v l o) ≡ true
increments-simple slot d (Some (Int n)) l o = refl
increments-simple slot d _ l o = refl

pub back-simple : (v : Option Value) (l : Locals) (o : Operands) → is_simple (LocalRules.goes_back v l o) ≡ true
back-simple (Some (Addr t)) l o = refl
back-simple _ l o = refl

-- ---- others

divides-any : (x : Option (Option Value)) (next : ℕ) (targets : List ℕ) (l : Locals) (o : Operands)
    → outcome_placed next [] l o (LocalRules.divides_these x l o) ≡ outcome_placed next targets l o (LocalRules.divides_these x l o)
divides-any None next targets l o = refl
divides-any (Some None) next targets l o = refl
divides-any (Some (Some v)) next targets l o = refl

back-any : (v : Option Value) (next : ℕ) (targets : List ℕ) (l : Locals) (o : Operands)
    → outcome_placed 0 [] l o (LocalRules.goes_back v l o) ≡ outcome_placed next targets l o (LocalRules.goes_back v l o)
back-any (Some (Addr t)) next targets l o = refl
back-any _ next targets l o = refl

switch-any : (keys : Keys) (n : Option ℤ) (next : ℕ) (targets : List ℕ) (l : Locals) (o : Operands)
    → outcome_placed 0 targets l o (LocalRules.switches_on keys n l o) ≡ outcome_placed next targets l o (LocalRules.switches_on keys n l o)
switch-any keys None next targets l o = refl
switch-any keys (Some n) next targets l o = refl

return-left : (k : Option Kind) (next : ℕ) (targets : List ℕ) (l : Locals) (o : Operands) → Leaves ≡ outcome_placed next targets l o (LocalRules.returns k o)
return-left None next targets l o = refl
return-left (Some k) next targets l [] = refl
return-left (Some k) next targets l (v ∷ o) = by (datum_of k v)
  where
    by : (d : Option Datum) → Leaves ≡ outcome_placed next targets l (v ∷ o) (LocalRules.returns_datum d)
    by None = refl
    by (Some d) = refl

branch-any : (test : Test) (a : Arg) (next : ℕ) (l : Locals) (o : Operands)
    → needs (target_in a) (λ t. going (LocalRules.branches test) next (t ∷ [])) l o
    ≡ needs (option_map (λ t. let i : Local = Branch test in i) (target_in a)) (λ i. going (LocalRules.within i) next (targets_of a)) l o
branch-any test (arg.Target t) next l o = refl
branch-any test _ next l o = refl

goto-any : (a : Arg) (next : ℕ) (l : Locals) (o : Operands)
    → needs (target_in a) (λ t. going (LocalRules.within Goto) 0 (t ∷ [])) l o
    ≡ needs (option_map (λ t. Goto) (target_in a)) (λ i. going (LocalRules.within i) next (targets_of a)) l o
goto-any (arg.Target t) next l o = refl
goto-any _ next l o = refl

jsr-any : (a : Arg) (next : ℕ) (l : Locals) (o : Operands)
    → needs (target_in a) (λ t. going (LocalRules.within Jsr) next (t ∷ [])) l o
    ≡ needs (option_map (λ t. Jsr) (target_in a)) (λ i. going (LocalRules.within i) next (targets_of a)) l o
jsr-any (arg.Target t) next l o = refl
jsr-any _ next l o = refl

needs-map : {A : Type 0} (make : A → Local) (v : Option A) (rule : A → Rule) (next : ℕ) (targets : List ℕ) (l : Locals) (o : Operands)
    → ((x : A) → rule x l o ≡ going (LocalRules.within (make x)) next targets l o)
    → needs v rule l o ≡ needs (option_map make v) (λ i. going (LocalRules.within i) next targets) l o
needs-map make None rule next targets l o each = refl
needs-map make (Some x) rule next targets l o each = each x

-- ---- every family

pub does-is : (f : Family) (a : Arg) (c : Option Value) (next : ℕ) (l : Locals) (o : Operands) → does f a c next l o ≡ rule_by f a (option_and_then datum_in c) next l o
does-is family.Nop a c next l o = refl
does-is (family.Constant d) a c next l o = refl
does-is family.PoolConstant a c next l o = needs-map Constant (option_and_then datum_in c) _ next (targets_of a) l o (λ d. refl)
does-is family.OperandConstant a c next l o = needs-map Constant (value_in a) _ next (targets_of a) l o (λ d. refl)
does-is (family.Load k) a c next l o =
    needs-map (Load k) (slot_in a) _ next (targets_of a) l o
    (λ n. simple-any _ next (targets_of a) l o (pushes-simple (local_loaded k (slice_get l n)) l o))
does-is (family.LoadFrom k slot) a c next l o = simple-any _ next (targets_of a) l o (pushes-simple (local_loaded k (slice_get l slot)) l o)
does-is (family.Store k) a c next l o =
    needs-map (Store k) (slot_in a) _ next (targets_of a) l o (λ n. simple-any _ next (targets_of a) l o (stores-simple k n l o))
does-is (family.StoreTo k slot) a c next l o = simple-any _ next (targets_of a) l o (stores-simple k slot l o)
does-is (family.ManageStack op) a c next l o = simple-any _ next (targets_of a) l o (leaves-simple (managed_stack (forms_of op) o) l)
does-is (family.BinaryOfInts op) a c next l o = simple-any _ next (targets_of a) l o (replaces-simple 2 _ l o)
does-is (family.BinaryOfLongs op) a c next l o = simple-any _ next (targets_of a) l o (replaces-simple 2 _ l o)
does-is (family.DivisionOfInts op) a c next l o = divides-any _ next (targets_of a) l o
does-is (family.DivisionOfLongs op) a c next l o = divides-any _ next (targets_of a) l o
does-is (family.ShiftOfLong op) a c next l o = simple-any _ next (targets_of a) l o (replaces-simple 2 _ l o)
does-is (family.UnaryOfInt op) a c next l o = simple-any _ next (targets_of a) l o (replaces-simple 1 _ l o)
does-is (family.UnaryOfLong op) a c next l o = simple-any _ next (targets_of a) l o (replaces-simple 1 _ l o)
does-is family.Lcmp a c next l o = simple-any _ next (targets_of a) l o (replaces-simple 2 _ l o)
does-is family.Iinc a c next l o =
    needs-map (λ p. Iinc p.0 p.1) (increment_in a) _ next (targets_of a) l o
    (λ p. simple-any _ next (targets_of a) l o (increments-simple p.0 p.1 (local_in l p.0) l o))
does-is (family.Branch test) a c next l o = branch-any test a next l o
does-is family.Goto a c next l o = goto-any a next l o
does-is family.Jsr a c next l o = jsr-any a next l o
does-is family.Ret a c next l o = needs-map Ret (slot_in a) _ next (targets_of a) l o (λ n. back-any (local_in l n) next (targets_of a) l o)
does-is family.Switch a c next l o = needs-map Switch (keys_in a) _ next (targets_of a) l o (λ keys. switch-any keys (int_of o) next (targets_of a) l o)
does-is (family.Return k) a c next l o = return-left k next (targets_of a) l o
does-is family.NotLocal a c next l o = refl

pub effect-is : (f : Family) (a : Arg) (c : Option Value) (next : ℕ) (s : FramesView)
    → effect_of (does f a c next) s ≡ effect_of (rule_by f a (option_and_then datum_in c) next) s
effect-is f a c next s = ap (λ x. effect_in x s.frames) (does-is f a c next (top_locals s.frames) (top_operands s.frames))

pub after-is : (f : Family) (a : Arg) (c : Option Value) (next : ℕ) (s : FramesView)
    → after (does f a c next) s ≡ after (rule_by f a (option_and_then datum_in c) next) s
after-is f a c next s = ap (λ x. with_frames (frames_in x s.frames) s) (does-is f a c next (top_locals s.frames) (top_operands s.frames))
