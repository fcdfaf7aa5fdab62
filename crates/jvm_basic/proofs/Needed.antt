-- A rule breaks exactly where what the instruction needs is missing.
use Rattle.std.proofs.Common.{◌≡◌, ◌↔◌, ℕ, Bool, true, false, not, List, [], ◌∷◌, ℤ, refl, sym, ap, ◌∙◌}
use Rattle.std.specs.Prelude.{Option, Some, None, length, drop, slice_get, is_some, IsTrue, ◌&&◌, ◌||◌, if◌then◌else◌}
use Rattle.std.specs.List.{list_any}
use Rattle.std.specs.Option.{option_map, option_and_then, option_flatten}
use Rattle.std.proofs.lemmas.Bool.{false≢true}
use Rattle.std.proofs.Math.Bool.{and-false, and-true}
use Rattle.heap_objects.specs.declared.Value.{Value}
use Rattle.heap_objects.specs.declared.Value.TheVariants.{Int, Long, Ref, Addr}
use Rattle.frame_stack.specs.FrameLists.{PlacedFrame, FramesView, top_operands}
use Rattle.code_model.specs.declared.instr.Arg.{Arg}
use Rattle.code_model.specs.declared.instr.Instr.{Instr}
use Rattle.jvm_basic.specs.declared.effect.Effect.{Effect}
use Rattle.jvm_basic.specs.declared.effect.Effect.TheVariants.{Next, Throws, Bad, Other}
use Rattle.const_pool.specs.declared.descriptor.Kind.{Kind}
use Rattle.jvm_model.specs.declared.family.Test.{Test}
use Rattle.jvm_model.specs.declared.family.Test.TheVariants.{WithZero, OfInts, OfReferences, IsNull}
use Rattle.jvm_model.specs.declared.family.Family.{Family}
use Rattle.jvm_model.specs.declared.family.Family.TheVariants as family
use Rattle.jvm_model.specs.Basis.Families.{family_of}
use Rattle.jvm_model.specs.Basis.Data.{Locals, Operands}
use Rattle.jvm_basic.specs.Outcomes.{Rule, Outcome, GoesOn, Raises, Breaks, Leaves, top_locals, can_hold, effect_in, outcome_asked, effect_of}
use Rattle.jvm_model.specs.Basis.Values.{int_of, long_of, ref_of, ints_of, longs_of, long_and_int_of, refs_of, local_in, has_kind, local_loaded, is_storable, has_slots, local_stored}
use Rattle.jvm_model.specs.Basis.Data.{StackForm}
use Rattle.jvm_model.specs.Basis.StackForms.{forms_of}
use Rattle.jvm_model.specs.Basis.Values.{has_form, puts_on, managed_stack}
use Rattle.jvm_model.specs.Basis.Data.{Next as Behind}
use Rattle.jvm_model.specs.declared.instruction.Keys.{Keys}
use Rattle.jvm_model.specs.Basis.Data as model
use Rattle.jvm_model.specs.Codes.Lines.{value_in, slot_in, increment_in, target_in, keys_in, targets_of}
use Rattle.jvm_model.specs.Instructions.LocalRules
use Rattle.jvm_basic.specs.Rules.{datum_in, goes_at, outcome_placed, going, needs, loads, stores, increments, branches, target_chosen, switches, goes_back, does, rule_by, rule_of}
use Rattle.jvm_basic.proofs.PlacedOutcomes.{does-is}
use Rattle.jvm_basic.specs.Needs.{int, long, reference, address, stand, is_as, reads, takes_slots, fits_form, operands_of, has_needs, too_deep}

abbrev breaks : Outcome → Bool
breaks Breaks = true
breaks (GoesOn l o place) = false
breaks (Raises class) = false
breaks Leaves = false

-- ---- what stands on top

int-stands : (o : Operands) → is_some (int_of o) ≡ stand (int ∷ []) o
int-stands [] = refl
int-stands (Int n ∷ o) = refl
int-stands (Long n ∷ o) = refl
int-stands (Ref n ∷ o) = refl
int-stands (Addr n ∷ o) = refl

long-stands : (o : Operands) → is_some (long_of o) ≡ stand (long ∷ []) o
long-stands [] = refl
long-stands (Int n ∷ o) = refl
long-stands (Long n ∷ o) = refl
long-stands (Ref n ∷ o) = refl
long-stands (Addr n ∷ o) = refl

ref-stands : (o : Operands) → is_some (ref_of o) ≡ stand (reference ∷ []) o
ref-stands [] = refl
ref-stands (Int n ∷ o) = refl
ref-stands (Long n ∷ o) = refl
ref-stands (Ref n ∷ o) = refl
ref-stands (Addr n ∷ o) = refl

ints-stand : (o : Operands) → is_some (ints_of o) ≡ stand (int ∷ int ∷ []) o
ints-stand (Int b ∷ Int a ∷ o) = refl
ints-stand _ = refl

longs-stand : (o : Operands) → is_some (longs_of o) ≡ stand (long ∷ long ∷ []) o
longs-stand (Long b ∷ Long a ∷ o) = refl
longs-stand _ = refl

shift-stands : (o : Operands) → is_some (long_and_int_of o) ≡ stand (int ∷ long ∷ []) o
shift-stands (Int b ∷ Long a ∷ o) = refl
shift-stands _ = refl

refs-stand : (o : Operands) → is_some (refs_of o) ≡ stand (reference ∷ reference ∷ []) o
refs-stand (Ref b ∷ Ref a ∷ o) = refl
refs-stand _ = refl

is-some-map : {A : Type 0} {B : Type 0} (f : A → B) (x : Option A) → is_some (option_map f x) ≡ is_some x
is-some-map f None = refl
is-some-map f (Some x) = refl

-- ---- each rule

replaces-breaks : (n : ℕ) (v : Option Value) (next : ℕ) (l : Locals) (o : Operands) → breaks (outcome_placed next [] l o (LocalRules.replaces n v l o)) ≡ not (is_some v)
replaces-breaks n None next l o = refl
replaces-breaks n (Some v) next l o = refl

calculated-breaks : {A : Type 0} (n : ℕ) (f : A → Value) (x : Option A) (b : Bool) (next : ℕ) (l : Locals) (o : Operands) → is_some x ≡ b
    → breaks (outcome_placed next [] l o (LocalRules.replaces n (option_map f x) l o)) ≡ not b
calculated-breaks n f x b next l o e = replaces-breaks n (option_map f x) next l o ∙ ap not (is-some-map f x ∙ e)

divides-breaks : {A : Type 0} (f : A → Option Value) (x : Option A) (b : Bool) (next : ℕ) (l : Locals) (o : Operands) → is_some x ≡ b
    → breaks (outcome_placed next [] l o (LocalRules.divides_these (option_map f x) l o)) ≡ not b
divides-breaks f x b next l o e = by (option_map f x) ∙ ap not (is-some-map f x ∙ e)
  where
    by : (y : Option (Option Value)) → breaks (outcome_placed next [] l o (LocalRules.divides_these y l o)) ≡ not (is_some y)
    by None = refl
    by (Some None) = refl
    by (Some (Some v)) = refl

-- what is needed of the operand
given-breaks : {A : Type 0} (v : Option A) (rule : A → Rule) (l : Locals) (o : Operands) → ((x : A) → breaks (rule x l o) ≡ false)
    → breaks (needs v rule l o) ≡ not (is_some v)
given-breaks None rule l o each = refl
given-breaks (Some x) rule l o each = each x

choice-breaks : (b : Bool) (next : ℕ) (m l : Locals) (p o : Operands) → breaks (outcome_placed next [] l o (if b then model.GoesOn m p Behind else model.Breaks false)) ≡ not b
choice-breaks true next m l p o = refl
choice-breaks false next m l p o = refl

loads-breaks : (k : Kind) (slot : Option ℕ) (next : ℕ) (l : Locals) (o : Operands) → breaks (loads k slot next l o) ≡ not (reads (has_kind k) slot l)
loads-breaks k None next l o = refl
loads-breaks k (Some slot) next l o = by (slice_get l slot)
  where
    kept : (b : Bool) (v : Value) → breaks (outcome_placed next [] l o (LocalRules.pushes (if b then Some v else None) l o)) ≡ not b
    kept true v = refl
    kept false v = refl

    by : (x : Option (Option Value)) → breaks (outcome_placed next [] l o (LocalRules.pushes (local_loaded k x) l o)) ≡ not (is_as (has_kind k) (option_flatten x))
    by None = refl
    by (Some None) = refl
    by (Some (Some v)) = kept (has_kind k v) v

stores-breaks : (k : Kind) (slot : Option ℕ) (next : ℕ) (l : Locals) (o : Operands)
    → breaks (stores k slot next l o) ≡ not (stand (is_storable k ∷ []) o && takes_slots slot l o)
stores-breaks k None next l o = ap not (sym (and-false (stand (is_storable k ∷ []) o)))
stores-breaks k (Some slot) next l [] = refl
stores-breaks k (Some slot) next l (v ∷ o) =
    choice-breaks (is_storable k v && has_slots l slot v) next (local_stored l slot v) l o (v ∷ o)
    ∙ ap (λ b. not (b && has_slots l slot v)) (sym (and-true (is_storable k v)))

increments-breaks : (x : Option (ℕ × ℤ)) (next : ℕ) (l : Locals) (o : Operands)
    → breaks (increments x next l o) ≡ not (reads int (option_map (λ p. p.0) x) l)
increments-breaks None next l o = refl
increments-breaks (Some (slot, d)) next l o = by (local_in l slot)
  where
    by : (v : Option Value) → breaks (outcome_placed next [] l o (LocalRules.increments slot d v l o)) ≡ not (is_as int v)
    by None = refl
    by (Some (Int n)) = refl
    by (Some (Long n)) = refl
    by (Some (Ref n)) = refl
    by (Some (Addr n)) = refl

manages_stack-breaks : (forms : List StackForm) (next : ℕ) (l : Locals) (o : Operands)
    → breaks (outcome_placed next [] l o (LocalRules.leaves (managed_stack forms o) l)) ≡ not (list_any (fits_form o) forms)
manages_stack-breaks [] next l o = refl
manages_stack-breaks (form ∷ forms) next l o =
    by (has_form form.takes o) (puts_on form.puts o (drop (length form.takes) o)) (list_any (fits_form o) forms) (manages_stack-breaks forms next l o)
  where
    by : (b : Bool) (p : Operands) (c : Bool) → breaks (outcome_placed next [] l o (LocalRules.leaves (managed_stack forms o) l)) ≡ not c
        → breaks (outcome_placed next [] l o (LocalRules.leaves (if b then Some p else managed_stack forms o) l)) ≡ not (b || c)
    by true p c h = refl
    by false p c h = h

holds-stands : (t : Test) (o : Operands) → is_some (LocalRules.holds t o) ≡ stand (operands_of t) o
holds-stands (WithZero c) o = is-some-map _ (int_of o) ∙ int-stands o
holds-stands (OfInts c) o = is-some-map _ (ints_of o) ∙ ints-stand o
holds-stands (OfReferences same) o = is-some-map _ (refs_of o) ∙ refs-stand o
holds-stands (IsNull null) o = is-some-map _ (ref_of o) ∙ ref-stands o

branches-breaks : (t : Test) (target : Option ℕ) (next : ℕ) (l : Locals) (o : Operands)
    → breaks (branches t target next l o) ≡ not (is_some target && stand (operands_of t) o)
branches-breaks t None next l o = refl
branches-breaks t (Some target) next l o = by (LocalRules.holds t o) ∙ ap not (holds-stands t o)
  where
    by : (b : Option Bool) → breaks (outcome_placed next (target ∷ []) l o (LocalRules.goes_if b (LocalRules.tests t) l o)) ≡ not (is_some b)
    by None = refl
    by (Some true) = refl
    by (Some false) = refl

at-breaks : (l : Locals) (o : Operands) (place : Option ℕ) → breaks (goes_at l o place) ≡ not (is_some place)
at-breaks l o None = refl
at-breaks l o (Some place) = refl

switches-breaks : (a : Arg) (l : Locals) (o : Operands) → breaks (switches a l o) ≡ not (is_some (option_and_then (target_chosen a) (int_of o)))
switches-breaks a l o = by_keys (keys_in a)
  where
    none : (n : Option ℤ) → true ≡ not (is_some (option_and_then (λ m. let place : Option ℕ = None in place) n))
    none None = refl
    none (Some n) = refl

    some : (keys : Keys) (n : Option ℤ) → breaks (outcome_placed 0 (targets_of a) l o (LocalRules.switches_on keys n l o))
        ≡ not (is_some (option_and_then (λ m. slice_get (targets_of a) (LocalRules.target_by keys m)) n))
    some keys None = refl
    some keys (Some n) = at-breaks l (drop 1 o) (slice_get (targets_of a) (LocalRules.target_by keys n))

    by_keys : (keys : Option Keys) → breaks (needs keys (λ k. going (LocalRules.switches k) 0 (targets_of a)) l o)
        ≡ not (is_some (option_and_then (λ m. option_and_then (λ k. slice_get (targets_of a) (LocalRules.target_by k m)) keys) (int_of o)))
    by_keys None = none (int_of o)
    by_keys (Some keys) = some keys (int_of o)

back-breaks : (slot : Option ℕ) (l : Locals) (o : Operands) → breaks (goes_back slot l o) ≡ not (reads address slot l)
back-breaks None l o = refl
back-breaks (Some slot) l o = by (local_in l slot)
  where
    by : (v : Option Value) → breaks (outcome_placed 0 [] l o (LocalRules.goes_back v l o)) ≡ not (is_as address v)
    by None = refl
    by (Some (Int n)) = refl
    by (Some (Long n)) = refl
    by (Some (Ref n)) = refl
    by (Some (Addr n)) = refl

-- ---- every family

does-breaks : (f : Family) (a : Arg) (c : Option Value) (next : ℕ) (l : Locals) (o : Operands) → breaks (does f a c next l o) ≡ not (has_needs f a c l o)
does-breaks family.Nop a c next l o = refl
does-breaks (family.Constant d) a c next l o = refl
does-breaks family.PoolConstant a c next l o = given-breaks (option_and_then datum_in c) _ l o (λ d. refl)
does-breaks family.OperandConstant a c next l o = given-breaks (value_in a) _ l o (λ d. refl)
does-breaks (family.Load k) a c next l o = loads-breaks k (slot_in a) next l o
does-breaks (family.LoadFrom k slot) a c next l o = loads-breaks k (Some slot) next l o
does-breaks (family.Store k) a c next l o = stores-breaks k (slot_in a) next l o
does-breaks (family.StoreTo k slot) a c next l o = stores-breaks k (Some slot) next l o
does-breaks (family.ManageStack op) a c next l o = manages_stack-breaks (forms_of op) next l o
does-breaks (family.BinaryOfInts op) a c next l o = calculated-breaks 2 _ (ints_of o) _ next l o (ints-stand o)
does-breaks (family.BinaryOfLongs op) a c next l o = calculated-breaks 2 _ (longs_of o) _ next l o (longs-stand o)
does-breaks (family.DivisionOfInts op) a c next l o = divides-breaks _ (ints_of o) _ next l o (ints-stand o)
does-breaks (family.DivisionOfLongs op) a c next l o = divides-breaks _ (longs_of o) _ next l o (longs-stand o)
does-breaks (family.ShiftOfLong op) a c next l o = calculated-breaks 2 _ (long_and_int_of o) _ next l o (shift-stands o)
does-breaks (family.UnaryOfInt op) a c next l o = calculated-breaks 1 _ (int_of o) _ next l o (int-stands o)
does-breaks (family.UnaryOfLong op) a c next l o = calculated-breaks 1 _ (long_of o) _ next l o (long-stands o)
does-breaks family.Lcmp a c next l o = calculated-breaks 2 _ (longs_of o) _ next l o (longs-stand o)
does-breaks family.Iinc a c next l o = increments-breaks (increment_in a) next l o
does-breaks (family.Branch test) a c next l o = branches-breaks test (target_in a) next l o
does-breaks family.Goto a c next l o = given-breaks (target_in a) _ l o (λ t. refl)
does-breaks family.Jsr a c next l o = given-breaks (target_in a) _ l o (λ t. refl)
does-breaks family.Ret a c next l o = back-breaks (slot_in a) l o
does-breaks family.Switch a c next l o = switches-breaks a l o
does-breaks (family.Return k) a c next l o = refl
does-breaks family.NotLocal a c next l o = refl

rule-breaks : (f : Family) (a : Arg) (c : Option Value) (next : ℕ) (l : Locals) (o : Operands)
    → breaks (rule_by f a (option_and_then datum_in c) next l o) ≡ not (has_needs f a c l o)
rule-breaks f a c next l o = ap breaks (sym (does-is f a c next l o)) ∙ does-breaks f a c next l o

-- ---- as an effect

abbrev is_bad_effect : Effect → Bool
is_bad_effect Bad = true
is_bad_effect Next = false
is_bad_effect (Throws class) = false
is_bad_effect Other = false

bad-is : (e : Effect) → is_bad_effect e ≡ true → e ≡ Bad
bad-is Bad h = refl
bad-is Next h = absurd (false≢true h)
bad-is (Throws class) h = absurd (false≢true h)
bad-is Other h = absurd (false≢true h)

effect-bad : (x : Outcome) (fs : List PlacedFrame) → is_bad_effect (effect_in x fs) ≡ (breaks x || too_deep x fs)
effect-bad (GoesOn l o place) fs = by (can_hold o fs)
  where
    by : (b : Bool) → is_bad_effect (if b then Next else Bad) ≡ not b
    by true = refl
    by false = refl
effect-bad (Raises class) fs = refl
effect-bad Breaks fs = refl
effect-bad Leaves fs = refl

pub bad-exactly : (i : Instr) (c : Option Value) (next : ℕ) (s : FramesView)
    → (effect_of (rule_of i c next) s ≡ Bad)
    ↔ IsTrue (not (has_needs (family_of i.op) i.arg c (top_locals s.frames) (top_operands s.frames)) || too_deep (outcome_asked (rule_of i c next) s.frames) s.frames)
bad-exactly i c next s =
    let x = outcome_asked (rule_of i c next) s.frames in
    let is = effect-bad x s.frames
    ∙ ap (λ b. b || too_deep x s.frames) (rule-breaks (family_of i.op) i.arg c next (top_locals s.frames) (top_operands s.frames)) in
    (λ e. sym is ∙ ap is_bad_effect e, λ e. bad-is (effect_in x s.frames) (is ∙ e))
