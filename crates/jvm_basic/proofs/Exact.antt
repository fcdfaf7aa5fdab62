-- Which instructions are left to others, and which throw.
use Rattle.std.proofs.Common.{◌≡◌, ◌↔◌, ℕ, ◌<◌, Bool, true, false, List, [], ◌∷◌, ℤ, pos, refl, sym, ap, ◌∙◌, subst}
use Rattle.std.specs.Prelude.{Option, Some, None, IsTrue, drop, slice_get, if◌then◌else◌}
use Rattle.std.specs.Bool.{beq}
use Rattle.std.specs.Cmp.{booleans_Decides}
use Rattle.std.specs.Option.{option_map, option_and_then}
use Rattle.std.specs.Ordering.{int_eq}
use Rattle.std.specs.Int.{Width, w32, w64}
use Rattle.std.specs.List.{list_all, range_with_len}
use Rattle.std.proofs.lemmas.Bool.{false≢true}
use Rattle.heap_objects.specs.declared.Value.{Value}
use Rattle.heap_objects.specs.declared.Value.TheVariants.{Int, Long}
use Rattle.frame_stack.specs.FrameLists.{PlacedFrame, FramesView, with_frames, top_operands}
use Rattle.code_model.specs.declared.instr.Arg.{Arg}
use Rattle.code_model.specs.declared.instr.Instr.{Instr}
use Rattle.op_table.specs.Opcodes.{groups, row_of}
use Rattle.op_table.proofs.Entries.{holds_below}
use Rattle.jvm_basic.specs.declared.effect.Effect.{Effect}
use Rattle.jvm_basic.specs.declared.effect.Effect.TheVariants.{Next, Throws, Bad, Other}
use Rattle.jvm_model.specs.declared.family.Division.{Division}
use Rattle.jvm_model.specs.declared.family.Family.{Family}
use Rattle.jvm_model.specs.declared.family.Family.TheVariants as family
use Rattle.jvm_model.specs.Basis.Families.{rows, family_of}
use Rattle.jvm_model.specs.Basis.Data.{Locals, Operands}
use Rattle.jvm_basic.specs.Outcomes.{Outcome, GoesOn, Raises, Breaks, Leaves, Rule, can_hold, with_top, effect_in, frames_in, outcome_asked, effect_of, after}
use Rattle.jvm_model.specs.Basis.Values.{local_loaded, int_of, ints_of, longs_of, local_in}
use Rattle.jvm_model.specs.Basis.StackForms.{forms_of}
use Rattle.jvm_model.specs.Basis.Values.{managed_stack}
use Rattle.jvm_model.specs.Basis.Data.{Next as Behind, Target, Back}
use Rattle.jvm_model.specs.declared.instruction.Keys.{Keys}
use Rattle.jvm_model.specs.Basis.Data as model
use Rattle.jvm_model.specs.Codes.Lines.{value_in, slot_in, increment_in, target_in, keys_in, targets_of}
use Rattle.jvm_model.specs.Instructions.LocalRules
use Rattle.jvm_basic.specs.Rules.{datum_in, arithmetic_exception, goes_at, outcome_placed, needs, does, rule_by, rule_of}
use Rattle.jvm_basic.proofs.Fitting.{arithmetic-position}
use Rattle.jvm_basic.proofs.PlacedOutcomes.{is_simple, pushes-simple, replaces-simple, leaves-simple, stores-simple, increments-simple, back-simple, does-is}
use Rattle.jvm_basic.specs.Laws.{is_elsewhere, has_zero_divisor, divides_by_zero}

-- ---- an outcome that stays within the frame: the frame goes on, or breaks

abbrev stays : Outcome → Bool
stays (GoesOn l o place) = true
stays (Raises class) = false
stays Breaks = true
stays Leaves = false

abbrev Stays : Outcome → Type 0
Stays outcome = stays outcome ≡ true

at-stays : (l : Locals) (o : Operands) (place : Option ℕ) → Stays (goes_at l o place)
at-stays l o None = refl
at-stays l o (Some place) = refl

simple-stays : (x : model.Outcome) (next : ℕ) (targets : List ℕ) (l : Locals) (o : Operands) → is_simple x ≡ true → Stays (outcome_placed next targets l o x)
simple-stays (model.GoesOn m p Behind) next targets l o h = refl
simple-stays (model.GoesOn m p (Back t)) next targets l o h = refl
simple-stays (model.GoesOn m p (Target k)) next targets l o h = absurd (false≢true h)
simple-stays (model.Breaks false) next targets l o h = refl
simple-stays (model.Breaks true) next targets l o h = absurd (false≢true h)
simple-stays _ next targets l o h = absurd (false≢true h)

needs-stays : {A : Type 0} (v : Option A) (rule : A → Rule) (l : Locals) (o : Operands) → ((x : A) → Stays (rule x l o)) → Stays (needs v rule l o)
needs-stays None rule l o each = refl
needs-stays (Some x) rule l o each = each x

branch-stays : (b : Option Bool) (taken next target : ℕ) (l : Locals) (o : Operands) → Stays (outcome_placed next (target ∷ []) l o (LocalRules.goes_if b taken l o))
branch-stays None taken next target l o = refl
branch-stays (Some true) taken next target l o = refl
branch-stays (Some false) taken next target l o = refl

switch-stays : (keys : Keys) (n : Option ℤ) (targets : List ℕ) (l : Locals) (o : Operands) → Stays (outcome_placed 0 targets l o (LocalRules.switches_on keys n l o))
switch-stays keys None targets l o = refl
switch-stays keys (Some n) targets l o = at-stays l (drop 1 o) (slice_get targets (LocalRules.target_by keys n))

-- ---- what an instruction comes to, of every family

abbrev left : Outcome → Bool
left Leaves = true
left (GoesOn l o place) = false
left (Raises class) = false
left Breaks = false

abbrev throwing : Outcome → Bool
throwing (Raises class) = true
throwing (GoesOn l o place) = false
throwing Breaks = false
throwing Leaves = false

-- whether it is left to others, and whether it throws
record Comes (x : Outcome) (e z : Bool) : Type 0 where
  left : left x ≡ e
  throws : throwing x ≡ z
  only : (class : ℕ) → x ≡ Raises class → class ≡ arithmetic_exception

stays-comes : (x : Outcome) → Stays x → Comes x false false
stays-comes (GoesOn l o place) h = record { left = refl; throws = refl; only = λ class e. absurd (false≢true (ap throwing e)) }
stays-comes Breaks h = record { left = refl; throws = refl; only = λ class e. absurd (false≢true (ap throwing e)) }
stays-comes (Raises class) h = absurd (false≢true h)
stays-comes Leaves h = absurd (false≢true h)

abbrev class_of : Outcome → ℕ
class_of (Raises class) = class
class_of (GoesOn l o place) = 0
class_of Breaks = 0
class_of Leaves = 0

-- there are operands, and no result
abbrev lacks : Option (Option Value) → Bool
lacks (Some None) = true
lacks (Some (Some v)) = false
lacks None = false

divides-comes : (x : Option (Option Value)) (next : ℕ) (l : Locals) (o : Operands) (z : Bool) → lacks x ≡ z
    → Comes (outcome_placed next [] l o (LocalRules.divides_these x l o)) false z
divides-comes None next l o z h = record { left = refl; throws = h; only = λ class e. absurd (false≢true (ap throwing e)) }
divides-comes (Some None) next l o z h = record { left = refl; throws = h; only = λ class e. sym (ap class_of e) ∙ arithmetic-position }
divides-comes (Some (Some v)) next l o z h = record { left = refl; throws = h; only = λ class e. absurd (false≢true (ap throwing e)) }

quotient-lacks : (op : Division) (w : Width) (make : ℤ → Value) (x : Option (ℤ × ℤ))
    → lacks (option_map (λ p. option_map make (LocalRules.number_divided op w p.0 p.1)) x) ≡ has_zero_divisor x
quotient-lacks op w make None = refl
quotient-lacks op w make (Some p) = by (int_eq p.1 (pos 0)) (LocalRules.divided_by op w p.0 p.1)
  where
    by : (b : Bool) (q : ℤ) → lacks (Some (option_map make (if b then None else Some q))) ≡ b
    by true q = refl
    by false q = refl

-- the families that are left to others
abbrev other : Family → Bool
other family.NotLocal = true
other (family.Return k) = true
other _ = false

left-comes : Comes Leaves true false
left-comes = record { left = refl; throws = refl; only = λ class e. absurd (false≢true (ap throwing e)) }

comes : (f : Family) (a : Arg) (c : Option Value) (next : ℕ) (l : Locals) (o : Operands) → Comes (does f a c next l o) (other f) (divides_by_zero f o)
comes family.Nop a c next l o = stays-comes _ refl
comes (family.Constant d) a c next l o = stays-comes _ refl
comes family.PoolConstant a c next l o = stays-comes _ (needs-stays (option_and_then datum_in c) _ l o (λ d. refl))
comes family.OperandConstant a c next l o = stays-comes _ (needs-stays (value_in a) _ l o (λ d. refl))
comes (family.Load k) a c next l o = stays-comes _ (needs-stays (slot_in a) _ l o (λ n. simple-stays _ next [] l o (pushes-simple (local_loaded k (slice_get l n)) l o)))
comes (family.LoadFrom k slot) a c next l o = stays-comes _ (simple-stays _ next [] l o (pushes-simple (local_loaded k (slice_get l slot)) l o))
comes (family.Store k) a c next l o = stays-comes _ (needs-stays (slot_in a) _ l o (λ n. simple-stays _ next [] l o (stores-simple k n l o)))
comes (family.StoreTo k slot) a c next l o = stays-comes _ (simple-stays _ next [] l o (stores-simple k slot l o))
comes (family.ManageStack op) a c next l o = stays-comes _ (simple-stays _ next [] l o (leaves-simple (managed_stack (forms_of op) o) l))
comes (family.BinaryOfInts op) a c next l o = stays-comes _ (simple-stays _ next [] l o (replaces-simple 2 _ l o))
comes (family.BinaryOfLongs op) a c next l o = stays-comes _ (simple-stays _ next [] l o (replaces-simple 2 _ l o))
comes (family.DivisionOfInts op) a c next l o = divides-comes _ next l o _ (quotient-lacks op w32 Int (ints_of o))
comes (family.DivisionOfLongs op) a c next l o = divides-comes _ next l o _ (quotient-lacks op w64 Long (longs_of o))
comes (family.ShiftOfLong op) a c next l o = stays-comes _ (simple-stays _ next [] l o (replaces-simple 2 _ l o))
comes (family.UnaryOfInt op) a c next l o = stays-comes _ (simple-stays _ next [] l o (replaces-simple 1 _ l o))
comes (family.UnaryOfLong op) a c next l o = stays-comes _ (simple-stays _ next [] l o (replaces-simple 1 _ l o))
comes family.Lcmp a c next l o = stays-comes _ (simple-stays _ next [] l o (replaces-simple 2 _ l o))
comes family.Iinc a c next l o =
    stays-comes _ (needs-stays (increment_in a) _ l o (λ p. simple-stays _ next [] l o (increments-simple p.0 p.1 (local_in l p.0) l o)))
comes (family.Branch test) a c next l o =
    stays-comes _ (needs-stays (target_in a) _ l o (λ t. branch-stays (LocalRules.holds test o) (LocalRules.tests test) next t l o))
comes family.Goto a c next l o = stays-comes _ (needs-stays (target_in a) _ l o (λ t. refl))
comes family.Jsr a c next l o = stays-comes _ (needs-stays (target_in a) _ l o (λ t. refl))
comes family.Ret a c next l o = stays-comes _ (needs-stays (slot_in a) _ l o (λ n. simple-stays _ 0 [] l o (back-simple (local_in l n) l o)))
comes family.Switch a c next l o = stays-comes _ (needs-stays (keys_in a) _ l o (λ keys. switch-stays keys (int_of o) (targets_of a) l o))
comes (family.Return k) a c next l o = left-comes
comes family.NotLocal a c next l o = left-comes

rule-comes : (f : Family) (a : Arg) (c : Option Value) (next : ℕ) (l : Locals) (o : Operands)
    → Comes (rule_by f a (option_and_then datum_in c) next l o) (other f) (divides_by_zero f o)
rule-comes f a c next l o = subst (λ x. Comes x (other f) (divides_by_zero f o)) (does-is f a c next l o) (comes f a c next l o)

-- ---- as an effect

abbrev is_other : Effect → Bool
is_other Other = true
is_other Next = false
is_other (Throws class) = false
is_other Bad = false

abbrev is_throw : Effect → Bool
is_throw (Throws class) = true
is_throw Next = false
is_throw Bad = false
is_throw Other = false

effect-other : (x : Outcome) (fs : List PlacedFrame) → is_other (effect_in x fs) ≡ left x
effect-other (GoesOn l o place) fs = by (can_hold o fs)
  where
    by : (b : Bool) → is_other (if b then Next else Bad) ≡ false
    by true = refl
    by false = refl
effect-other (Raises class) fs = refl
effect-other Breaks fs = refl
effect-other Leaves fs = refl

effect-throws : (x : Outcome) (fs : List PlacedFrame) → is_throw (effect_in x fs) ≡ throwing x
effect-throws (GoesOn l o place) fs = by (can_hold o fs)
  where
    by : (b : Bool) → is_throw (if b then Next else Bad) ≡ false
    by true = refl
    by false = refl
effect-throws (Raises class) fs = refl
effect-throws Breaks fs = refl
effect-throws Leaves fs = refl

other-is : (e : Effect) → is_other e ≡ true → e ≡ Other
other-is Other h = refl
other-is Next h = absurd (false≢true h)
other-is (Throws class) h = absurd (false≢true h)
other-is Bad h = absurd (false≢true h)

effect-raises : (x : Outcome) (fs : List PlacedFrame) (class : ℕ) → effect_in x fs ≡ Throws class → x ≡ Raises class
effect-raises (Raises c) fs class e = ap (λ n. Raises n) (ap thrown e)
  where
    thrown : Effect → ℕ
    thrown (Throws n) = n
    thrown Next = 0
    thrown Bad = 0
    thrown Other = 0
effect-raises (GoesOn l o place) fs class e = absurd (false≢true (sym (effect-throws (GoesOn l o place) fs) ∙ ap is_throw e))
effect-raises Breaks fs class e = absurd (false≢true (ap is_throw e))
effect-raises Leaves fs class e = absurd (false≢true (ap is_throw e))

-- ---- by opcode

elsewhere-fits : list_all (λ op. beq (other (family_of op)) (is_elsewhere op)) (range_with_len 0 256) ≡ true
unfolding family_of rows row_of groups
elsewhere-fits = refl

elsewhere-is : (op : ℕ) → op < 256 → other (family_of op) ≡ is_elsewhere op
elsewhere-is op h = (booleans_Decides _ _).0 (holds_below (λ k. beq (other (family_of k)) (is_elsewhere k)) 256 op elsewhere-fits h)

-- ---- the effect of an instruction

pub other-exactly : (i : Instr) (c : Option Value) (next : ℕ) (s : FramesView) → i.op < 256
    → (effect_of (rule_of i c next) s ≡ Other) ↔ IsTrue (is_elsewhere i.op)
other-exactly i c next s h =
    let x = outcome_asked (rule_of i c next) s.frames in
    let is : is_other (effect_in x s.frames) ≡ is_elsewhere i.op =
    effect-other x s.frames ∙ ((rule-comes (family_of i.op) i.arg c next _ _).left ∙ elsewhere-is i.op h) in
    (λ e. sym is ∙ ap is_other e, λ e. other-is (effect_in x s.frames) (is ∙ e))

pub throws-only : (i : Instr) (c : Option Value) (next : ℕ) (s : FramesView) (class : ℕ)
    → effect_of (rule_of i c next) s ≡ Throws class → class ≡ arithmetic_exception
throws-only i c next s class e =
    (rule-comes (family_of i.op) i.arg c next _ _).only class (effect-raises (outcome_asked (rule_of i c next) s.frames) s.frames class e)

pub throws-exactly : (i : Instr) (c : Option Value) (next : ℕ) (s : FramesView)
    → (effect_of (rule_of i c next) s ≡ Throws arithmetic_exception) ↔ IsTrue (divides_by_zero (family_of i.op) (top_operands s.frames))
throws-exactly i c next s =
    let x = outcome_asked (rule_of i c next) s.frames in
    let is : is_throw (effect_in x s.frames) ≡ divides_by_zero (family_of i.op) (top_operands s.frames) =
    effect-throws x s.frames ∙ (rule-comes (family_of i.op) i.arg c next _ _).throws in
    (λ e. sym is ∙ ap is_throw e, λ e. thrown-is (effect_in x s.frames) (is ∙ e) (λ class. throws-only i c next s class))
  where
    thrown-is : (e : Effect) → is_throw e ≡ true → ((class : ℕ) → e ≡ Throws class → class ≡ arithmetic_exception) → e ≡ Throws arithmetic_exception
    thrown-is (Throws class) h only = ap Throws (only class refl)
    thrown-is Next h only = absurd (false≢true h)
    thrown-is Bad h only = absurd (false≢true h)
    thrown-is Other h only = absurd (false≢true h)

pub kept-unless-next : (r : Rule) (s : FramesView) → (effect_of r s ≡ Next → ⊥) → after r s ≡ s
kept-unless-next r s apart = ap (λ fs. with_frames fs s) (by (outcome_asked r s.frames) s.frames apart)
  where
    chosen-kept : (b : Bool) (fs gs : List PlacedFrame) → ((if b then Next else Bad) ≡ Next → ⊥) → (if b then gs else fs) ≡ fs
    chosen-kept true fs gs apart = absurd (apart refl)
    chosen-kept false fs gs apart = refl

    by : (x : Outcome) (fs : List PlacedFrame) → (effect_in x fs ≡ Next → ⊥) → frames_in x fs ≡ fs
    by (GoesOn l o place) fs apart = chosen-kept (can_hold o fs) fs (with_top l o place fs) apart
    by (Raises class) fs apart = refl
    by Breaks fs apart = refl
    by Leaves fs apart = refl
