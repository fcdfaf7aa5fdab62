-- An instruction as it is run does what the instruction does.
use Rattle.std.proofs.Common.{◌≡◌, ℕ, true, false, refl, ap, ◌∙◌}
use Rattle.std.specs.Prelude.{Option, Some}
use Rattle.std.proofs.lemmas.Bool.{false≢true}
use Rattle.heap_objects.specs.declared.Value.{Value}
use Rattle.heap_objects.specs.declared.datum.Datum.TheVariants as datum
use Rattle.code_model.specs.declared.instr.Arg.{Arg}
use Rattle.code_model.specs.declared.instr.Arg.TheVariants as arg
use Rattle.code_model.specs.declared.instr.Instr.{Instr}
use Rattle.const_pool.specs.declared.descriptor.Kind.{Kind}
use Rattle.const_pool.specs.declared.descriptor.Kind.TheVariants as kind
use Rattle.frame_stack.specs.FrameLists.{FramesView}
use Rattle.jvm_model.specs.Basis.Families.{family_of}
use Rattle.jvm_model.specs.declared.family.Family.{Family}
use Rattle.jvm_model.specs.declared.family.Family.TheVariants as family
use Rattle.jvm_model.specs.declared.family.Test.{Test}
use Rattle.jvm_model.specs.declared.family.Test.TheVariants.{OfInts, WithZero, OfReferences, IsNull}
use Rattle.jvm_basic.specs.Hot.{does_hot, hot_branch, hot_by, hot_load, hot_store, is_alone, is_element}
use Rattle.jvm_basic.specs.Outcomes.{after, effect_of}
use Rattle.jvm_basic.specs.Rules.{branches, does, loads, rule_of, stores}
use Rattle.jvm_basic.proofs.PlacedOutcomes.{effect-is, after-is}

load-is : (k : Kind) (slot next : ℕ) → is_alone (hot_load k slot next) ≡ true → does_hot (hot_load k slot next) ≡ loads k (Some slot) next
load-is kind.Int slot next alone = refl
load-is kind.Long slot next alone = refl
load-is kind.Ref slot next alone = refl
load-is _ slot next alone = absurd (false≢true alone)

store-is : (k : Kind) (slot next : ℕ) → is_alone (hot_store k slot next) ≡ true → does_hot (hot_store k slot next) ≡ stores k (Some slot) next
store-is kind.Int slot next alone = refl
store-is kind.Long slot next alone = refl
store-is kind.Ref slot next alone = refl
store-is _ slot next alone = absurd (false≢true alone)

branch-is : (test : Test) (target next : ℕ) → does_hot (hot_branch test target next) ≡ branches test (Some target) next
branch-is (OfInts comparison) target next = refl
branch-is (WithZero comparison) target next = refl
branch-is (OfReferences same) target next = refl
branch-is (IsNull null) target next = refl

-- by families
hot-is : (f : Family) (a : Arg) (c : Option Value) (next : ℕ) → is_alone (hot_by f a next) ≡ true → does_hot (hot_by f a next) ≡ does f a c next
unfolding hot_by
hot-is (family.Constant (datum.Int n)) a c next alone = refl
hot-is family.OperandConstant (arg.Value n) c next alone = refl
hot-is (family.Load k) (arg.Local slot) c next alone = load-is k slot next alone
hot-is (family.LoadFrom k slot) a c next alone = load-is k slot next alone
hot-is (family.Store k) (arg.Local slot) c next alone = store-is k slot next alone
hot-is (family.StoreTo k slot) a c next alone = store-is k slot next alone
hot-is (family.BinaryOfInts op) a c next alone = refl
hot-is family.Iinc (arg.Inc slot added) c next alone = refl
hot-is (family.Branch test) (arg.Target target) c next alone = branch-is test target next
hot-is family.Goto (arg.Target target) c next alone = refl
hot-is _ _ c next alone = absurd (false≢true alone)

no-load : (k : Kind) (slot next : ℕ) → is_element (hot_load k slot next) ≡ false
no-load kind.Int slot next = refl
no-load kind.Long slot next = refl
no-load kind.Ref slot next = refl
no-load _ slot next = refl

no-store : (k : Kind) (slot next : ℕ) → is_element (hot_store k slot next) ≡ false
no-store kind.Int slot next = refl
no-store kind.Long slot next = refl
no-store kind.Ref slot next = refl
no-store _ slot next = refl

no-branch : (test : Test) (target next : ℕ) → is_element (hot_branch test target next) ≡ false
no-branch (OfInts comparison) target next = refl
no-branch (WithZero comparison) target next = refl
no-branch (OfReferences same) target next = refl
no-branch (IsNull null) target next = refl

pub no-element : (f : Family) (a : Arg) (next : ℕ) → is_element (hot_by f a next) ≡ false
unfolding hot_by
no-element (family.Constant (datum.Int n)) a next = refl
no-element family.OperandConstant (arg.Value n) next = refl
no-element (family.Load k) (arg.Local slot) next = no-load k slot next
no-element (family.LoadFrom k slot) a next = no-load k slot next
no-element (family.Store k) (arg.Local slot) next = no-store k slot next
no-element (family.StoreTo k slot) a next = no-store k slot next
no-element (family.BinaryOfInts op) a next = refl
no-element family.Iinc (arg.Inc slot added) next = refl
no-element (family.Branch test) (arg.Target target) next = no-branch test target next
no-element family.Goto (arg.Target target) next = refl
no-element _ _ next = refl

-- of an instruction
pub hot-effect : (i : Instr) (c : Option Value) (next : ℕ) (s : FramesView) → is_alone (hot_by (family_of i.op) i.arg next) ≡ true
    → effect_of (does_hot (hot_by (family_of i.op) i.arg next)) s ≡ effect_of (rule_of i c next) s
hot-effect i c next s alone =
    ap (λ r. effect_of r s) (hot-is (family_of i.op) i.arg c next alone) ∙ effect-is (family_of i.op) i.arg c next s

pub hot-after : (i : Instr) (c : Option Value) (next : ℕ) (s : FramesView) → is_alone (hot_by (family_of i.op) i.arg next) ≡ true
    → after (does_hot (hot_by (family_of i.op) i.arg next)) s ≡ after (rule_of i c next) s
hot-after i c next s alone =
    ap (λ r. after r s) (hot-is (family_of i.op) i.arg c next alone) ∙ after-is (family_of i.op) i.arg c next s
