-- The result of an instruction fits where its operands stood; and the exception of a zero divisor.
use Rattle.std.proofs.Common.{◌≡◌, ℕ, ◌≤◌, ℤ, Bool, true, List, [], ◌∷◌, drop, refl, arith}
use Rattle.std.specs.Prelude.{nat_le, Some, None, slice_get, codes}
use Rattle.const_pool.specs.BuiltIn.{built_in_names}
use Rattle.jvm_model.specs.Instructions.LocalRules
use Rattle.jvm_basic.specs.Rules.{class_position, arithmetic_exception}
use Rattle.std.proofs.lemmas.Bool.{le-leb}
use Rattle.heap_objects.specs.declared.Value.{Value}
use Rattle.heap_objects.specs.declared.Value.TheVariants.{Int, Long, Ref, Addr}
use Rattle.frame_stack.specs.Widths.{height_of}
use Rattle.frame_stack.specs.FrameLists.{PlacedFrame, AreSound, top_operands}
use Rattle.jvm_model.specs.Basis.Data.{Operands}
use Rattle.jvm_basic.specs.Outcomes.{can_hold}
use Rattle.jvm_model.specs.Basis.Values.{ints_of, longs_of, long_and_int_of}

-- the value on top of those left is within a height
abbrev fits : Operands → ℕ → Value → Bool
fits o most v = nat_le (height_of (v ∷ drop 2 o)) most

none : (p : ℤ × ℤ) → Some p ≡ None → ⊥
none p e = cc

ints-fit-in : (o : Operands) (most : ℕ) (p : ℤ × ℤ) (n : ℤ) → height_of o ≤ most → Some p ≡ ints_of o → fits o most (Int n) ≡ true
ints-fit-in (Int b ∷ Int a ∷ o) most p n h e = le-leb _ _ (omega (arith, h))
ints-fit-in _ most p n h e = absurd (none p e)

pub ints-fit : (fs : List PlacedFrame) (p : ℤ × ℤ) (n : ℤ) → AreSound fs → Some p ≡ ints_of (top_operands fs)
    → can_hold (Int n ∷ drop 2 (top_operands fs)) fs ≡ true
ints-fit [] p n h e = absurd (none p e)
ints-fit (f ∷ fs) p n h e = ints-fit-in f.operands f.max_stack p n h.0.operands e

longs-fit-in : (o : Operands) (most : ℕ) (p : ℤ × ℤ) (v : Value) → height_of o ≤ most → Some p ≡ longs_of o → fits o most v ≡ true
longs-fit-in (Long b ∷ Long a ∷ o) most p (Int n) h e = le-leb _ _ (omega (arith, h))
longs-fit-in (Long b ∷ Long a ∷ o) most p (Long n) h e = le-leb _ _ (omega (arith, h))
longs-fit-in (Long b ∷ Long a ∷ o) most p (Ref n) h e = le-leb _ _ (omega (arith, h))
longs-fit-in (Long b ∷ Long a ∷ o) most p (Addr n) h e = le-leb _ _ (omega (arith, h))
longs-fit-in _ most p v h e = absurd (none p e)

pub longs-fit : (fs : List PlacedFrame) (p : ℤ × ℤ) (v : Value) → AreSound fs → Some p ≡ longs_of (top_operands fs)
    → can_hold (v ∷ drop 2 (top_operands fs)) fs ≡ true
longs-fit [] p v h e = absurd (none p e)
longs-fit (f ∷ fs) p v h e = longs-fit-in f.operands f.max_stack p v h.0.operands e

shift-fits-in : (o : Operands) (most : ℕ) (p : ℤ × ℤ) (n : ℤ) → height_of o ≤ most → Some p ≡ long_and_int_of o → fits o most (Long n) ≡ true
shift-fits-in (Int b ∷ Long a ∷ o) most p n h e = le-leb _ _ (omega (arith, h))
shift-fits-in _ most p n h e = absurd (none p e)

pub shift-fits : (fs : List PlacedFrame) (p : ℤ × ℤ) (n : ℤ) → AreSound fs → Some p ≡ long_and_int_of (top_operands fs)
    → can_hold (Long n ∷ drop 2 (top_operands fs)) fs ≡ true
shift-fits [] p n h e = absurd (none p e)
shift-fits (f ∷ fs) p n h e = shift-fits-in f.operands f.max_stack p n h.0.operands e

-- the exception of a zero divisor, among the built-in classes
pub arithmetic-is-named : slice_get built_in_names arithmetic_exception ≡ Some (codes "java/lang/ArithmeticException")
arithmetic-is-named = refl

pub arithmetic-position : class_position LocalRules.arithmetic_exception ≡ arithmetic_exception
unfolding class_position
arithmetic-position = refl

pub ruleset fitting = (ints-fit, longs-fit, shift-fits, arithmetic-position)
