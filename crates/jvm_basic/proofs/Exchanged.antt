-- The top frame with fewer operands of one slot, and with a value in their place.
use Rattle.std.proofs.Common.{◌≡◌, ℕ, zero, suc, ◌≤◌, List, [], ◌∷◌, drop, refl, arith}
use Rattle.heap_objects.specs.declared.Value.{Value}
use Rattle.frame_stack.specs.Widths.{height_of}
use Rattle.frame_stack.specs.FrameLists.{PlacedFrame, AreSound, top_operands, with_operand, without_arguments, with_place}
use Rattle.jvm_model.specs.Basis.Data.{Locals, Operands}
use Rattle.jvm_basic.specs.Outcomes.{top_locals, can_hold, with_top}

pub exchanged_is : (n : ℕ) (v : Value) (place : ℕ) (fs : List PlacedFrame)
    → with_place place (with_operand v (without_arguments n fs)) ≡ with_top (top_locals fs) (v ∷ drop n (top_operands fs)) place fs
exchanged_is n v place [] = refl
exchanged_is n v place (f ∷ fs) = refl

height-without : (n : ℕ) (o : Operands) → height_of (drop n o) ≤ height_of o
height-without zero o = omega arith
height-without (suc n) [] = omega arith
height-without (suc n) (v ∷ o) = omega (arith, height-without n o)

pub sound-without : (n : ℕ) (fs : List PlacedFrame) → AreSound fs → AreSound (without_arguments n fs)
sound-without n [] h = h
sound-without n (f ∷ fs) h = (record { locals = h.0.locals; operands = omega (arith, height-without n f.operands, h.0.operands) }, h.1)

pub without-operands : (n : ℕ) (fs : List PlacedFrame) → top_operands (without_arguments n fs) ≡ drop n (top_operands fs)
without-operands zero [] = refl
without-operands (suc n) [] = refl
without-operands n (f ∷ fs) = refl

pub without-locals : (n : ℕ) (fs : List PlacedFrame) → top_locals (without_arguments n fs) ≡ top_locals fs
without-locals n [] = refl
without-locals n (f ∷ fs) = refl

pub without-holds : (n : ℕ) (o : Operands) (fs : List PlacedFrame) → can_hold o (without_arguments n fs) ≡ can_hold o fs
without-holds n o [] = refl
without-holds n o (f ∷ fs) = refl

pub without-top : (n : ℕ) (l : Locals) (o : Operands) (place : ℕ) (fs : List PlacedFrame)
    → with_top l o place (without_arguments n fs) ≡ with_top l o place fs
without-top n l o place [] = refl
without-top n l o place (f ∷ fs) = refl

pub ruleset shrunk = (sound-without, without-operands, without-locals, without-holds, without-top)
