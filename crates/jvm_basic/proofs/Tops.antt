-- The top frame with other operands.
use Rattle.std.proofs.Common.{◌≡◌, ℕ, ◌≤◌, List, [], ◌∷◌, drop, refl, ap, arith}
use Rattle.std.specs.Prelude.{nat_le}
use Rattle.std.proofs.lemmas.Bool.{le-leb}
use Rattle.heap_objects.specs.declared.Value.{Value}
use Rattle.frame_stack.specs.Widths.{height_of}
use Rattle.frame_stack.specs.FrameLists.{PlacedFrame, AreSound, has_frame, top_operands, can_push, with_operand, without_operand, with_place}
use Rattle.jvm_model.specs.Basis.Data.{Locals, Operands}
use Rattle.jvm_basic.specs.Outcomes.{top_locals, can_hold, with_top}

-- ---- as it is, and with a value more

pub holds-itself : (fs : List PlacedFrame) → AreSound fs → can_hold (top_operands fs) fs ≡ has_frame fs
holds-itself [] h = refl
holds-itself (f ∷ fs) h = le-leb _ _ h.0.operands

pub with_place-is : (place : ℕ) (fs : List PlacedFrame) → with_place place fs ≡ with_top (top_locals fs) (top_operands fs) place fs
with_place-is place [] = refl
with_place-is place (f ∷ fs) = refl

pub can_push-is : (v : Value) (fs : List PlacedFrame) → can_push v fs ≡ can_hold (v ∷ top_operands fs) fs
can_push-is v [] = refl
can_push-is v (f ∷ fs) = ap (λ n. nat_le n f.max_stack) (omega arith)

pub pushed-is : (v : Value) (place : ℕ) (fs : List PlacedFrame)
    → with_place place (with_operand v fs) ≡ with_top (top_locals fs) (v ∷ top_operands fs) place fs
pushed-is v place [] = refl
pushed-is v place (f ∷ fs) = refl

pub ruleset tops = (holds-itself, with_place-is, can_push-is, pushed-is)

-- ---- without an operand

height-dropped : (o : Operands) → height_of (drop 1 o) ≤ height_of o
height-dropped [] = omega arith
height-dropped (v ∷ o) = omega arith

pub sound-dropped : (fs : List PlacedFrame) → AreSound fs → AreSound (without_operand fs)
sound-dropped [] h = h
sound-dropped (f ∷ fs) h = (record { locals = h.0.locals; operands = omega (arith, height-dropped f.operands, h.0.operands) }, h.1)

pub dropped-operands : (fs : List PlacedFrame) → top_operands (without_operand fs) ≡ drop 1 (top_operands fs)
dropped-operands [] = refl
dropped-operands (f ∷ fs) = refl

pub dropped-locals : (fs : List PlacedFrame) → top_locals (without_operand fs) ≡ top_locals fs
dropped-locals [] = refl
dropped-locals (f ∷ fs) = refl

pub dropped-holds : (o : Operands) (fs : List PlacedFrame) → can_hold o (without_operand fs) ≡ can_hold o fs
dropped-holds o [] = refl
dropped-holds o (f ∷ fs) = refl

pub dropped-top : (l : Locals) (o : Operands) (place : ℕ) (fs : List PlacedFrame)
    → with_top l o place (without_operand fs) ≡ with_top l o place fs
dropped-top l o place [] = refl
dropped-top l o place (f ∷ fs) = refl

pub dropped-twice : (o : Operands) → drop 1 (drop 1 o) ≡ drop 2 o
dropped-twice [] = refl
dropped-twice (v ∷ o) = refl

pub dropped-thrice : (o : Operands) → drop 2 (drop 1 o) ≡ drop 3 o
dropped-thrice [] = refl
dropped-thrice (v ∷ o) = refl

pub ruleset dropped = (sound-dropped, dropped-operands, dropped-locals, dropped-holds, dropped-top, dropped-twice, dropped-thrice)
