-- The top frame, by its operands.
use Rattle.std.proofs.Common.{◌≡◌, ℕ, zero, suc, ◌+◌, ◌≤◌, true, false, List, [], ◌∷◌, ◌++◌, take, drop, refl, ap, ◌∙◌, arith}
use Rattle.std.specs.Prelude.{nat_le, slice_get}
use Rattle.std.proofs.lemmas.Bool.{le-leb, leb-true, false≢true}
use Rattle.heap_objects.specs.declared.Value.{Value}
use Rattle.frame_stack.specs.Widths.{height_of}
use Rattle.frame_stack.specs.FrameLists.{PlacedFrame, FramesView, with_frames, top_operands, can_push, with_operand, without_operand, with_place}
use Rattle.jvm_basic.proofs.Tops.{can_push-is}
use Rattle.jvm_model.specs.Basis.Data.{Operands}
use Rattle.jvm_basic.specs.Outcomes.{top_locals, can_hold, with_top, effect_of, after}
use Rattle.jvm_model.specs.Basis.Values.{with_value as above}
use Rattle.jvm_basic.specs.Copies.{values_inserted, inserts, with_operands}
use Rattle.jvm_basic.specs.declared.effect.Effect.TheVariants.{Next, Bad}

-- a push that is taken back
pub pushed-popped : (v : Value) (fs : List PlacedFrame) → without_operand (with_operand v fs) ≡ fs
pushed-popped v [] = refl
pushed-popped v (f ∷ fs) = refl

pub pushed-operands : (v : Value) (fs : List PlacedFrame) → can_push v fs ≡ true → top_operands (with_operand v fs) ≡ v ∷ top_operands fs
pushed-operands v [] e = absurd (false≢true e)
pushed-operands v (f ∷ fs) e = refl

pub pushed-holds : (v : Value) (o : Operands) (fs : List PlacedFrame) → can_hold o (with_operand v fs) ≡ can_hold o fs
pushed-holds v o [] = refl
pushed-holds v o (f ∷ fs) = refl

-- ---- the top frame with other operands

pub with_operand-is : (v : Value) (fs : List PlacedFrame) → with_operand v fs ≡ with_operands (v ∷ top_operands fs) fs
with_operand-is v [] = refl
with_operand-is v (f ∷ fs) = refl

pub without-is : (fs : List PlacedFrame) → without_operand fs ≡ with_operands (drop 1 (top_operands fs)) fs
without-is [] = refl
without-is (f ∷ fs) = refl

pub with-itself : (fs : List PlacedFrame) → with_operands (top_operands fs) fs ≡ fs
with-itself [] = refl
with-itself (f ∷ fs) = refl

pub with-twice : (o p : Operands) (fs : List PlacedFrame) → with_operands o (with_operands p fs) ≡ with_operands o fs
with-twice o p [] = refl
with-twice o p (f ∷ fs) = refl

pub with-holds : (o p : Operands) (fs : List PlacedFrame) → can_hold o (with_operands p fs) ≡ can_hold o fs
with-holds o p [] = refl
with-holds o p (f ∷ fs) = refl

pub with-operands : (o p : Operands) (fs : List PlacedFrame) → can_hold o fs ≡ true → top_operands (with_operands p fs) ≡ p
with-operands o p [] h = absurd (false≢true h)
with-operands o p (f ∷ fs) h = refl

pub with-top : (o : Operands) (place : ℕ) (fs : List PlacedFrame)
    → with_place place (with_operands o fs) ≡ with_top (top_locals fs) o place fs
with-top o place [] = refl
with-top o place (f ∷ fs) = refl

-- ---- heights

pub fewer : (o p : Operands) (fs : List PlacedFrame) → can_hold o fs ≡ true → height_of p ≤ height_of o → can_hold p fs ≡ true
fewer o p [] h le = h
fewer o p (f ∷ fs) h le = le-leb _ _ (omega (arith, leb-true (height_of o) f.max_stack h, le))

pub height-append : (o p : Operands) → height_of (o ++ p) ≡ height_of o + height_of p
height-append [] p = omega arith
height-append (v ∷ o) p = omega (arith, height-append o p)

height-cut : (n : ℕ) (o : Operands) → height_of (take n o) + height_of (drop n o) ≡ height_of o
height-cut zero o = omega arith
height-cut (suc n) [] = omega arith
height-cut (suc n) (v ∷ o) = omega (arith, height-cut n o)

pub height-inserted : (n : ℕ) (values o : Operands) → height_of (values_inserted n values o) ≡ height_of (values ++ o)
height-inserted n values o =
    omega (arith, height-append (take n o) (values ++ drop n o), height-append values (drop n o), height-append values o, height-cut n o)

pub inserted-holds : (n : ℕ) (values o : Operands) (fs : List PlacedFrame) → can_hold (values_inserted n values o) fs ≡ can_hold (values ++ o) fs
inserted-holds n values o [] = refl
inserted-holds n values o (f ∷ fs) = ap (λ k. nat_le k f.max_stack) (height-inserted n values o)

-- the operand that was taken off goes back
pub put-back : (n : ℕ) (values : List Value) (fs : List PlacedFrame) → can_hold (values ++ top_operands fs) fs ≡ true
    → can_hold (above (slice_get (top_operands fs) 0) (values_inserted n values (drop 1 (top_operands fs)))) fs ≡ true
put-back n values [] h = absurd (false≢true h)
put-back n values (f ∷ fs) h = le-leb _ _ (by f.operands (leb-true _ _ h))
  where
    by : (o : Operands) → height_of (values ++ o) ≤ f.max_stack → height_of (above (slice_get o 0) (values_inserted n values (drop 1 o))) ≤ f.max_stack
    by [] le = omega (arith, height-inserted n values [], le)
    by (v ∷ o) le = omega (arith, height-inserted n values o, height-append values o, height-append values (v ∷ o), le)

abbrev inserted-below : ℕ → List Value → List PlacedFrame → List PlacedFrame
inserted-below n values fs = with_operands (values_inserted n values (top_operands (without_operand fs))) (without_operand fs)

pub put-back-on : (n : ℕ) (values : List Value) (fs : List PlacedFrame) → can_hold (values ++ top_operands fs) fs ≡ true
    → can_hold (above (slice_get (top_operands fs) 0) (top_operands (inserted-below n values fs))) (inserted-below n values fs) ≡ true
put-back-on n values [] h = absurd (false≢true h)
put-back-on n values (f ∷ fs) h = put-back n values (f ∷ fs) h

-- ---- values below so many operands, where there is room for them

pub copy-not : (n : ℕ) (values : List Value) (place : ℕ) (s : FramesView) → can_hold (values ++ top_operands s.frames) s.frames ≡ false
    → (Bad ≡ effect_of (inserts n values place) s) × (s ≡ after (inserts n values place) s)
copy-not n values place s h =
    let held = inserted-holds n values (top_operands s.frames) s.frames ∙ h in
    (rw held refl, rw held refl)

pub copy-done : (n : ℕ) (values : List Value) (place : ℕ) (s : FramesView) → can_hold (values ++ top_operands s.frames) s.frames ≡ true
    → (Next ≡ effect_of (inserts n values place) s)
    × (with_frames (with_place place (with_operands (values_inserted n values (top_operands s.frames)) s.frames)) s ≡ after (inserts n values place) s)
copy-done n values place s h =
    let held = inserted-holds n values (top_operands s.frames) s.frames ∙ h in
    (rw held refl, rw held (ap (λ fs. with_frames fs s) (with-top (values_inserted n values (top_operands s.frames)) place s.frames)))

pub ruleset copied = (
  pushed-popped,
  pushed-operands,
  pushed-holds,
  with_operand-is,
  without-is,
  with-itself,
  with-twice,
  with-holds,
  with-operands,
  with-top,
  can_push-is,
  inserted-holds,
)
