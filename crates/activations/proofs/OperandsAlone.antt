-- An object in the place of a frame's operands: where there is no room for it, there were no operands.
use Rattle.std.proofs.Common.{◌≡◌, ◌≤◌, ◌<◌, ℕ, Bool, true, false, List, [], ◌∷◌, refl, sym, ap, ◌∙◌, arith, if◌then◌else◌, nat_le}
use Rattle.std.proofs.lemmas.Bool.{leb-false}
use Rattle.heap_objects.specs.declared.Value.{Value}
use Rattle.heap_objects.specs.declared.Value.TheVariants.{Int, Long, Ref, Addr}
use Rattle.heap_objects.specs.Changes.{changed_if}
use Rattle.frame_stack.specs.Widths.{height_of, width}
use Rattle.frame_stack.specs.FrameLists.{PlacedFrame, FramesView, AreSound, can_push, with_operand, with_pushed}
use Rattle.activations.specs.Settling.{frame_emptied, with_alone}

no_operands : (o : List Value) (n : ℕ) → height_of o ≤ n → n < 1 → o ≡ []
no_operands [] n within small = refl
no_operands (v ∷ o) n within small = absurd (let wide = by v in omega arith) where
  by : (u : Value) → 1 ≤ width u
  by (Int i) = omega arith
  by (Long i) = omega arith
  by (Ref r) = omega arith
  by (Addr a) = omega arith

abbrev put_if : Bool → Value → List PlacedFrame → List PlacedFrame
put_if b v fs = if b then with_operand v fs else fs

pushed_frames : (b : Bool) (v : Value) (s : FramesView) → (changed_if b (with_pushed v) s).frames ≡ put_if b v s.frames
pushed_frames true v s = refl
pushed_frames false v s = refl

put_empty : (r : ℕ) (fs : List PlacedFrame) → AreSound fs → put_if (can_push (Ref r) (frame_emptied fs)) (Ref r) (frame_emptied fs) ≡ with_alone r fs
put_empty r [] sound = refl
put_empty r (f ∷ fs) sound = by (nat_le 1 f.max_stack) refl where
  by : (b : Bool) → nat_le 1 f.max_stack ≡ b
      → put_if b (Ref r) (record f { operands = [] } ∷ fs) ≡ (if b then record f { operands = Ref r ∷ [] } ∷ fs else f ∷ fs)
  by true e = refl
  by false e =
      ap (λ o. let all : List PlacedFrame = record f { operands = o } ∷ fs in all)
      (sym (no_operands f.operands f.max_stack sound.0.operands (leb-false 1 f.max_stack e)))

pub put_alone_frames : (r : ℕ) (fs : List PlacedFrame) (empty new : FramesView) (b : Bool) → AreSound fs → empty.frames ≡ frame_emptied fs
    → b ≡ can_push (Ref r) empty.frames → new ≡ changed_if b (with_pushed (Ref r)) empty → new.frames ≡ with_alone r fs
put_alone_frames r fs empty new b sound none answer put =
    ap (λ (s : FramesView). s.frames) put ∙ pushed_frames b (Ref r) empty ∙ ap (λ x. put_if x (Ref r) empty.frames) answer
    ∙ ap (λ os. put_if (can_push (Ref r) os) (Ref r) os) none ∙ put_empty r fs sound
