-- A frame that goes on, unless its operands were too deep, and operands that are taken off.
use Rattle.std.proofs.Common.{◌≡◌, ℕ, zero, suc, ◌+◌, ◌≤◌, Bool, true, false, List, [], ◌∷◌, length, drop, refl, ap, ◌∙◌, arith}
use Rattle.std.specs.Prelude.{Some, if◌then◌else◌}
use Rattle.std.proofs.lemmas.List.{drop-drop}
use Rattle.std.proofs.lemmas.Bool.{le-leb}
use Rattle.heap_objects.specs.declared.Value.{Value}
use Rattle.heap_objects.specs.declared.Value.TheVariants.{Int, Long, Ref, Addr}
use Rattle.frame_stack.specs.FrameLists.{AreSound, FramesView, PlacedFrame, top_operands, with_frames, without_arguments, without_operand}
use Rattle.frame_stack.specs.Widths.{height_of, width}
use Rattle.jvm_basic.specs.declared.effect.Effect.TheVariants.{Next, Bad}
use Rattle.jvm_basic.specs.Outcomes.{can_hold}
use Rattle.jvm_model.specs.Basis.Data.{Operands}
use Rattle.member_selection.specs.Going.{has_gone}
use Rattle.member_selection.specs.Outcomes.{HasOperands}
use Rattle.member_selection.specs.declared.outcome.Outcome.TheVariants.{Goes}

pub gone_if : (b : Bool) → has_gone (if b then Next else Bad) ≡ b
gone_if true = refl
gone_if false = refl

-- ---- operands that are taken off

less-operands : (k : ℕ) (fs : List PlacedFrame) → without_operand (without_arguments k fs) ≡ without_arguments (k + 1) fs
less-operands k [] = refl
less-operands k (f ∷ fs) = ap (λ o. record f { operands = o } ∷ fs) (drop-drop 1 k f.operands)

pub popped : (f old new : FramesView) (k : ℕ) → old ≡ with_frames (without_arguments k f.frames) f → new ≡ with_frames (without_operand old.frames) old
    → new ≡ with_frames (without_arguments (k + 1) f.frames) f
popped f old new k was is = is ∙ (ap (λ (x : FramesView). with_frames (without_operand x.frames) x) was ∙ ap (λ fs. with_frames fs f) (less-operands k f.frames))

-- ---- the room of operands

pub height-dropped : (n : ℕ) (o : Operands) → height_of (drop n o) ≤ height_of o
height-dropped zero o = omega arith
height-dropped (suc n) [] = omega arith
height-dropped (suc n) (v ∷ below) = let rest : height_of (drop n below) ≤ height_of below = height-dropped n below in omega arith

pub least-width : (v : Value) → 1 ≤ width v
least-width (Int n) = omega arith
least-width (Long n) = omega arith
least-width (Ref r) = omega arith
least-width (Addr t) = omega arith

most-width : (v : Value) → width v ≤ 2
most-width (Int n) = omega arith
most-width (Long n) = omega arith
most-width (Ref r) = omega arith
most-width (Addr t) = omega arith

-- two operands have room for any value
lower-with : (v : Value) (n : ℕ) (o : Operands) → 2 ≤ n → n ≤ length o → height_of (v ∷ drop n o) ≤ height_of o
lower-with v zero o least most = omega arith
lower-with v (suc zero) o least most = omega arith
lower-with v (suc (suc n)) [] least most = omega arith
lower-with v (suc (suc n)) (a ∷ []) least most = omega arith
lower-with v (suc (suc n)) (a ∷ b ∷ below) least most =
    let rest : height_of (drop n below) ≤ height_of below = height-dropped n below in
    omega (arith, rest, least-width a, least-width b, most-width v)

pub fits-in-two : (v : Value) (n : ℕ) (fs : List PlacedFrame) → AreSound fs → 2 ≤ n → n ≤ length (top_operands fs)
    → can_hold (v ∷ drop n (top_operands fs)) fs ≡ true
fits-in-two v n [] sound least most = absurd (let no : 2 ≤ n → n ≤ 0 → ⊥ = λ a b. omega arith in no least most)
fits-in-two v n (f ∷ fs) sound least most =
    le-leb (height_of (v ∷ drop n f.operands)) f.max_stack
    (let lower : height_of (v ∷ drop n f.operands) ≤ height_of f.operands = lower-with v n f.operands least most in
    let all : height_of f.operands ≤ f.max_stack = sound.0.operands in omega arith)

pub enough-of : (n : ℕ) (v : Value) (o : Operands) → HasOperands (Goes n (Some v)) o → 2 ≤ n → n ≤ length o
enough-of zero v o has least = omega arith
enough-of (suc zero) v o has least = omega arith
enough-of (suc (suc n)) v o has least = has
