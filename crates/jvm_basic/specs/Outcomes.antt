-- What an instruction asks for within its frame, and what becomes of the frame (JVM Specification 2.5.1, 2.6, 4.9.2).
use Rattle.std.specs.Prelude.{ℕ, Bool, false, List, [], ◌∷◌, nat_le, if◌then◌else◌}
use Rattle.frame_stack.specs.Widths.{height_of}
use Rattle.frame_stack.specs.FrameLists.{PlacedFrame, FramesView, with_frames, top_operands}
use Rattle.jvm_model.specs.Basis.Data.{Locals, Operands}
use Rattle.jvm_basic.specs.declared.effect.Effect.{Effect}
use Rattle.jvm_basic.specs.declared.effect.Effect.TheVariants.{Next, Throws, Bad, Other}

pub data Outcome : Type 0 where
  -- the frame goes on with these locals and operands, at this place
  GoesOn : Locals → Operands → ℕ → Outcome
  -- an exception of the built-in class at this position is thrown
  Raises : ℕ → Outcome
  -- the frame does not have what the instruction needs
  Breaks : Outcome
  -- the instruction is none of those that a frame does by itself
  Leaves : Outcome

-- ---- what becomes of the top frame

abbrev pub top_locals : List PlacedFrame → Locals
top_locals [] = []
top_locals (f ∷ fs) = f.locals

-- Behind each instruction the operands are within max_stack, a long counting two.
abbrev pub can_hold : Operands → List PlacedFrame → Bool
can_hold o [] = false
can_hold o (f ∷ fs) = nat_le (height_of o) f.max_stack

abbrev pub with_top : Locals → Operands → ℕ → List PlacedFrame → List PlacedFrame
with_top l o place [] = []
with_top l o place (f ∷ fs) = record f { place = place; locals = l; operands = o } ∷ fs

abbrev pub effect_in : Outcome → List PlacedFrame → Effect
effect_in (GoesOn l o place) fs = if can_hold o fs then Next else Bad
effect_in (Raises class) fs = Throws class
effect_in Breaks fs = Bad
effect_in Leaves fs = Other

-- unless the frame goes on, nothing is changed
abbrev pub frames_in : Outcome → List PlacedFrame → List PlacedFrame
frames_in (GoesOn l o place) fs = if can_hold o fs then with_top l o place fs else fs
frames_in (Raises class) fs = fs
frames_in Breaks fs = fs
frames_in Leaves fs = fs

-- ---- a rule sees the locals and operands of the top frame

abbrev pub Rule : Type 0
Rule = Locals → Operands → Outcome

abbrev pub outcome_asked : Rule → List PlacedFrame → Outcome
outcome_asked rule fs = rule (top_locals fs) (top_operands fs)

abbrev pub effect_of : Rule → FramesView → Effect
effect_of rule s = effect_in (outcome_asked rule s.frames) s.frames

abbrev pub after : Rule → FramesView → FramesView
after rule s = with_frames (frames_in (outcome_asked rule s.frames) s.frames) s
