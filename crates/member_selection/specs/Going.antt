-- How the frame goes on: with a value, if there is one, in place of so many operands (JVM Specification 2.6.2).
use Rattle.std.specs.Prelude.{ℕ, Bool, true, false, List, drop, Option, if◌then◌else◌}
use Rattle.heap_objects.specs.declared.Value.{Value}
use Rattle.frame_stack.specs.FrameLists.{FramesView, PlacedFrame, top_operands, with_frames}
use Rattle.jvm_basic.specs.declared.effect.Effect.{Effect}
use Rattle.jvm_basic.specs.declared.effect.Effect.TheVariants.{Next, Throws, Bad, Other}
use Rattle.jvm_basic.specs.Outcomes.{can_hold, top_locals, with_top}
use Rattle.jvm_model.specs.Basis.Data.{Operands}
use Rattle.jvm_model.specs.Basis.Values.{with_value}

abbrev pub has_gone : Effect → Bool
has_gone Next = true
has_gone (Throws class) = false
has_gone Bad = false
has_gone Other = false

abbrev pub left_with : ℕ → Option Value → List PlacedFrame → Operands
left_with count value fs = with_value value (drop count (top_operands fs))

abbrev pub holds : ℕ → Option Value → FramesView → Bool
holds count value f = can_hold (left_with count value f.frames) f.frames

abbrev pub frames_gone : ℕ → Option Value → ℕ → FramesView → FramesView
frames_gone count value next f =
    with_frames (if holds count value f then with_top (top_locals f.frames) (left_with count value f.frames) next f.frames else f.frames) f
