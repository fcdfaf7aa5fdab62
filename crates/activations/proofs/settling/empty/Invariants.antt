-- the operands alone have changed, and are fewer
use Rattle.std.proofs.Common.{◌≡◌, length}
use Rattle.frame_stack.specs.FrameLists.{top_operands}
use Rattle.activations.specs.Settling.{frame_emptied}
use Rattle.activations.proofs.settling.empty.Given as goal

abbrev pub invariant-loop : goal.invariant-loop
invariant-loop l = frame_emptied l.frames.frames ≡ frame_emptied l.fn.frames.frames

abbrev pub decreases-loop : goal.decreases-loop
decreases-loop l = length (top_operands l.frames.frames)
