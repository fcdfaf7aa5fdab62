-- the locals that the operands so far take, two each at most
use Rattle.std.proofs.Common.{◌≡◌, ◌≤◌, ◌*◌, length, take}
use Rattle.frame_stack.specs.FrameLists.{top_operands}
use Rattle.frame_stack.specs.Widths.{height_of}
use Rattle.activations.proofs.invoking.taken_slots.Given as goal

pub record IsTaken (l : goal.Live-loop-i) : Type 0 where
  pub slots : l.slots ≡ height_of (take l.i (top_operands l.frames.frames))
  pub within : l.i ≤ length (top_operands l.frames.frames)
  pub few : l.slots ≤ 2 * l.i

abbrev pub invariant-loop-i : goal.invariant-loop-i
invariant-loop-i l = IsTaken l
