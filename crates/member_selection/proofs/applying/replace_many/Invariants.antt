-- so many operands were taken off
use Rattle.std.proofs.Common.{◌≡◌}
use Rattle.frame_stack.specs.FrameLists.{with_frames, without_arguments}
use Rattle.member_selection.proofs.applying.replace_many.Given as goal

abbrev pub invariant-loop : goal.invariant-loop
invariant-loop l = l.frames ≡ with_frames (without_arguments l.counter l.fn.frames.frames) l.fn.frames
