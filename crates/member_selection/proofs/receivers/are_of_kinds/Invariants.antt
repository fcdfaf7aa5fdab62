-- what is left of both decides, and once one was found there are as many operands as parameters
use Rattle.std.proofs.Common.{◌≡◌, ◌≤◌, ◌<◌, drop, length, take}
use Rattle.std.specs.Prelude.{is_some, reverse}
use Rattle.frame_stack.specs.FrameLists.{top_operands}
use Rattle.jvm_model.specs.Basis.Values.{arguments, data_of}
use Rattle.member_selection.proofs.receivers.are_of_kinds.Given as goal

abbrev pub invariant-loop-i : goal.invariant-loop-i
invariant-loop-i l =
    (is_some (data_of (drop l.i l.params) (drop l.i (reverse (take (length l.params) (top_operands l.frames.frames))))) ≡ is_some (arguments l.params (top_operands l.frames.frames)))
    × (0 < l.i → length l.params ≤ length (top_operands l.frames.frames))
