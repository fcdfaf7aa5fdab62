-- the arguments so far, and those of the operands that are left
use Rattle.std.proofs.Common.{◌≡◌, ◌≤◌, ◌++◌}
use Rattle.frame_stack.specs.FrameLists.{top_operands}
use Rattle.member_selection.specs.Targets.{data_in}
use Rattle.symbolic_references.proofs.runtime.natives.arguments.Given as goal

abbrev pub invariant-loop-left : goal.invariant-loop-left
invariant-loop-left l =
    (l.args ++ data_in l.left (top_operands l.frames.frames) ≡ data_in l.fn.count (top_operands l.frames.frames))
    × (l.left ≤ l.fn.count)

abbrev pub decreases-loop-left : goal.decreases-loop-left
decreases-loop-left l = l.left
