-- the counts so far, and those of the operands that are left
use Rattle.std.proofs.Common.{◌≡◌, ◌++◌, []}
use Rattle.std.specs.Option.{option_map}
use Rattle.frame_stack.specs.FrameLists.{top_operands}
use Rattle.jvm_model.specs.Instructions.CreationRules.{counts_from, counts_of}
use Rattle.symbolic_references.proofs.runtime.multi_arrays.counts_of.Given as goal

abbrev pub invariant-loop-left : goal.invariant-loop-left
invariant-loop-left l =
    option_map (λ rest. l.counts ++ rest) (counts_from l.left [] (top_operands l.frames.frames))
    ≡ counts_of l.fn.dimensions (top_operands l.frames.frames)

abbrev pub decreases-loop-left : goal.decreases-loop-left
decreases-loop-left l = l.left
