-- what is left of the form decides
use Rattle.std.proofs.Common.{◌≡◌, drop}
use Rattle.frame_stack.specs.FrameLists.{top_operands}
use Rattle.jvm_model.specs.Basis.Values.{has_form}
use Rattle.jvm_basic.proofs.stack.fits.Given as goal

abbrev pub invariant-loop-index : goal.invariant-loop-index
invariant-loop-index l =
    has_form (drop l.index l.longs) (drop l.index (top_operands l.frames.frames)) ≡ has_form l.longs (top_operands l.frames.frames)
