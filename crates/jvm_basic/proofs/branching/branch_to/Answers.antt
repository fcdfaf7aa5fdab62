use Rattle.std.proofs.Common.{sym, ◌∙◌}
use Rattle.frame_stack.specs.FrameLists.{top_operands}
use Rattle.jvm_basic.proofs.TopReads.{test-narrow}
use Rattle.jvm_basic.proofs.branching.branch_to.Goals as goal

pub drop_narrow-requires-clause-narrow : goal.drop_narrow-requires-clause-narrow
drop_narrow-requires-clause-narrow c =
    rw c.tests.ensures (test-narrow c.args.test (top_operands c.args.frames.now.frames) c.in-Some.holds (sym c.in-Some.is ∙ c.holds.ensures.found))
