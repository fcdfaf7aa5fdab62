use Rattle.std.proofs.Common.{arith, ◌≤◌}
use Rattle.frame_stack.specs.FrameLists.{top_operands}
use Rattle.member_selection.proofs.Going.{enough-of, fits-in-two}
use Rattle.member_selection.proofs.applying.replace_operands.Goals as goal

pub replace_many-requires : goal.replace_many-requires
replace_many-requires c =
    let least : 2 ≤ c.args.count = omega (arith, c.if-count-eq0.false, c.if-count-eq1.false) in
    fits-in-two c.args.value c.args.count c.args.frames.now.frames c.recall.ensures least
    (enough-of c.args.count c.args.value (top_operands c.args.frames.now.frames) c.requires least)
