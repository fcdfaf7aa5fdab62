use Rattle.profile_report.proofs.Texts.{two_spaces}
use Rattle.profile_report.proofs.tree_lines.push_indent.Goals as goal

pub loop-preserved : goal.loop-preserved
loop-preserved c = two_spaces _ _ _ c.loop.counter c.loop.invariant c.in_ok-extend_from_slice.ensures.items
