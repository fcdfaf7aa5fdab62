use Rattle.profile_report.proofs.Listed.{whole_tree}
use Rattle.profile_report.proofs.tree_lines.push_tree.Goals as goal

pub returns : goal.returns
returns c = whole_tree c.args.program.now c.args.tree.now.contexts _ _ _ c.in_ok-extend_from_slice.ensures.items c.in_ok-push_below.ensures
