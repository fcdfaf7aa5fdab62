use Rattle.std.proofs.Common.{◌+◌, ◌-◌, ◌<◌, length, refl, arith}
use Rattle.profile_report.specs.Nodes.{lines_from}
use Rattle.profile_report.proofs.Listed.{is_placed, one_more, all_done}
use Rattle.profile_report.proofs.tree_lines.+push_below.Goals as goal

pub overflow_add-place : goal.overflow_add-place
overflow_add-place t c =
    let placed = is_placed _ c.args.tree.now.contexts c.loop-child.place c.in-Some.child c.in-Some.ensures.child in
    omega (arith, placed.within, placed.counted, c.nodes-count.ensures.each)

pub loop-child-smaller : goal.loop-child-smaller
loop-child-smaller t c =
    let placed = is_placed _ c.args.tree.now.contexts c.loop-child.place c.in-Some.child c.in-Some.ensures.child in
    omega (arith, placed.within)

pub loop-child-preserved : goal.loop-child-preserved
loop-child-preserved t c =
    let contexts = c.args.tree.now.contexts in
    let levels = length contexts - (c.args.level + 1) in
    one_more (lines_from c.args.program.now contexts levels c.args.level) _ _ _ _ _ _ _ _ _
    c.in-Some.ensures.child c.loop-child.invariant c.in_ok-push_node.ensures c.in_ok-push_below.ensures refl

pub returns : goal.returns
returns t c =
    let deep : c.args.level < length c.args.tree.now.contexts = omega arith in
    all_done c.args.program.now c.args.tree.now.contexts c.args.level c.args.node _ _ _ deep c.in_default.ensures.child c.loop-child.invariant
