use Rattle.std.proofs.Common.{◌≡◌, ◌+◌, Some, None, slice_get, ap, ◌∙◌, arith}
use Rattle.context_tree.specs.NodeTables.{entries_of, numbers_in}
use Rattle.context_tree.proofs.Sums.Totals.{is_child_number}
use Rattle.context_tree.proofs.Sums.TotalLoop.{sum_more, sum_fits, place_within, sum_whole}
use Rattle.context_tree.proofs.table.NodeTable.+total.Goals as goal

pub total-sum-requires : goal.total-sum-requires
total-sum-requires t c =
    let h : slice_get (numbers_in (entries_of (Some c.args.node) c.args.self.now)) c.loop-child.place ≡ Some c.in-Some.child = cc in
    let child = is_child_number c.args.self.now c.requires.tree (Some c.args.node) c.loop-child.place c.in-Some.child h in
    (omega (arith, child.behind, child.within, c.decreases), (child.within, c.requires.tree))

pub overflow_add-sum : goal.overflow_add-sum
overflow_add-sum t c =
    let h : slice_get (numbers_in (entries_of (Some c.args.node) c.args.self.now)) c.loop-child.place ≡ Some c.in-Some.child = cc in
    omega (arith, sum_fits c.args.self.now c.requires.tree c.args.node c.loop-child.sum c.loop-child.place c.in-Some.child c.requires.within h c.loop-child.invariant.summed, c.total-sum.ensures)

pub overflow_add-place : goal.overflow_add-place
overflow_add-place t c =
    let h : slice_get (numbers_in (entries_of (Some c.args.node) c.args.self.now)) c.loop-child.place ≡ Some c.in-Some.child = cc in
    omega (arith, (place_within c.args.self.now c.requires.tree c.args.node c.loop-child.place c.in-Some.child h).1, c.len-count.ensures)

pub loop-child-smaller : goal.loop-child-smaller
loop-child-smaller t c =
    let h : slice_get (numbers_in (entries_of (Some c.args.node) c.args.self.now)) c.loop-child.place ≡ Some c.in-Some.child = cc in
    omega (arith, (place_within c.args.self.now c.requires.tree c.args.node c.loop-child.place c.in-Some.child h).0)

pub loop-child-preserved : goal.loop-child-preserved
loop-child-preserved t c =
    let h : slice_get (numbers_in (entries_of (Some c.args.node) c.args.self.now)) c.loop-child.place ≡ Some c.in-Some.child = cc in
    record {
      summed = ap (λ k. c.loop-child.sum + k) c.total-sum.ensures
          ∙ sum_more c.args.self.now.nodes (numbers_in (entries_of (Some c.args.node) c.args.self.now)) _ c.loop-child.sum c.loop-child.place c.in-Some.child h c.loop-child.invariant.summed;
      within = omega (arith, (place_within c.args.self.now c.requires.tree c.args.node c.loop-child.place c.in-Some.child h).0);
    }

pub returns : goal.returns
returns t c =
    let h : slice_get (numbers_in (entries_of (Some c.args.node) c.args.self.now)) c.loop-child.place ≡ None = cc in
    sum_whole c.args.self.now c.requires.tree c.args.node c.loop-child.sum c.loop-child.place c.requires.within h c.loop-child.invariant.summed
