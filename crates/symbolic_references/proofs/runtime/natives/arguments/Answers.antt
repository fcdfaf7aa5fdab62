use Rattle.std.proofs.Common.{◌≤◌, arith}
use Rattle.frame_stack.specs.FrameLists.{top_operands}
use Rattle.member_selection.specs.Targets.{data_in}
use Rattle.symbolic_references.proofs.NativeLemmas.{argument-taken}
use Rattle.symbolic_references.proofs.runtime.natives.arguments.Goals as goal

pub loop-left-preserved : goal.loop-left-preserved
loop-left-preserved c =
    let o = top_operands c.args.frames.now.frames in
    let most : c.loop-left.left ≤ c.args.count = c.loop-left.invariant.1 in (
      argument-taken o c.loop-left.left c.in-Some.value c.as_datum.result c.loop-left.args c.push.new.self (data_in c.args.count o)
          c.loop-left-test.true c.in-Some.ensures.found c.as_datum.ensures c.in_ok-push.ensures.items c.loop-left.invariant.0,
      omega (arith, most),
    )
