use Rattle.member_selection.proofs.Going.{popped}
use Rattle.member_selection.proofs.applying.replace_many.Goals as goal

pub loop-preserved : goal.loop-preserved
loop-preserved c = popped c.args.frames.now c.loop.frames c.pop.new.self c.loop.counter c.loop.invariant c.pop.ensures.frames
