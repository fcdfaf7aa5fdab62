use Rattle.frame_stack.proofs.Counting.{popped-counter}
use Rattle.frame_stack.proofs.frames.Frames.leave.Goals as goal

pub count_down-requires-clause-counter : goal.count_down-requires-clause-counter
count_down-requires-clause-counter c =
    let f = c.self.inside in
    popped-counter f.counters.items f.top f.below.items _ c.pop-caller.result f.room c.self.invariant.counted c.pop-caller.ensures.items
