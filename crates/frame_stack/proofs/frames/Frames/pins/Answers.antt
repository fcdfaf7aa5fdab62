use Rattle.std.proofs.Common.{sym, ◌∙◌}
use Rattle.frame_stack.proofs.Counting.{pins-are}
use Rattle.frame_stack.proofs.frames.Frames.pins.Goals as goal

pub returns : goal.returns
returns c =
    let f = c.self.inside in
    c.count.ensures
    ∙ rw (← c.self.view_is, c.get.ensures, c.deref.ensures.value) (sym (pins-are c.args.version f.counters.items f.top f.below.items f.room f.slots.items c.self.invariant.counted c.self.invariant.flat.bottom))
