use Rattle.std.proofs.Common.{arith}
use Rattle.std.specs.Vec.{vec_capacity}
use Rattle.frame_stack.proofs.OnTop.{some-width}
use Rattle.frame_stack.proofs.LocalSlots.{IsWritten, is-written}
use Rattle.frame_stack.proofs.frames.Frames.set_local.Goals as goal

written-now : (c : goal.After-store) → IsWritten c.args.slot c.args.value c.self.inside.top c.self.inside.below.items (vec_capacity c.self.inside.below) c.self.inside.slots.items c.self.inside.slots.capacity c.self.inside.room
written-now c =
    let f = c.self.inside in
    is-written c.args.slot c.args.value f.top f.below.items (vec_capacity f.below) f.slots.items f.slots.capacity f.room c.self.invariant.flat
    (omega (arith, c.width.ensures, c.locals.ensures.count, c.if-slot-width.false)) (some-width c.args.value)

pub invariant_of-self : goal.invariant_of-self
invariant_of-self c = rw (c.store.ensures.items, c.store.ensures.capacity, c.base.ensures) (record { flat = (written-now c).flat; counted = c.self.invariant.counted })

pub returns-clause-frames : goal.returns-clause-frames
returns-clause-frames c = rw (← c.self.view_is, c.store.ensures.items, c.base.ensures) (written-now c).seen
