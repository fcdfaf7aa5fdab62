use Rattle.std.proofs.Common.{◌≡◌, ◌-◌, length, arith}
use Rattle.std.specs.Vec.{vec_capacity}
use Rattle.frame_stack.proofs.Shrunk.{IsShrunk, is-shrunk}
use Rattle.frame_stack.proofs.frames.Frames.shrink.Goals as goal

pub overflow_sub-left : goal.overflow_sub-left
overflow_sub-left c =
    let f = c.self.inside in
    omega (arith, (is-shrunk c.args.count f.top f.below.items (vec_capacity f.below) f.slots.items f.slots.capacity f.room c.self.invariant.flat (rw (← c.self.view_is) at c.requires.narrow)).fits)

shrunk-now : (c : goal.After-truncate) → IsShrunk c.args.count c.self.inside.top c.self.inside.below.items (vec_capacity c.self.inside.below) c.self.inside.slots.items c.self.inside.slots.capacity c.self.inside.room
shrunk-now c =
    let f = c.self.inside in
    is-shrunk c.args.count f.top f.below.items (vec_capacity f.below) f.slots.items f.slots.capacity f.room c.self.invariant.flat (rw (← c.self.view_is) at c.requires.narrow)

at-is : (c : goal.After-truncate) → c.len.result - c.args.count ≡ length c.self.inside.slots.items - c.args.count
at-is c = omega arith

pub invariant_of-self : goal.invariant_of-self
invariant_of-self c = rw (c.truncate.ensures.items, c.truncate.ensures.capacity, at-is c) (record { flat = (shrunk-now c).flat; counted = c.self.invariant.counted })

pub returns : goal.returns
returns c = rw (← c.self.view_is, c.truncate.ensures.items, at-is c) (shrunk-now c).seen
