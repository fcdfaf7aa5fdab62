use Rattle.std.proofs.Common.{ℕ, List, sym, subst, ◌+◌, ◌≤◌, length, arith}
use Rattle.std.specs.Vec.{vec_capacity}
use Rattle.frame_stack.specs.Cuts.{top_limit}
use Rattle.frame_stack.specs.Pins.{AreCounted, HasCounter}
use Rattle.frame_stack.proofs.Cutting.{flat-roomier, flat-reserved, length-below-limit}
use Rattle.frame_stack.proofs.Counting.{counted-ready}
use Rattle.frame_stack.proofs.frames.Frames.reserve.Goals as goal

pub invariant_of-self-in_err-reserve-2 : goal.invariant_of-self-in_err-reserve-2
invariant_of-self-in_err-reserve-2 c =
    let f = c.self.inside in
    rw (c.reserve.ensures.items, c.reserve-2.ensures.items)
    (record {
      counted = c.self.invariant.counted;
      flat = flat-roomier f.top f.below.items (vec_capacity f.below) (vec_capacity c.reserve-2.new.self) f.slots.items f.slots.capacity c.reserve.new.self.capacity f.room
          c.self.invariant.flat c.reserve-2.ensures.capacity c.reserve.ensures.capacity;
    })

pub invariant_of-self-2 : goal.invariant_of-self-2
invariant_of-self-2 c =
    let f = c.self.inside in
    let long : length f.slots.items ≤ top_limit f.top = length-below-limit f.top f.below.items f.slots.capacity f.slots.items c.self.invariant.flat.frames in
    rw (c.reserve.ensures.items, c.reserve-2.ensures.items)
    (record {
      counted = counted-ready f.counters.items _ f.top f.below.items f.room (c.args.max_locals + c.args.max_stack) c.self.invariant.counted c.make_counter.ensures.counts (subst (HasCounter _) c.get.ensures c.in_ok-make_counter.ensures.ok);
      flat = flat-reserved f.top f.below.items (vec_capacity f.below) (vec_capacity c.reserve-2.new.self) f.slots.items f.slots.capacity c.reserve.new.self.capacity f.room
          (c.args.max_locals + c.args.max_stack)
          c.self.invariant.flat c.reserve-2.ensures.capacity c.reserve.ensures.capacity
          (omega (arith, c.in_ok-reserve.ensures.ok, c.in-Some.ensures))
          (omega (arith, c.in_ok-reserve-2.ensures.ok));
    })

pub invariant_of-self-in_err-make_counter : goal.invariant_of-self-in_err-make_counter
invariant_of-self-in_err-make_counter c =
    let f = c.self.inside in
    rw (c.reserve.ensures.items, c.reserve-2.ensures.items)
    (record {
      counted = subst (λ (counters : List ℕ). AreCounted counters f.top f.below.items f.room) (sym c.in_err-make_counter.ensures.err) c.self.invariant.counted;
      flat = flat-roomier f.top f.below.items (vec_capacity f.below) (vec_capacity c.reserve-2.new.self) f.slots.items f.slots.capacity c.reserve.new.self.capacity f.room
          c.self.invariant.flat c.reserve-2.ensures.capacity c.reserve.ensures.capacity;
    })

pub invariant_of-self : goal.invariant_of-self
invariant_of-self c =
    let f = c.self.inside in
    rw c.reserve.ensures.items
    (record {
      counted = c.self.invariant.counted;
      flat = flat-roomier f.top f.below.items (vec_capacity f.below) (vec_capacity f.below) f.slots.items f.slots.capacity c.reserve.new.self.capacity f.room
          c.self.invariant.flat (omega arith) c.reserve.ensures.capacity;
    })
