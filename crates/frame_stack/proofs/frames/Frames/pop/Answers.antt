use Rattle.std.proofs.Common.{◌≡◌, ◌-◌, reverse, drop, sym, ◌∙◌, arith, refl}
use Rattle.std.specs.Prelude.{Some, slice_get}
use Rattle.std.specs.Vec.{vec_capacity}
use Rattle.std.proofs.lemmas.List.{take_all}
use Rattle.frame_stack.specs.Cuts.{operands_of, top_floor}
use Rattle.frame_stack.proofs.OnTop.{IsPopped, is-popped}
use Rattle.frame_stack.proofs.frames.Frames.pop.Goals as goal

popped-now : (c : goal.After-truncate) → IsPopped c.self.inside.top c.self.inside.below.items (vec_capacity c.self.inside.below) c.self.inside.slots.items c.self.inside.slots.capacity c.self.inside.room (c.len-end.result - c.width.result)
popped-now c =
    let f = c.self.inside in
    let v = c.in_ok-value.value in
    let top : Some v ≡ slice_get (operands_of (reverse (drop (top_floor f.top) f.slots.items))) 0 =
    sym c.in_ok-value.was ∙ (c.top_value.ensures ∙ rw (c.floor.ensures, take_all c.len-end.result f.slots.items (omega (arith, c.len-end.ensures.items))) refl) in
    is-popped f.top f.below.items (vec_capacity f.below) f.slots.items f.slots.capacity f.room v (c.len-end.result - c.width.result) c.self.invariant.flat top
    (omega (arith, c.len-end.ensures.items, c.width.ensures))

pub invariant_of-self : goal.invariant_of-self
invariant_of-self c = rw (c.truncate.ensures.items, c.truncate.ensures.capacity) (record { flat = (popped-now c).flat; counted = c.self.invariant.counted })

pub returns-clause-frames : goal.returns-clause-frames
returns-clause-frames c = rw (← c.self.view_is, c.truncate.ensures.items) (popped-now c).seen
