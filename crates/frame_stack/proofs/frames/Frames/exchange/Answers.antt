use Rattle.std.proofs.Common.{◌≡◌, ◌-◌, ◌++◌, ◌∷◌, [], length, take, arith, ◌∙◌}
use Rattle.std.specs.Prelude.{Some}
use Rattle.std.specs.Vec.{vec_capacity}
use Rattle.std.proofs.lemmas.List.{take_more_set}
use Rattle.frame_stack.proofs.Shrunk.{IsExchanged, is-exchanged}
use Rattle.frame_stack.proofs.frames.Frames.exchange.Goals as goal

pub overflow_sub-at : goal.overflow_sub-at
overflow_sub-at c =
    let f = c.self.inside in
    omega (arith, (is-exchanged c.args.count c.args.value f.top f.below.items (vec_capacity f.below) f.slots.items f.slots.capacity f.room c.self.invariant.flat (rw (← c.self.view_is) at c.requires.narrow) c.requires.some c.requires.one).fits)

pub set-requires : goal.set-requires
set-requires c =
    let f = c.self.inside in
    omega (arith, c.requires.some, (is-exchanged c.args.count c.args.value f.top f.below.items (vec_capacity f.below) f.slots.items f.slots.capacity f.room c.self.invariant.flat (rw (← c.self.view_is) at c.requires.narrow) c.requires.some c.requires.one).fits)

exchanged-now : (c : goal.After-truncate) → IsExchanged c.args.count c.args.value c.self.inside.top c.self.inside.below.items (vec_capacity c.self.inside.below) c.self.inside.slots.items c.self.inside.slots.capacity c.self.inside.room
exchanged-now c =
    let f = c.self.inside in
    is-exchanged c.args.count c.args.value f.top f.below.items (vec_capacity f.below) f.slots.items f.slots.capacity f.room c.self.invariant.flat (rw (← c.self.view_is) at c.requires.narrow) c.requires.some c.requires.one

written : (c : goal.After-truncate) → c.truncate.new.self.items ≡ take (length c.self.inside.slots.items - c.args.count) c.self.inside.slots.items ++ Some c.args.value ∷ []
written c =
    let f = c.self.inside in
    let at : c.len.result - c.args.count ≡ length f.slots.items - c.args.count = omega arith in
    c.truncate.ensures.items ∙ rw (c.set.ensures.items, at) (take_more_set f.slots.items (length f.slots.items - c.args.count) (Some c.args.value) (omega (arith, c.requires.some, (exchanged-now c).fits)))

pub invariant_of-self : goal.invariant_of-self
invariant_of-self c = rw (written c, c.truncate.ensures.capacity, c.set.ensures.capacity) (record { flat = (exchanged-now c).flat; counted = c.self.invariant.counted })

pub returns : goal.returns
returns c = rw (← c.self.view_is, written c) (exchanged-now c).seen
