use Rattle.std.proofs.Common.{sym, ap, ◌∙◌, arith}
use Rattle.frame_stack.specs.Cuts.{entries_in}
use Rattle.frame_stack.specs.Tops.{reference_of}
use Rattle.frame_stack.proofs.Cutting.{are-sound}
use Rattle.frame_stack.proofs.Floors.{has-floor}
use Rattle.frame_stack.proofs.frames.Frames.reference.Goals as goal

pub reference_in-requires-clause-within : goal.reference_in-requires-clause-within
reference_in-requires-clause-within c =
    let f = c.self.inside in
    omega (arith, c.floor.ensures, (has-floor f.top f.below.items f.slots.capacity f.slots.items c.self.invariant.flat.frames).within)

pub reference_in-requires-clause-operands : goal.reference_in-requires-clause-operands
reference_in-requires-clause-operands c =
    let f = c.self.inside in
    rw c.floor.ensures (has-floor f.top f.below.items f.slots.capacity f.slots.items c.self.invariant.flat.frames).are

pub returns-clause-found : goal.returns-clause-found
returns-clause-found c =
    let f = c.self.inside in
    c.reference_in.ensures
    ∙ rw (c.floor.ensures, ← c.self.view_is) (ap reference_of (sym (has-floor f.top f.below.items f.slots.capacity f.slots.items c.self.invariant.flat.frames).seen))

pub returns-clause-sound : goal.returns-clause-sound
returns-clause-sound c =
    let f = c.self.inside in
    rw (← c.self.view_is) (are-sound f.slots.capacity (entries_in f.top f.below.items) f.slots.items c.self.invariant.flat.frames)
