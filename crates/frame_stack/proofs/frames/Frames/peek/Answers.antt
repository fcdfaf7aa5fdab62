use Rattle.std.proofs.Common.{sym, ◌∙◌, refl}
use Rattle.frame_stack.specs.Cuts.{entries_in}
use Rattle.frame_stack.proofs.Cutting.{are-sound}
use Rattle.frame_stack.proofs.OnTop.{passed-top, peek-top}
use Rattle.frame_stack.proofs.frames.Frames.peek.Goals as goal

pub returns-in_err-end-clause-sound : goal.returns-in_err-end-clause-sound
returns-in_err-end-clause-sound c =
    let f = c.self.inside in
    rw (← c.self.view_is) (are-sound f.slots.capacity (entries_in f.top f.below.items) f.slots.items c.self.invariant.flat.frames)

pub top_value-requires-clause-above : goal.top_value-requires-clause-above
top_value-requires-clause-above c =
    let f = c.self.inside in
    rw c.floor-floor.ensures (passed-top f.top f.below.items f.slots.capacity f.slots.items c.in_ok-end.end c.args.below c.self.invariant.flat.frames
    (sym c.in_ok-end.was ∙ (c.end_below.ensures ∙ rw c.floor-floor.ensures refl))).above

pub top_value-requires-clause-operands : goal.top_value-requires-clause-operands
top_value-requires-clause-operands c =
    let f = c.self.inside in
    rw c.floor-floor.ensures (passed-top f.top f.below.items f.slots.capacity f.slots.items c.in_ok-end.end c.args.below c.self.invariant.flat.frames
    (sym c.in_ok-end.was ∙ (c.end_below.ensures ∙ rw c.floor-floor.ensures refl))).are

pub returns-clause-found : goal.returns-clause-found
returns-clause-found c =
    let f = c.self.inside in
    c.top_value.ensures ∙ rw (c.floor-floor.ensures, ← c.self.view_is)
    (peek-top f.top f.below.items f.slots.capacity f.slots.items c.in_ok-end.end c.args.below c.self.invariant.flat.frames
    (sym c.in_ok-end.was ∙ (c.end_below.ensures ∙ rw c.floor-floor.ensures refl)))

pub returns-clause-sound : goal.returns-clause-sound
returns-clause-sound c =
    let f = c.self.inside in
    rw (← c.self.view_is) (are-sound f.slots.capacity (entries_in f.top f.below.items) f.slots.items c.self.invariant.flat.frames)
