use Rattle.std.proofs.Common.{◌≡◌, ◌-◌, ap, sym, subst, ◌∙◌, arith, reverse, drop}
use Rattle.std.specs.Prelude.{Option, Some}
use Rattle.std.specs.Vec.{vec_capacity}
use Rattle.frame_stack.specs.declared.entry.Entry.{Entry}
use Rattle.frame_stack.specs.FrameLists.{FramesView, top_height}
use Rattle.frame_stack.specs.Widths.{height_of}
use Rattle.frame_stack.specs.Cuts.{IsFlat, view_of, operands_of, operand_slots, top_floor}
use Rattle.frame_stack.proofs.Cutting.{top-height-is}
use Rattle.frame_stack.proofs.frames.Frames.height.Goals as goal

pub returns : goal.returns
returns c =
    let f = c.self.inside in
    let e = c.in_ok-get.field-0 in
    let is : f.top ≡ Some e = sym c.get.ensures ∙ c.in_ok-get.was in
    let old : IsFlat (Some e) f.below.items (vec_capacity f.below) f.slots.items f.slots.capacity f.room =
    subst (λ (t : Option Entry). IsFlat t f.below.items (vec_capacity f.below) f.slots.items f.slots.capacity f.room) is c.self.invariant.flat in
    let at : c.len.result - c.floor.result ≡ height_of (operands_of (operand_slots e (drop e.base f.slots.items))) =
    omega (arith, top-height-is f.slots.capacity e (reverse f.below.items) f.slots.items old.frames, c.len.ensures.items, c.floor.ensures ∙ ap top_floor is) in
    ap Some at ∙ ap (λ (s : FramesView). top_height s.frames) (sym (ap (λ t. view_of t f.below.items f.slots.items f.room) is) ∙ c.self.view_is)
