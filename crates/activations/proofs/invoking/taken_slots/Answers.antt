use Rattle.std.proofs.Common.{sym, ◌∙◌, ap, take, add-one, arith}
use Rattle.frame_stack.specs.FrameLists.{top_operands}
use Rattle.frame_stack.specs.Widths.{height_of}
use Rattle.activations.proofs.Arguments.{height-next, within-next}
use Rattle.activations.proofs.invoking.taken_slots.Goals as goal

pub loop-i-preserved : goal.loop-i-preserved
loop-i-preserved c =
    let ops = top_operands c.args.frames.now.frames in
    let found = sym c.in_ok-peek.ensures.found in
    let more = height-next ops c.loop-i.i c.in_ok-peek.field-0 found in
    let within = within-next ops c.loop-i.i c.in_ok-peek.field-0 found in
    record {
      slots = omega (arith, more, c.loop-i.invariant.slots, c.width.ensures.slots) ∙ ap (λ n. height_of (take n ops)) (sym (add-one c.loop-i.i));
      within = omega (arith, within);
      few = omega (arith, c.loop-i.invariant.few, c.width.ensures.most);
    }
