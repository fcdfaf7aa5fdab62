use Rattle.std.proofs.Common.{◌≡◌, ◌+◌, ◌-◌, ◌∙◌, ap, arith}
use Rattle.std.specs.Prelude.{slice_get}
use Rattle.frame_stack.specs.Rooms.{both_in, int_in}
use Rattle.frame_stack.proofs.SlotReads.{ap2, reference-and-int-read, no-reference-and-int}
use Rattle.frame_stack.proofs.slots.reference_and_int_in.Goals as goal

pub returns-then-count-low-lt2 : goal.returns-then-count-low-lt2
returns-then-count-low-lt2 c =
    no-reference-and-int c.args.low c.args.slots.now.items (omega (arith, c.len-count.ensures.items, c.if-count-low-lt2.true)) c.requires.operands

pub returns : goal.returns
returns c =
    let xs = c.args.slots.now.items in
    let k = c.len-count.result - 2 in
    let at : c.len-count.result - 1 ≡ k + 1 = omega (arith, c.if-count-low-lt2.false) in
    c.both.ensures ∙ (ap2 both_in c.reference_at.ensures (c.int_at.ensures ∙ ap (λ n. int_in (slice_get xs n)) at)
    ∙ reference-and-int-read c.args.low k xs (omega (arith, c.if-count-low-lt2.false)) (omega (arith, c.len-count.ensures.items, c.if-count-low-lt2.false)) c.requires.operands)
