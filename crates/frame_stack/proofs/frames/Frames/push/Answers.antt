use Rattle.std.proofs.Common.{sym, ap, ◌∙◌, arith}
use Rattle.frame_stack.specs.FrameLists.{FramesView, can_push}
use Rattle.frame_stack.proofs.Cutting.{length-below-limit}
use Rattle.frame_stack.proofs.OnTop.{can-push-top, cannot-push-top}
use Rattle.frame_stack.proofs.frames.Frames.push.Goals as goal

pub returns-then-limit-len-clause-answer : goal.returns-then-limit-len-clause-answer
returns-then-limit-len-clause-answer c =
    let f = c.self.inside in
    sym (ap (λ (s : FramesView). can_push c.args.value s.frames) (sym c.self.view_is)
    ∙ cannot-push-top f.top f.below.items f.slots.capacity f.slots.items c.args.value c.self.invariant.flat.frames
    (omega (arith, length-below-limit f.top f.below.items f.slots.capacity f.slots.items c.self.invariant.flat.frames, c.limit.ensures, c.len.ensures.items, c.width.ensures, c.if-limit-len.true)))

pub returns-clause-answer : goal.returns-clause-answer
returns-clause-answer c =
    let f = c.self.inside in
    sym (ap (λ (s : FramesView). can_push c.args.value s.frames) (sym c.self.view_is)
    ∙ can-push-top f.top f.below.items f.slots.capacity f.slots.items c.args.value c.self.invariant.flat.frames
    (omega (arith, length-below-limit f.top f.below.items f.slots.capacity f.slots.items c.self.invariant.flat.frames, c.limit.ensures, c.len.ensures.items, c.width.ensures, c.if-limit-len.false)))
