use Rattle.std.proofs.Common.{length, sym, ap, ◌∙◌, arith}
use Rattle.std.proofs.lemmas.List.{length-reverse}
use Rattle.frame_stack.specs.FrameLists.{FramesView}
use Rattle.frame_stack.specs.Cuts.{entries_in}
use Rattle.frame_stack.proofs.Cutting.{length-frames_of}
use Rattle.frame_stack.proofs.frames.Frames.depth.Goals as goal

pub returns-in-Some : goal.returns-in-Some
returns-in-Some c =
    let f = c.self.inside in
    omega (
      arith,
      ap (λ (s : FramesView). length s.frames) c.self.view_is,
      length-frames_of (entries_in f.top f.below.items) f.slots.items,
      ap (λ t. length (entries_in t f.below.items)) (sym c.get.ensures ∙ c.in-Some.is),
      length-reverse f.below.items,
    )
