-- what is left of the frames decides
use Rattle.std.proofs.Common.{◌≡◌, drop}
use Rattle.code_admission.specs.Checks.{first_in}
use Rattle.code_admission.specs.FloatingFrames.{floating_frame}
use Rattle.code_admission.proofs.floating_frames.first_floating.Given as goal

abbrev pub invariant-loop-frame : goal.invariant-loop-frame
invariant-loop-frame l = first_in floating_frame (drop l.frame-index l.frames) ≡ first_in floating_frame l.frames
