-- what is left of the methods decides
use Rattle.std.proofs.Common.{◌≡◌, drop}
use Rattle.code_admission.specs.Checks.{first_from}
use Rattle.code_admission.specs.FloatingFrames.{floating_frames_of}
use Rattle.code_admission.proofs.floating_frames.frame_fault.Given as goal

abbrev pub invariant-loop-at : goal.invariant-loop-at
invariant-loop-at l =
    first_from (floating_frames_of l.number l.pool) l.at (drop l.at l.methods) ≡ first_from (floating_frames_of l.number l.pool) 0 l.methods
