-- what is left of the attributes decides
use Rattle.std.proofs.Common.{◌≡◌, drop}
use Rattle.code_admission.specs.Checks.{first_in}
use Rattle.code_admission.specs.FloatingFrames.{floating_raw}
use Rattle.code_admission.proofs.floating_frames.floating_raws.Given as goal

abbrev pub invariant-loop-raw : goal.invariant-loop-raw
invariant-loop-raw l = first_in (floating_raw l.pool) (drop l.raw-index l.raws) ≡ first_in (floating_raw l.pool) l.raws
