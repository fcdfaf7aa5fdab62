use Rattle.std.proofs.Common.{◌-◌}
use Rattle.code_model.proofs.Reading.Fronts.{IsFront}
use Rattle.code_model.proofs.decoding.decode.Given as goal

abbrev pub invariant-loop-at : goal.invariant-loop-at
invariant-loop-at l = IsFront l.bytes l.at l.instrs

abbrev pub decreases-loop-at : goal.decreases-loop-at
decreases-loop-at l = l.len - l.at
