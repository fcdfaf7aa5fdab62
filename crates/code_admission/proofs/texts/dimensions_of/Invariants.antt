-- how many `[` are still to come
use Rattle.std.proofs.Common.{◌≡◌, ◌+◌, ◌-◌, drop, length}
use Rattle.code_admission.specs.Texts.{dimensions_of}
use Rattle.code_admission.proofs.texts.dimensions_of.Given as goal

abbrev pub invariant-loop-count : goal.invariant-loop-count
invariant-loop-count l = l.count + dimensions_of (drop l.count l.units) ≡ dimensions_of l.units

abbrev pub decreases-loop-count : goal.decreases-loop-count
decreases-loop-count l = length l.units - l.count
