use Rattle.std.proofs.Common.{◌≡◌, ◌≤◌, ◌-◌, length}
use Rattle.std.specs.Prelude.{drop}
use Rattle.native_effects.specs.Inputs.Places.{pair_from}
use Rattle.native_effects.proofs.inputs.places.place_of_pair.Given as goal

abbrev pub invariant-loop-place : goal.invariant-loop-place
invariant-loop-place l = (l.place ≤ length l.units) × (pair_from l.fn.first l.fn.second l.place (drop l.place l.units) ≡ pair_from l.fn.first l.fn.second 0 l.units)

abbrev pub decreases-loop-place : goal.decreases-loop-place
decreases-loop-place l = length l.units - l.place
