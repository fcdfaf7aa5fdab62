-- what is left of the members decides, behind those so far
use Rattle.std.proofs.Common.{◌≡◌, drop, take}
use Rattle.admit_check.specs.Shapes.{has_twin_behind, has_twins}
use Rattle.admit_check.proofs.twins.has_twins_among_few.Given as goal

abbrev pub invariant-loop-position : goal.invariant-loop-position
invariant-loop-position l =
    has_twin_behind l.pool (take l.position l.members) (drop l.position l.members) ≡ has_twins l.pool l.members
