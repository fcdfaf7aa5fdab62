-- what is left of the members decides, with the keys of those before
use Rattle.std.proofs.Common.{◌≡◌, drop, map}
use Rattle.admit_check.specs.Shapes.{has_twins}
use Rattle.admit_check.specs.Twins.{has_key_twice, member_key}
use Rattle.admit_check.proofs.twins.has_twins_among_many.Given as goal

abbrev pub invariant-loop-member : goal.invariant-loop-member
invariant-loop-member l =
    has_key_twice l.keys (map (member_key l.pool) (drop l.member-index l.members)) ≡ has_twins l.pool l.members
