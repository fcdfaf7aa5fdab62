use Rattle.std.proofs.Common.{◌≡◌, map, drop}
use Rattle.class_shape.specs.ClassShapes.{shape_in}
use Rattle.class_shape.specs.Comparing.{first_other}
use Rattle.class_shape.proofs.comparing.first_other.Given as goal

abbrev pub invariant-loop-at : goal.invariant-loop-at
invariant-loop-at l =
    first_other l.at (map (shape_in l.pool) (drop l.at l.members)) (map (shape_in l.other) (drop l.at l.images))
    ≡ first_other 0 (map (shape_in l.pool) l.members) (map (shape_in l.other) l.images)
