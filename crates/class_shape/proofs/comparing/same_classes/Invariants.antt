use Rattle.std.proofs.Common.{◌≡◌, map, drop}
use Rattle.const_pool.specs.References.{named_class}
use Rattle.class_shape.specs.Comparing.{same_names}
use Rattle.class_shape.proofs.comparing.same_classes.Given as goal

abbrev pub invariant-loop-at : goal.invariant-loop-at
invariant-loop-at l =
    same_names (map (named_class l.pool) (drop l.at l.indices)) (map (named_class l.other) (drop l.at l.other_indices))
    ≡ same_names (map (named_class l.pool) l.indices) (map (named_class l.other) l.other_indices)
