-- What the rest of the names make of what is made so far is what all make.
use Rattle.std.proofs.Common.{◌≡◌, [], map, drop}
use Rattle.base_classes.specs.Making.{interfaces_from}
use Rattle.base_classes.proofs.making.add_interfaces.Given as goal

abbrev pub invariant-loop-name : goal.invariant-loop-name
invariant-loop-name l =
    interfaces_from l.pool.items l.indices (map (λ name. name.now) (drop l.name-index l.names)) ≡ interfaces_from l.initial.pool.items [] (map (λ name. name.now) l.names)
