-- The hash of the rest behind the hash so far is the hash of all.
use Rattle.std.proofs.Common.{◌≡◌, ◌<◌, fold, drop}
use Rattle.base_classes.specs.Hashes.{hash_step}
use Rattle.base_classes.proofs.names.hash_of.Given as goal

abbrev pub invariant-loop-unit : goal.invariant-loop-unit
invariant-loop-unit l = (l.hash < 512) × (fold hash_step l.hash (drop l.unit-index l.units) ≡ fold hash_step 0 l.units)
