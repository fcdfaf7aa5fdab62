-- no entry before this index is bad
use Rattle.std.proofs.Common.{◌≡◌, drop}
use Rattle.class_reader.specs.ClassFormat.{lowest_bad, lowest_bad_from}
use Rattle.class_reader.proofs.pool.lowest_bad_of.Given as goal

abbrev pub invariant-loop-index : goal.invariant-loop-index
invariant-loop-index l = lowest_bad_from l.pool l.index (drop l.index l.pool) ≡ lowest_bad l.pool
