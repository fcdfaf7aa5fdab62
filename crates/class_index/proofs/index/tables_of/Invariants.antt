-- the tables so far, and those of the classes that are left
use Rattle.std.proofs.Common.{◌≡◌, ◌++◌, drop, map}
use Rattle.class_index.specs.Buckets.{table_of}
use Rattle.class_index.proofs.index.tables_of.Given as goal

abbrev pub invariant-loop-class : goal.invariant-loop-class
invariant-loop-class l = l.tables ++ map table_of (drop l.class-index l.classes) ≡ map table_of l.classes
