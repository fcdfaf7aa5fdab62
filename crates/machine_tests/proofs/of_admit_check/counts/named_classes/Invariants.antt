-- the classes so far
use Rattle.std.specs.List.{AllByRecursion}
use Rattle.const_pool.specs.ClassFile.{IsClassFile}
use Rattle.machine_tests.proofs.of_admit_check.counts.named_classes.Given as goal

abbrev pub invariant-loop-number : goal.invariant-loop-number
invariant-loop-number l = AllByRecursion IsClassFile l.classes
