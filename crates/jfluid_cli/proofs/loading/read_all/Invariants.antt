-- the classes so far are those of the contents, and are class files
use Rattle.std.proofs.Common.{take}
use Rattle.std.specs.List.{AllByRecursion}
use Rattle.const_pool.specs.ClassFile.{IsClassFile}
use Rattle.jfluid_cli.specs.Contents.{SpellAlone}
use Rattle.jfluid_cli.proofs.loading.read_all.Given as goal

abbrev pub invariant-loop-at : goal.invariant-loop-at
invariant-loop-at l = record {
  read : SpellAlone (take l.at l.contents) l.classes;
  formed : AllByRecursion IsClassFile l.classes;
}
