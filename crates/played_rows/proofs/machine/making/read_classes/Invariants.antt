-- the classes so far are those of the lines so far, and the files' contents stay
use Rattle.std.proofs.Common.{◌≡◌, map, take}
use Rattle.std.specs.List.{AllByRecursion}
use Rattle.const_pool.specs.ClassFile.{IsClassFile}
use Rattle.played_rows.specs.Machine.Making.{AreClasses}
use Rattle.played_rows.proofs.machine.making.read_classes.Given as goal

abbrev pub invariant-loop-line : goal.invariant-loop-line
invariant-loop-line g l =
    AllByRecursion IsClassFile l.classes
    × (g.F.Files.contents l.files ≡ g.F.Files.contents l.fn.files)
    × AreClasses (g.F.Files.contents l.fn.files) (map (λ line. line.now) (take l.line-index l.lines)) l.classes
