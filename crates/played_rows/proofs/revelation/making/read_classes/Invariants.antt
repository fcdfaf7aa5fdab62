-- the classes so far are those of the files so far
use Rattle.std.proofs.Common.{map, take}
use Rattle.std.specs.List.{AllByRecursion, AllZip}
use Rattle.const_pool.specs.ClassFile.{IsClassFile}
use Rattle.class_reader.specs.Files.{IsFile}
use Rattle.played_rows.proofs.revelation.making.read_classes.Given as goal

abbrev pub invariant-loop-bytes : goal.invariant-loop-bytes
invariant-loop-bytes l = AllByRecursion IsClassFile l.classes × AllZip IsFile (map (λ f. f.items) (take l.bytes-index l.files)) l.classes
