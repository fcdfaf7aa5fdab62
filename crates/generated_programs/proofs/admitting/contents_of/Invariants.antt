-- The bytes so far are those of the classes so far.
use Rattle.std.proofs.Common.{◌≡◌, map, take}
use Rattle.const_pool.specs.ClassFile.{class_bytes}
use Rattle.generated_programs.proofs.admitting.contents_of.Given as goal

abbrev pub invariant-loop-class : goal.invariant-loop-class
invariant-loop-class l = l.contents ≡ map class_bytes (take l.class-index l.classes)
