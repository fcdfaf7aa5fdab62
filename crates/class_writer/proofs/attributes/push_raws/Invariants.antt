use Rattle.std.proofs.Common.{◌≡◌, ◌++◌, length, take}
use Rattle.std.specs.List.{flat_map}
use Rattle.const_pool.specs.Pool.{u2}
use Rattle.const_pool.specs.ClassFile.{raw_bytes}
use Rattle.class_writer.proofs.attributes.push_raws.Given as goal

abbrev pub invariant-loop-raw : goal.invariant-loop-raw
invariant-loop-raw l = l.out.items ≡ l.fn.out.items ++ (u2 (length l.raws) ++ flat_map raw_bytes (take l.raw-index l.raws))
