use Rattle.std.proofs.Common.{◌≡◌, length, take}
use Rattle.std.specs.List.{flat_map}
use Rattle.const_pool.specs.ClassFile.{raw_bytes}
use Rattle.class_writer.proofs.room.raws_len.Given as goal

abbrev pub invariant-loop-raw : goal.invariant-loop-raw
invariant-loop-raw l = l.len ≡ length (flat_map raw_bytes (take l.raw-index l.raws))
