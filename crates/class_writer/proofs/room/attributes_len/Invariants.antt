use Rattle.std.proofs.Common.{◌≡◌, ◌++◌, length, take}
use Rattle.std.specs.List.{flat_map}
use Rattle.class_writer.specs.Room.{room}
use Rattle.const_pool.specs.Pool.{u2}
use Rattle.const_pool.specs.ClassFile.{attribute_bytes}
use Rattle.class_writer.proofs.room.attributes_len.Given as goal

abbrev pub invariant-loop-attribute : goal.invariant-loop-attribute
invariant-loop-attribute l = l.len ≡ room (u2 (length l.attributes) ++ flat_map attribute_bytes (take l.attribute-index l.attributes))
