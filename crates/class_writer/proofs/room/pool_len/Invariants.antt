use Rattle.std.proofs.Common.{◌≡◌, ◌++◌, length, take}
use Rattle.std.specs.List.{flat_map}
use Rattle.class_writer.specs.Room.{room}
use Rattle.const_pool.specs.Pool.{u2, entry_bytes}
use Rattle.class_writer.proofs.room.pool_len.Given as goal

abbrev pub invariant-loop-index : goal.invariant-loop-index
invariant-loop-index l = l.len ≡ room (u2 (length l.pool) ++ flat_map entry_bytes (take l.index l.pool))
