use Rattle.std.proofs.Common.{◌≡◌, ◌++◌, length, take}
use Rattle.std.specs.List.{flat_map}
use Rattle.class_writer.specs.Room.{room}
use Rattle.const_pool.specs.Pool.{u2}
use Rattle.const_pool.specs.ClassFile.{member_bytes}
use Rattle.class_writer.proofs.room.members_len.Given as goal

abbrev pub invariant-loop-member : goal.invariant-loop-member
invariant-loop-member l = l.len ≡ room (u2 (length l.members) ++ flat_map member_bytes (take l.member-index l.members))
