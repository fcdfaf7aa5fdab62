use Rattle.std.proofs.Common.{◌≡◌, ◌++◌, length, take}
use Rattle.std.specs.List.{flat_map}
use Rattle.const_pool.specs.Pool.{u2, entry_bytes}
use Rattle.class_writer.proofs.constants.push_pool.Given as goal

abbrev pub invariant-loop-index : goal.invariant-loop-index
invariant-loop-index l = l.out.items ≡ l.fn.out.items ++ (u2 (length l.pool) ++ flat_map entry_bytes (take l.index l.pool))
