use Rattle.std.proofs.Common.{◌≡◌, ◌++◌, length, take}
use Rattle.std.specs.List.{flat_map}
use Rattle.const_pool.specs.Pool.{u2}
use Rattle.class_writer.proofs.writer.push_interfaces.Given as goal

abbrev pub invariant-loop-index : goal.invariant-loop-index
invariant-loop-index l = l.out.items ≡ l.fn.out.items ++ (u2 (length l.interfaces) ++ flat_map u2 (take l.index-index l.interfaces))
