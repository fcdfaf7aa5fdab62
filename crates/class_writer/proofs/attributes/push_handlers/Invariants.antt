use Rattle.std.proofs.Common.{◌≡◌, ◌++◌, length, take}
use Rattle.std.specs.List.{flat_map}
use Rattle.const_pool.specs.Pool.{u2}
use Rattle.const_pool.specs.ClassFile.{handler_bytes}
use Rattle.class_writer.proofs.attributes.push_handlers.Given as goal

abbrev pub invariant-loop-handler : goal.invariant-loop-handler
invariant-loop-handler l = l.out.items ≡ l.fn.out.items ++ (u2 (length l.handlers) ++ flat_map handler_bytes (take l.handler-index l.handlers))
