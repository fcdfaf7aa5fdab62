use Rattle.std.proofs.Common.{◌≡◌, ◌++◌, length, take}
use Rattle.std.specs.List.{flat_map}
use Rattle.const_pool.specs.Pool.{u2}
use Rattle.const_pool.specs.ClassFile.{attribute_bytes}
use Rattle.class_writer.proofs.attributes.push_attributes.Given as goal

abbrev pub invariant-loop-attribute : goal.invariant-loop-attribute
invariant-loop-attribute l = l.out.items ≡ l.fn.out.items ++ (u2 (length l.attributes) ++ flat_map attribute_bytes (take l.attribute-index l.attributes))
