use Rattle.std.proofs.Common.{arith}
use Rattle.const_pool.specs.ClassFile.{raw_bytes}
use Rattle.class_writer.proofs.Lengths.{within}
use Rattle.class_writer.proofs.room.raws_len.Goals as goal

pub overflow_add-len : goal.overflow_add-len
overflow_add-len c = omega (arith, within raw_bytes c.args.raws.now c.loop-raw.raw-index c.raw-item.result c.loop-raw-test.true c.raw-item.is, c.requires, c.len.ensures)

pub overflow_add-len-in-loop-raw : goal.overflow_add-len-in-loop-raw
overflow_add-len-in-loop-raw c = omega (arith, within raw_bytes c.args.raws.now c.loop-raw.raw-index c.raw-item.result c.loop-raw-test.true c.raw-item.is, c.requires, c.len.ensures, c.loop-raw.invariant)
