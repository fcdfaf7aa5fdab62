use Rattle.std.proofs.Common.{arith}
use Rattle.class_reader.proofs.PoolAnswers.{gaps_of}
use Rattle.class_reader.proofs.pool.pool_of.Goals as goal

pub returns-clause-gaps : goal.returns-clause-gaps
returns-clause-gaps c = gaps_of (λ x. (x.0.items, x.1.now)) c.args.limit c.args.bytes.now (λ i. omega (arith, c.type_inv.bytes i)) c.sound_entries_of.result c.sound_entries_of.ensures.sound
