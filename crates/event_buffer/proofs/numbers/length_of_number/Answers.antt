use Rattle.std.proofs.Common.{length, sym, ap}
use Rattle.event_buffer.proofs.Leb128.{leb128-small}
use Rattle.event_buffer.proofs.numbers.length_of_number.Goals as goal

pub returns-then-number-lt128-clause-length : goal.returns-then-number-lt128-clause-length
returns-then-number-lt128-clause-length c = sym (ap length (leb128-small c.args.number c.if-number-lt128.true))
