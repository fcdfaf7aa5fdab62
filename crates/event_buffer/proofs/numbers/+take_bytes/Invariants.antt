-- Each call takes a byte.
use Rattle.std.proofs.Common.{length}
use Rattle.event_buffer.proofs.numbers.+take_bytes.Given as goal

abbrev pub decreases-take_bytes : goal.decreases-take_bytes
decreases-take_bytes l = length l.bytes.now.items
