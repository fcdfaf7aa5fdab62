-- The rest of a number is less.
use Rattle.event_buffer.proofs.numbers.+put_bytes.Given as goal

abbrev pub decreases-put_bytes : goal.decreases-put_bytes
decreases-put_bytes l = l.number
