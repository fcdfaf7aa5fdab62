-- The rest of a number is less.
use Rattle.event_buffer.proofs.numbers.+length_of_bytes.Given as goal

abbrev pub decreases-length_of_bytes : goal.decreases-length_of_bytes
decreases-length_of_bytes l = l.number
