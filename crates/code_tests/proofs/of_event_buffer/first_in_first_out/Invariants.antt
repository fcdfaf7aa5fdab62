-- The last clock is known.
use Rattle.std.proofs.Common.{◌≡◌}
use Rattle.event_buffer.specs.Buffers.{last_clock}
use Rattle.code_tests.proofs.of_event_buffer.first_in_first_out.Given as goal

abbrev pub invariant-loop-number : goal.invariant-loop-number
invariant-loop-number g l = last_clock l.buffer ≡ l.last
