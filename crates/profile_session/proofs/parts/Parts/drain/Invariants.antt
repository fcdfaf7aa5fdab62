use Rattle.std.proofs.Common.{length}
use Rattle.profile_session.proofs.Turns.Telling.{IsDraining}
use Rattle.profile_session.proofs.parts.Parts.drain.Given as goal

abbrev pub invariant-loop-event : goal.invariant-loop-event
invariant-loop-event l = IsDraining l.fn.self l.self

abbrev pub decreases-loop-event : goal.decreases-loop-event
decreases-loop-event l = length l.self.buffer.events
