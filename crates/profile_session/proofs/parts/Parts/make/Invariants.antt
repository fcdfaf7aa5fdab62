use Rattle.std.proofs.Common.{◌-◌, ◌+◌}
use Rattle.profile_session.proofs.Turns.Slices.{Making}
use Rattle.profile_session.proofs.parts.Parts.make.Given as goal

abbrev pub invariant-loop-next : goal.invariant-loop-next
invariant-loop-next l = Making l.fn.self l.steps l.last l.next l.self

abbrev pub decreases-loop-next : goal.decreases-loop-next
decreases-loop-next l = l.last + 1 - l.next
