use Rattle.std.proofs.Common.{length}
use Rattle.jvm_machine.specs.View.{events_left}
use Rattle.profile_session.proofs.Turns.Slicing.{Turning}
use Rattle.profile_session.proofs.parts.Parts.turn_while_idle.Given as goal

abbrev pub invariant-loop-self : goal.invariant-loop-self
invariant-loop-self l = Turning l.fn.self l.self

abbrev pub decreases-loop-self : goal.decreases-loop-self
decreases-loop-self l = length (events_left l.self.vm)
