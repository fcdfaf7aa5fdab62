use Rattle.std.proofs.Common.{sym}
use Rattle.profile_session.proofs.Turns.Telling.{drained, draining-first, taken-countable, taken-later, taken-next}
use Rattle.profile_session.proofs.parts.Parts.drain.Goals as goal

pub loop-event-init : goal.loop-event-init
loop-event-init c = draining-first c.args.self.now c.requires.fit

pub take-requires-clause-later : goal.take-requires-clause-later
take-requires-clause-later c = taken-later c.loop-event.self c.in-Some.event c.loop-event.invariant.fit (sym c.in-Some.ensures.first)

pub take-requires-clause-countable : goal.take-requires-clause-countable
take-requires-clause-countable c = taken-countable c.loop-event.self c.loop-event.invariant.fit

pub loop-event-preserved : goal.loop-event-preserved
loop-event-preserved c =
    taken-next c.args.self.now c.loop-event.self c.in-Some.event c.take.new.self c.pop.new.self c.loop-event.invariant (sym c.in-Some.ensures.first) c.in-Some.ensures.rest
    c.in-Some.ensures.clock c.in_ok-take.ensures.ok c.in_ok-take.ensures.calls

pub returns : goal.returns
returns c = drained c.args.self.now c.loop-event.self c.pop.new.self c.loop-event.invariant (sym c.in_default.ensures.first) c.in_default.ensures.rest
