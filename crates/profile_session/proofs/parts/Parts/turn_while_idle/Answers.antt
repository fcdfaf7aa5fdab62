use Rattle.std.proofs.Common.{sym, ◌∙◌, arith}
use Rattle.profile_session.proofs.Turns.Slices.{busy-clock}
use Rattle.profile_session.proofs.Turns.Slicing.{turning-busily, turning-done, turning-fewer, turning-first, turning-next}
use Rattle.profile_session.proofs.parts.Parts.turn_while_idle.Goals as goal

pub loop-self-init : goal.loop-self-init
loop-self-init c = turning-first c.args.self.now c.requires.busy

pub is_idle-requires : goal.is_idle-requires
is_idle-requires c = c.loop-self.invariant.busy.is.fit.depth

pub returns-then-not-is_idle : goal.returns-then-not-is_idle
returns-then-not-is_idle c = turning-busily c.args.self.now c.loop-self.self c.loop-self.invariant (sym c.is_idle.ensures ∙ c.if-not-is_idle.true)

pub turn-requires-clause-busy : goal.turn-requires-clause-busy
turn-requires-clause-busy c = c.loop-self.invariant.busy

pub turn-requires-clause-below : goal.turn-requires-clause-below
turn-requires-clause-below c =
    let at = c.loop-self.invariant.clock in
    let begun = busy-clock c.args.self.now c.requires.busy in
    let below = c.requires.below in
    omega (arith, at, begun, below)

pub returns-in-Some : goal.returns-in-Some
returns-in-Some c =
    turning-done c.args.self.now c.loop-self.self c.turn.new.self c.in_ok-turn.turn c.in-Some.ended c.loop-self.invariant (sym c.ended_by.ensures ∙ c.in-Some.is) c.in_ok-turn.ensures

-- where the turn has nothing to give back, and where it has
pub loop-self-preserved : goal.loop-self-preserved
loop-self-preserved c =
    turning-next c.args.self.now c.loop-self.self c.turn.new.self c.in_ok-turn.turn c.loop-self.invariant (sym c.ended_by.ensures ∙ c.in-None.is) c.in_ok-turn.ensures

pub loop-self-smaller : goal.loop-self-smaller
loop-self-smaller c =
    turning-fewer c.args.self.now c.loop-self.self c.turn.new.self c.in_ok-turn.turn c.loop-self.invariant (sym c.ended_by.ensures ∙ c.in-None.is) c.in_ok-turn.ensures

pub loop-self-preserved-in-None : goal.loop-self-preserved-in-None
loop-self-preserved-in-None c =
    turning-next c.args.self.now c.loop-self.self c.turn.new.self c.in_ok-turn.turn c.loop-self.invariant (sym c.ended_by.ensures ∙ c.in-None.is) c.in_ok-turn.ensures

pub loop-self-smaller-in-None : goal.loop-self-smaller-in-None
loop-self-smaller-in-None c =
    turning-fewer c.args.self.now c.loop-self.self c.turn.new.self c.in_ok-turn.turn c.loop-self.invariant (sym c.ended_by.ensures ∙ c.in-None.is) c.in_ok-turn.ensures
