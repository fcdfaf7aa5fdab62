use Rattle.std.proofs.Common.{sym, subst, ◌∙◌, arith}
use Rattle.profile_session.specs.Advances.{TurnedTo}
use Rattle.profile_session.proofs.Turns.Slicing.{along-done, err-matches, onward-busily, slicing-below, slicing-done, slicing-down, slicing-first, slicing-next, slicing-on, slicing-ready, slicing-some, slicing-world}
use Rattle.profile_session.proofs.parts.Parts.slice.Goals as goal

pub loop-turn-init : goal.loop-turn-init
loop-turn-init c = slicing-first c.args.self.now c.args.next c.args.last c.requires.rests c.requires.going c.requires.next c.requires.some

pub run-requires-clause-ready : goal.run-requires-clause-ready
run-requires-clause-ready c = slicing-ready c.args.self.now c.loop-turn.self c.args.last c.loop-turn.most c.loop-turn.invariant

pub run-requires-clause-some : goal.run-requires-clause-some
run-requires-clause-some c = slicing-some c.args.self.now c.loop-turn.self c.args.last c.loop-turn.most c.loop-turn.invariant

pub run-requires-clause-below : goal.run-requires-clause-below
run-requires-clause-below c = slicing-below c.args.self.now c.loop-turn.self c.args.last c.loop-turn.most c.loop-turn.invariant c.requires.below

pub returns-in-Some : goal.returns-in-Some
returns-in-Some c =
    slicing-done c.args.self.now c.args.last c.loop-turn.most c.loop-turn.self c.run.new.self c.in_ok-turn.turn c.args.next c.requires.next c.requires.some c.loop-turn.invariant c.in_ok-turn.ensures c.in-Some.ended
    (sym c.ended_by.ensures ∙ c.in-Some.is)

pub returns-in_err-turn : goal.returns-in_err-turn
returns-in_err-turn c =
    err-matches c.from_residual.result _ _ c.from_residual.ensures.0 (c.in_err-turn.ensures ∙ slicing-world c.args.self.now c.loop-turn.self c.args.last c.loop-turn.most c.loop-turn.invariant)

pub turn_if_idle-requires-clause-busy : goal.turn_if_idle-requires-clause-busy
turn_if_idle-requires-clause-busy c = (slicing-on c.args.self.now c.args.last c.loop-turn.most c.loop-turn.self c.run.new.self c.in_ok-turn.turn c.loop-turn.invariant c.in_ok-turn.ensures (sym c.ended_by.ensures ∙ c.in-None.is)).along.busy

pub turn_if_idle-requires-clause-below : goal.turn_if_idle-requires-clause-below
turn_if_idle-requires-clause-below c = let high = (slicing-on c.args.self.now c.args.last c.loop-turn.most c.loop-turn.self c.run.new.self c.in_ok-turn.turn c.loop-turn.invariant c.in_ok-turn.ensures (sym c.ended_by.ensures ∙ c.in-None.is)).along.high in let below = c.requires.below in omega (arith, high, below)

pub returns-in-Some-2 : goal.returns-in-Some-2
returns-in-Some-2 c =
    let on = slicing-on c.args.self.now c.args.last c.loop-turn.most c.loop-turn.self c.run.new.self c.in_ok-turn.turn c.loop-turn.invariant c.in_ok-turn.ensures (sym c.ended_by.ensures ∙ c.in-None.is) in
    along-done c.args.self.now c.run.new.self c.turn_if_idle.new.self c.args.next c.args.last c.in-Some-2.ended c.requires.next c.requires.some on.along
    (subst (λ o. TurnedTo c.run.new.self o c.turn_if_idle.new.self) c.in-Some-2.is c.in_ok-ended.ensures)

pub returns-in_err-ended : goal.returns-in_err-ended
returns-in_err-ended c =
    let on = slicing-on c.args.self.now c.args.last c.loop-turn.most c.loop-turn.self c.run.new.self c.in_ok-turn.turn c.loop-turn.invariant c.in_ok-turn.ensures (sym c.ended_by.ensures ∙ c.in-None.is) in
    err-matches c.from_residual-in_err-ended.result _ _ c.from_residual-in_err-ended.ensures.0 (c.in_err-ended.ensures ∙ on.along.stays.world_is)

pub overflow_sub-most-in-loop-turn : goal.overflow_sub-most-in-loop-turn
overflow_sub-most-in-loop-turn c =
    let on = slicing-on c.args.self.now c.args.last c.loop-turn.most c.loop-turn.self c.run.new.self c.in_ok-turn.turn c.loop-turn.invariant c.in_ok-turn.ensures (sym c.ended_by.ensures ∙ c.in-None.is) in
    let busily = (subst (λ o. TurnedTo c.run.new.self o c.turn_if_idle.new.self) c.in-None-2.is c.in_ok-ended.ensures) in
    let high = (onward-busily c.args.self.now c.loop-turn.self c.run.new.self c.turn_if_idle.new.self c.args.last on busily).along.high in
    let at = c.clock.ensures in
    omega (arith, high, at)

pub loop-turn-preserved : goal.loop-turn-preserved
loop-turn-preserved c =
    let on = slicing-on c.args.self.now c.args.last c.loop-turn.most c.loop-turn.self c.run.new.self c.in_ok-turn.turn c.loop-turn.invariant c.in_ok-turn.ensures (sym c.ended_by.ensures ∙ c.in-None.is) in
    let busily = (subst (λ o. TurnedTo c.run.new.self o c.turn_if_idle.new.self) c.in-None-2.is c.in_ok-ended.ensures) in
    slicing-next c.args.self.now c.loop-turn.self c.run.new.self c.turn_if_idle.new.self c.args.last c.clock.result on busily c.clock.ensures

pub loop-turn-smaller : goal.loop-turn-smaller
loop-turn-smaller c =
    let on = slicing-on c.args.self.now c.args.last c.loop-turn.most c.loop-turn.self c.run.new.self c.in_ok-turn.turn c.loop-turn.invariant c.in_ok-turn.ensures (sym c.ended_by.ensures ∙ c.in-None.is) in
    let busily = (subst (λ o. TurnedTo c.run.new.self o c.turn_if_idle.new.self) c.in-None-2.is c.in_ok-ended.ensures) in
    slicing-down c.args.self.now c.loop-turn.self c.run.new.self c.turn_if_idle.new.self c.args.last on busily

pub loop-turn-preserved-in-None-2 : goal.loop-turn-preserved-in-None-2
loop-turn-preserved-in-None-2 c =
    let on = slicing-on c.args.self.now c.args.last c.loop-turn.most c.loop-turn.self c.run.new.self c.in_ok-turn.turn c.loop-turn.invariant c.in_ok-turn.ensures (sym c.ended_by.ensures ∙ c.in-None.is) in
    let busily = (subst (λ o. TurnedTo c.run.new.self o c.turn_if_idle.new.self) c.in-None-2.is c.in_ok-ended.ensures) in
    slicing-next c.args.self.now c.loop-turn.self c.run.new.self c.turn_if_idle.new.self c.args.last c.clock.result on busily c.clock.ensures

pub loop-turn-smaller-in-None-2 : goal.loop-turn-smaller-in-None-2
loop-turn-smaller-in-None-2 c =
    let on = slicing-on c.args.self.now c.args.last c.loop-turn.most c.loop-turn.self c.run.new.self c.in_ok-turn.turn c.loop-turn.invariant c.in_ok-turn.ensures (sym c.ended_by.ensures ∙ c.in-None.is) in
    let busily = (subst (λ o. TurnedTo c.run.new.self o c.turn_if_idle.new.self) c.in-None-2.is c.in_ok-ended.ensures) in
    slicing-down c.args.self.now c.loop-turn.self c.run.new.self c.turn_if_idle.new.self c.args.last on busily
