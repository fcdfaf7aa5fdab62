use Rattle.std.proofs.Common.{◌≡◌, ◌<◌, false, sym, subst}
use Rattle.std.specs.Prelude.{IfNone, IfSome}
use Rattle.jvm_machine.specs.Advances.{Stops}
use Rattle.jvm_machine.specs.declared.advancing.Telling.TheVariants as telling
use Rattle.jvm_machine.specs.Probes.{IfLeaves}
use Rattle.jvm_machine.specs.Turns.{Turns}
use Rattle.jvm_machine.specs.View.{IsGoingOn, View}
use Rattle.jvm_machine.proofs.Steps.Turned.{rests-then, turned}
use Rattle.jvm_machine.proofs.machine.Vm.step.Goals as goal

pub turn-requires-clause-whole : goal.turn-requires-clause-whole
turn-requires-clause-whole c = subst (λ o. IfSome o (λ due. c.advance_quickly.new.self.broken ≡ false)) c.in-Some.is c.advance_quickly.ensures.after

pub turn-requires-clause-rests : goal.turn-requires-clause-rests
turn-requires-clause-rests c =
    rests-then c.args.self.now c.advance_quickly.new.self c.in-Some.due
    (subst (λ o. IfSome o (λ due. Stops c.args.self.now due c.advance_quickly.new.self)) c.in-Some.is c.advance_quickly.ensures.stops)

pub returns-in-Some-clause-turns : goal.returns-in-Some-clause-turns
returns-in-Some-clause-turns c =
    subst (λ t. Turns c.args.self.now t c.advance_quickly.new.self) (sym c.turn.ensures)
    (turned c.args.self.now c.advance_quickly.new.self c.in-Some.due
    (subst (λ o. IfSome o (λ due. c.args.self.now.broken ≡ false)) c.in-Some.is c.advance_quickly.ensures.whole)
    (subst (λ o. IfSome o (λ due. IsGoingOn c.args.self.now)) c.in-Some.is c.advance_quickly.ensures.going)
    (subst (λ o. IfSome o (λ due. Stops c.args.self.now due c.advance_quickly.new.self)) c.in-Some.is c.advance_quickly.ensures.stops)
    (subst (λ o. IfSome o (λ due. IfLeaves (telling.Due due) c.advance_quickly.new.self)) c.in-Some.is c.advance_quickly.ensures.leaves))

pub returns-in-None-clause-turns : goal.returns-in-None-clause-turns
returns-in-None-clause-turns c =
    subst (λ v. Turns v c.step_fully.result c.step_fully.new.self)
    (subst (λ o. IfNone o (c.advance_quickly.new.self ≡ c.args.self.now)) c.in-None.is c.advance_quickly.ensures.none)
    c.step_fully.ensures.turns

pub step_fully-requires : goal.step_fully-requires
step_fully-requires c =
    subst (λ (v : View). v.clock < 9223372036854775808)
    (sym (subst (λ o. IfNone o (c.advance_quickly.new.self ≡ c.args.self.now)) c.in-None.is c.advance_quickly.ensures.none)) c.requires
