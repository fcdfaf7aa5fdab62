use Rattle.std.proofs.Common.{◌<◌, sym, subst, arith}
use Rattle.jvm_machine.specs.Several.{ReachesIf}
use Rattle.jvm_machine.specs.Turns.{Turns}
use Rattle.jvm_machine.specs.View.{View}
use Rattle.jvm_machine.proofs.Steps.SeveralTurns.{passes-clock}
use Rattle.jvm_machine.proofs.Steps.Turned.{rests-then, turned}
use Rattle.jvm_machine.proofs.machine.Vm.go_onward.Goals as goal

pub turn-requires-clause-whole : goal.turn-requires-clause-whole
turn-requires-clause-whole c =
    let p = c.pass_onward-passed.ensures.passes in
    (subst (λ o. ReachesIf p.between o c.pass_onward-passed.new.self) c.in-Some.is p.reaches).after

pub turn-requires-clause-rests : goal.turn-requires-clause-rests
turn-requires-clause-rests c =
    let p = c.pass_onward-passed.ensures.passes in
    rests-then p.between c.pass_onward-passed.new.self c.in-Some.due (subst (λ o. ReachesIf p.between o c.pass_onward-passed.new.self) c.in-Some.is p.reaches).stops

pub returns-in-Some-clause-turns : goal.returns-in-Some-clause-turns
returns-in-Some-clause-turns c =
    let p = c.pass_onward-passed.ensures.passes in
    let r = subst (λ o. ReachesIf p.between o c.pass_onward-passed.new.self) c.in-Some.is p.reaches in
    record {
      between = p.between;
      passes = p.passes;
      last = subst (λ t. Turns p.between t c.pass_onward-passed.new.self) (sym c.turn.ensures)
          (turned p.between c.pass_onward-passed.new.self c.in-Some.due r.whole r.went_on r.stops r.leaves);
    }

pub step_fully-requires : goal.step_fully-requires
step_fully-requires c =
    let p = c.pass_onward-passed.ensures.passes in
    let same = subst (λ o. ReachesIf p.between o c.pass_onward-passed.new.self) c.in-None.is p.reaches in
    let up = passes-clock c.args.self.now p.between c.pass_onward-passed.result.made p.passes in
    let within = c.pass_onward-passed.ensures.within in
    let below = c.requires.below in
    subst (λ (v : View). v.clock < 9223372036854775808) (sym same) (omega (arith, up, within, below))

pub returns-in-None-clause-turns : goal.returns-in-None-clause-turns
returns-in-None-clause-turns c =
    let p = c.pass_onward-passed.ensures.passes in
    let same = subst (λ o. ReachesIf p.between o c.pass_onward-passed.new.self) c.in-None.is p.reaches in
    record {
      between = p.between;
      passes = p.passes;
      last = subst (λ v. Turns v c.step_fully.result c.step_fully.new.self) same c.step_fully.ensures.turns;
    }
