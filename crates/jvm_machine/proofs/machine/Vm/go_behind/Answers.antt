use Rattle.std.proofs.Common.{◌≡◌, ◌+◌, ◌<◌, ◌≤◌, Option, Some, sym, subst, arith}
use Rattle.std.specs.Option.{IfSome}
use Rattle.jvm_machine.specs.declared.advancing.Advance.{Advance}
use Rattle.jvm_machine.specs.Several.{EndsUpTo, ReachesIf}
use Rattle.jvm_machine.specs.Turns.{Turns}
use Rattle.jvm_machine.specs.View.{View}
use Rattle.jvm_machine.proofs.Steps.SeveralTurns.{passes-clock, settles-clock}
use Rattle.jvm_machine.proofs.Steps.Turned.{rests-then, turned}
use Rattle.jvm_machine.proofs.machine.Vm.go_behind.Goals as goal

-- what is said of the passage
of-passage : (o : Option Advance) (p : Advance) (old new : View) → o ≡ Some p → IfSome o (λ p. EndsUpTo old p.made p.due new) → EndsUpTo old p.made p.due new
of-passage o p old new is said = subst (λ o. IfSome o (λ (p : Advance). EndsUpTo old p.made p.due new)) is said

pub turn-requires-clause-whole : goal.turn-requires-clause-whole
turn-requires-clause-whole c =
    let e = of-passage c.pass_behind.result c.in-Some.passed c.args.self.now c.pass_behind.new.self c.in-Some.is c.pass_behind.ensures.passes in
    (subst (λ o. ReachesIf e.behind.between o c.pass_behind.new.self) c.in-Some-due.is e.behind.reaches).after

pub turn-requires-clause-rests : goal.turn-requires-clause-rests
turn-requires-clause-rests c =
    let e = of-passage c.pass_behind.result c.in-Some.passed c.args.self.now c.pass_behind.new.self c.in-Some.is c.pass_behind.ensures.passes in
    rests-then e.behind.between c.pass_behind.new.self c.in-Some-due.due (subst (λ o. ReachesIf e.behind.between o c.pass_behind.new.self) c.in-Some-due.is e.behind.reaches).stops

pub returns-in-Some-due-clause-turns : goal.returns-in-Some-due-clause-turns
returns-in-Some-due-clause-turns c =
    let e = of-passage c.pass_behind.result c.in-Some.passed c.args.self.now c.pass_behind.new.self c.in-Some.is c.pass_behind.ensures.passes in
    let r = subst (λ o. ReachesIf e.behind.between o c.pass_behind.new.self) c.in-Some-due.is e.behind.reaches in
    record {
      first = e.first;
      ends = e.ends;
      behind = record {
        between = e.behind.between;
        passes = e.behind.passes;
        last = subst (λ t. Turns e.behind.between t c.pass_behind.new.self) (sym c.turn.ensures)
            (turned e.behind.between c.pass_behind.new.self c.in-Some-due.due r.whole r.went_on r.stops r.leaves);
      };
    }

pub step_fully-requires : goal.step_fully-requires
step_fully-requires c =
    let e = of-passage c.pass_behind.result c.in-Some.passed c.args.self.now c.pass_behind.new.self c.in-Some.is c.pass_behind.ensures.passes in
    let same = subst (λ o. ReachesIf e.behind.between o c.pass_behind.new.self) c.in-None.is e.behind.reaches in
    let first = settles-clock c.args.self.now e.first e.ends in
    let up = passes-clock e.first e.behind.between c.in-Some.passed.made e.behind.passes in
    let within = subst (λ o. IfSome o (λ (p : Advance). p.made + 2 ≤ c.args.most)) c.in-Some.is c.pass_behind.ensures.within in
    let below = c.requires.below in
    subst (λ (v : View). v.clock < 9223372036854775808) (sym same) (omega (arith, first, up, within, below))

pub returns-in-None-clause-turns : goal.returns-in-None-clause-turns
returns-in-None-clause-turns c =
    let e = of-passage c.pass_behind.result c.in-Some.passed c.args.self.now c.pass_behind.new.self c.in-Some.is c.pass_behind.ensures.passes in
    let same = subst (λ o. ReachesIf e.behind.between o c.pass_behind.new.self) c.in-None.is e.behind.reaches in
    record {
      first = e.first;
      ends = e.ends;
      behind = record {
        between = e.behind.between;
        passes = e.behind.passes;
        last = subst (λ v. Turns v c.step_fully.result c.step_fully.new.self) same c.step_fully.ensures.turns;
      };
    }
