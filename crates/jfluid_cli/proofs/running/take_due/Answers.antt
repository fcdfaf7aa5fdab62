use Rattle.std.proofs.Common.{length, ap, arith, refl, sym, subst, ◌∙◌}
use Rattle.jvm_model.specs.declared.program.Program.{Program}
use Rattle.profile_session.specs.Sessions.{Profiling}
use Rattle.jfluid_cli.specs.Actions.{CanBeTaken}
use Rattle.jfluid_cli.proofs.Actions.ActionLemmas.{can-take, takes-one, takes-all, takes-end}
use Rattle.jfluid_cli.proofs.Actions.Chosen.{due-fits}
use Rattle.jfluid_cli.proofs.running.take_due.Goals as goal

pub take_act-requires-clause-can : goal.take_act-requires-clause-can
take_act-requires-clause-can c =
    can-take c.loop-next.session c.loop-next.next c.in-Some.act c.loop-next.invariant.along c.in-Some.ensures.due

pub take_act-requires-clause-fits : goal.take_act-requires-clause-fits
take_act-requires-clause-fits c =
    let same = c.loop-next.invariant.same in
    due-fits c.loop-next.session c.loop-next.next c.in-Some.act
    (subst (λ (p : Program). CanBeTaken p.acts) (sym (ap (λ (s : Profiling). s.program) same)) c.requires.acts)
    c.loop-next.invariant.along c.in-Some.ensures.due
    (λ before_the_run. ap (λ (s : Profiling). s.clock) same
    ∙ c.requires.before_the_run (sym (ap (λ (s : Profiling). s.started) same) ∙ before_the_run))

pub loop-next-preserved : goal.loop-next-preserved
loop-next-preserved c =
    takes-one c.args.session.now c.loop-next.session c.take_act.new.session c.loop-next.next c.in-Some.act
    c.loop-next.invariant c.in-Some.ensures.due c.in_ok-take_act.ensures.ok

pub returns-in_default-clause-ok : goal.returns-in_default-clause-ok
returns-in_default-clause-ok c =
    takes-all c.args.session.now c.loop-next.session c.loop-next.next c.loop-next.invariant (c.in_default.ensures.other refl)

pub returns-clause-ok : goal.returns-clause-ok
returns-clause-ok c =
    takes-end c.args.session.now c.loop-next.session c.loop-next.next c.len-count.result c.loop-next.invariant
    (c.len-count.ensures ∙ ap (λ (p : Program). length p.acts) c.program.ensures)
    (omega (arith, c.loop-next-test.false))
