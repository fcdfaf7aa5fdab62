use Rattle.std.proofs.Common.{Bool, subst}
use Rattle.byte_streams.specs.Streams.{PutsPrefix}
use Rattle.jfluid_cli.proofs.Reports.Outputs.{front-longer}
use Rattle.jfluid_cli.proofs.Runs.Underway.{cut-as, cut-slice, one-slice, taken-acts, taken-written}
use Rattle.jfluid_cli.specs.declared.running.Reached.{Reached}
use Rattle.jfluid_cli.proofs.running.go_on.Goals as goal

pub returns-in-Ok-run_slice-clause-ok : goal.returns-in-Ok-run_slice-clause-ok
returns-in-Ok-run_slice-clause-ok g c =
    one-slice c.args.session.now c.take_due.new.session c.run_slice.new.session c.in-Ok.next c.steps_of-steps.result
    c.args.budget c.in-Ok-run_slice.ended c.requires.going c.requires.goes_on c.in-Ok.ensures.ok c.in-Ok-run_slice.ensures.ok
    c.steps_of-steps.ensures.some c.steps_of-steps.ensures.within c.steps_of-steps.ensures.before
    c.steps_of-steps.ensures.end
    (taken-acts c.args.session.now c.take_due.new.session c.in-Ok.next c.in-Ok.ensures.ok c.requires.acts)

pub returns-in-Err-clause-prefix : goal.returns-in-Err-clause-prefix
returns-in-Err-clause-prefix g c =
    subst (PutsPrefix (g.O.Sink.taken c.args.out.now) (g.O.Sink.taken c.run_slice.new.out))
    (taken-written c.args.session.now c.take_due.new.session c.in-Ok.next c.in-Ok.ensures.ok c.args.budget)
    (front-longer c.take_due.new.session c.steps_of-steps.result c.args.budget (g.O.Sink.taken c.args.out.now)
    (g.O.Sink.taken c.run_slice.new.out) c.steps_of-steps.ensures.within c.run_slice.ensures.prefix)

pub returns-in-Ok-run_slice-clause-prefix : goal.returns-in-Ok-run_slice-clause-prefix
returns-in-Ok-run_slice-clause-prefix g c =
    subst (PutsPrefix (g.O.Sink.taken c.args.out.now) (g.O.Sink.taken c.run_slice.new.out))
    (taken-written c.args.session.now c.take_due.new.session c.in-Ok.next c.in-Ok.ensures.ok c.args.budget)
    (front-longer c.take_due.new.session c.steps_of-steps.result c.args.budget (g.O.Sink.taken c.args.out.now)
    (g.O.Sink.taken c.run_slice.new.out) c.steps_of-steps.ensures.within c.run_slice.ensures.prefix)

pub returns-in-Err-clause-cut : goal.returns-in-Err-clause-cut
returns-in-Err-clause-cut g c =
    cut-as Bool Reached c.in-Err.stop _ _
    (cut-slice c.args.session.now c.take_due.new.session c.run_slice.new.session c.in-Ok.next c.steps_of-steps.result
    c.args.budget (g.O.Sink.taken c.args.out.now) (g.O.Sink.taken c.run_slice.new.out) c.requires.going c.requires.goes_on c.in-Ok.ensures.ok
    c.steps_of-steps.ensures.some c.steps_of-steps.ensures.within c.steps_of-steps.ensures.before
    c.steps_of-steps.ensures.end
    (taken-acts c.args.session.now c.take_due.new.session c.in-Ok.next c.in-Ok.ensures.ok c.requires.acts))
    c.in-Err.ensures.cut
