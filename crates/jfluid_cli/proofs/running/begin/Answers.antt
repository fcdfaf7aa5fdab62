use Rattle.std.proofs.Common.{Bool}
use Rattle.jfluid_cli.proofs.Runs.Underway.{cut-as, cut-begin, first-slice, taken-acts}
use Rattle.jfluid_cli.specs.declared.running.Reached.{Reached}
use Rattle.jfluid_cli.proofs.running.begin.Goals as goal

pub returns-in-Ok-start_and_put-clause-ok : goal.returns-in-Ok-start_and_put-clause-ok
returns-in-Ok-start_and_put-clause-ok g c =
    first-slice c.args.session.now c.take_due.new.session c.start_and_put.new.session c.in-Ok.next c.in-Ok-start_and_put.ended
    c.requires.fresh c.in-Ok.ensures.ok c.in-Ok-start_and_put.ensures.ok
    (taken-acts c.args.session.now c.take_due.new.session c.in-Ok.next c.in-Ok.ensures.ok c.requires.acts)

pub returns-in-Err-clause-cut : goal.returns-in-Err-clause-cut
returns-in-Err-clause-cut g c =
    cut-as Bool Reached c.in-Err.stop _ _
    (cut-begin c.args.session.now c.take_due.new.session c.start_and_put.new.session c.in-Ok.next (g.O.Sink.taken c.args.out.now)
    (g.O.Sink.taken c.start_and_put.new.out) c.requires.fresh c.in-Ok.ensures.ok
    (taken-acts c.args.session.now c.take_due.new.session c.in-Ok.next c.in-Ok.ensures.ok c.requires.acts)
    c.start_and_put.ensures.prefix)
    c.in-Err.ensures.cut
