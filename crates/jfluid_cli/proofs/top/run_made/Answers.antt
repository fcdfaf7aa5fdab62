use Rattle.std.proofs.Common.{subst}
use Rattle.profile_session.specs.Sessions.{Profiling}
use Rattle.jfluid_cli.specs.declared.kept.Kept.{Kept}
use Rattle.jfluid_cli.specs.Runs.{PutsAtMost}
use Rattle.jfluid_cli.specs.Sinks.{DevicesView}
use Rattle.jfluid_cli.proofs.Reports.Answered.{run-answer}
use Rattle.jfluid_cli.proofs.Reports.OnDevices.{ran-from}
use Rattle.jfluid_cli.proofs.top.run_made.Goals as goal

pub returns-clause-run : goal.returns-clause-run
returns-clause-run g c =
    let k : Kept = record c.args.made_of { session = record c.args.made_of.session { value = c.answer-answered.new.session } } in
    ran-from _ _ _ c.answer-answered.result k c.args.summary c.args.asked c.args.budget c.devices.view_is
    (run-answer c.answer-answered.result c.run_all-outcome.result _ _ c.args.summary c.args.asked c.args.budget
    c.run_all-outcome.new.session k
    c.answer-answered.ensures.carried_out c.answer-answered.ensures.gathered c.answer-answered.ensures.shown
    c.answer-answered.ensures.stopped c.answer-answered.ensures.unshown c.run_all-outcome.ensures.carried_out
    c.run_all-outcome.ensures.cause c.answer-answered.ensures.stays c.run_all-outcome.ensures.cut)

pub returns-clause-prefix : goal.returns-clause-prefix
returns-clause-prefix g c =
    let after = g.O.Sink.taken c.run_all-outcome.new.out in
    subst (λ (d : DevicesView). PutsAtMost c.args.made_of.session.value c.args.budget d.out.taken after) c.devices.view_is
    (subst (λ (v : Profiling). PutsAtMost v c.args.budget (g.O.Sink.taken c.devices.inside.out) after)
    c.deref_mut-session.ensures.value c.run_all-outcome.ensures.prefix)
