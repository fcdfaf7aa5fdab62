use Rattle.std.proofs.Common.{ap, ◌∙◌}
use Rattle.profile_session.specs.Sessions.{Profiling}
use Rattle.profile_session.proofs.session.Session.clock.Goals as goal

pub returns-clause-before_the_run : goal.returns-clause-before_the_run
returns-clause-before_the_run c whole before_the_run =
    let s = (c.self.invariant (ap (λ (v : Profiling). v.broken) c.self.view_is ∙ whole)).stands in
    c.clock.ensures ∙ s.rests.stands.before_the_run (ap (λ (v : Profiling). v.started) c.self.view_is ∙ before_the_run)
