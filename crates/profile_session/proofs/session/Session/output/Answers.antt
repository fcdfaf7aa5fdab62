use Rattle.std.proofs.Common.{ap, ◌∙◌}
use Rattle.jvm_model.specs.declared.state.State.{State}
use Rattle.profile_session.specs.Sessions.{Profiling, run_of}
use Rattle.profile_session.proofs.Sessions.Sessions.{run-in}
use Rattle.profile_session.proofs.session.Session.output.Goals as goal

pub returns : goal.returns
returns c whole =
    let s = (c.self.invariant (ap (λ (v : Profiling). v.broken) c.self.view_is ∙ whole)).stands in
    c.output.ensures s.rests.is.fit.whole s.rests.stands.resting
    ∙ (ap (λ (s : State). s.output) (run-in c.self.inside.parts c.self.inside.broken c.self.inside.gathered s) ∙ ap (λ (v : Profiling). (run_of v).output) c.self.view_is)
