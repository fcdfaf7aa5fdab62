use Rattle.std.proofs.Common.{ap, ◌∙◌}
use Rattle.jvm_model.specs.declared.state.State.{State}
use Rattle.profile_session.specs.Sessions.{Profiling, ending_in}
use Rattle.profile_session.proofs.Sessions.Sessions.{run-in}
use Rattle.profile_session.proofs.session.Session.ending.Goals as goal

pub returns : goal.returns
returns c whole =
    let s = (c.self.invariant (ap (λ (v : Profiling). v.broken) c.self.view_is ∙ whole)).stands in
    c.ending.ensures s.rests.is.fit.whole s.rests.stands.resting ∙ (ap (λ (s : State). s.ending) (run-in c.self.inside.parts c.self.inside.broken c.self.inside.gathered s) ∙ ap ending_in c.self.view_is)
