use Rattle.std.proofs.Common.{ap, ◌∙◌}
use Rattle.profile_session.specs.Sessions.{Profiling, is_selected_in}
use Rattle.profile_session.proofs.Sessions.Sessions.{selected-is}
use Rattle.profile_session.proofs.session.Session.is_selected.Goals as goal

pub returns : goal.returns
returns c whole =
    let s = (c.self.invariant (ap (λ (v : Profiling). v.broken) c.self.view_is ∙ whole)).stands in
    c.is_selected.ensures ∙ (selected-is c.self.inside.parts c.self.inside.broken c.self.inside.gathered c.args.method s ∙ ap (λ (v : Profiling). is_selected_in v c.args.method) c.self.view_is)
