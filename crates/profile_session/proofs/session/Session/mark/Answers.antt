use Rattle.std.proofs.Common.{ap, subst, sym, ◌∙◌}
use Rattle.jvm_model.specs.declared.program.Program.{Program}
use Rattle.jvm_model.specs.Profiling.Revealed.{mark_of}
use Rattle.jvm_model.specs.Profiling.Targets.{operations_of}
use Rattle.call_revelation.specs.Reveals.{IsRevelation, now_of}
use Rattle.profile_session.specs.Sessions.{Profiling, mark_in_session, standing_of}
use Rattle.profile_session.proofs.Sessions.Sessions.{mark-is, quiet-mark}
use Rattle.profile_session.proofs.session.Session.mark.Goals as goal

pub returns-clause-last : goal.returns-clause-last
returns-clause-last c whole =
    let s = (c.self.invariant (ap (λ (v : Profiling). v.broken) c.self.view_is ∙ whole)).stands in
    let x = c.self.inside.parts in
    c.mark.ensures (subst (λ (p : Program). IsRevelation p x.reveal) (sym c.program.ensures) s.rests.is.fit.revelation)
    ∙ (ap (λ (p : Program). mark_of p (now_of x.reveal) c.args.method) c.program.ensures
    ∙ (mark-is x c.self.inside.broken c.self.inside.gathered c.args.method s ∙ ap (λ (v : Profiling). mark_in_session v c.args.method) c.self.view_is))

pub returns-clause-quiet : goal.returns-clause-quiet
returns-clause-quiet c whole quiet =
    returns-clause-last c whole
    ∙ quiet-mark c.args.self.now.program (operations_of c.args.self.now.program) (standing_of c.args.self.now) c.args.method quiet
