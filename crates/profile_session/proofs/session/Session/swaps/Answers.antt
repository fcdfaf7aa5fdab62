use Rattle.std.proofs.Common.{sym, ap, subst, ◌∙◌}
use Rattle.profile_session.specs.Sessions.{AreSwapsOf, Profiling, entries_of, swaps_of}
use Rattle.profile_session.proofs.Sessions.Sessions.{swaps-entries, swaps-of}
use Rattle.profile_session.proofs.session.Session.swaps.Goals as goal

pub returns-clause-list : goal.returns-clause-list
returns-clause-list c whole =
    let s = (c.self.invariant (ap (λ (v : Profiling). v.broken) c.self.view_is ∙ whole)).stands in
    c.as_slice.ensures ∙ (swaps-of c.self.inside.parts c.self.inside.broken c.self.inside.gathered s ∙ ap swaps_of c.self.view_is)

pub returns-clause-entries : goal.returns-clause-entries
returns-clause-entries c whole =
    let s = (c.self.invariant (ap (λ (v : Profiling). v.broken) c.self.view_is ∙ whole)).stands in
    subst (λ swaps. AreSwapsOf c.args.self.now.program (entries_of c.args.self.now) swaps) (sym c.as_slice.ensures)
    (subst (λ (v : Profiling). AreSwapsOf v.program (entries_of v) c.self.inside.parts.swaps) c.self.view_is (swaps-entries c.self.inside.parts c.self.inside.broken c.self.inside.gathered s))
