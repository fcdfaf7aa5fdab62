use Rattle.std.proofs.Common.{◌≡◌, sym, ap, ap₂, subst, ◌∙◌, true, false}
use Rattle.profile_session.specs.Sessions.{IsTreeOf, Profiling, profiling_in}
use Rattle.profile_session.proofs.session.Session.shown.Goals as goal

pub returns-clause-tree : goal.returns-clause-tree
returns-clause-tree c =
    let x = c.self.inside.parts in
    let whole : c.self.inside.broken ≡ false = ap (λ (v : Profiling). v.broken) c.self.view_is ∙ c.requires.whole in
    let is : c.self.inside.gathered ≡ true = ap (λ (v : Profiling). v.gathered) c.self.view_is ∙ c.requires.gathered in
    let now : profiling_in false true x ≡ c.args.self.now = ap₂ (λ b g. profiling_in b g x) (sym whole) (sym is) ∙ c.self.view_is in
    subst (λ v. IsTreeOf v x.tree) now ((c.self.invariant whole).tree is)
