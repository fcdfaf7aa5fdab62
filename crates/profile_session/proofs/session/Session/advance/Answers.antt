use Rattle.std.proofs.Common.{◌≡◌, refl, sym, ap, subst, ◌∙◌, true, false}
use Rattle.profile_session.specs.Answers.{Advances}
use Rattle.profile_session.specs.Sessions.{Profiling, is_over, profiling_in}
use Rattle.profile_session.proofs.Sessions.Sessions.{breaks-off, made-by, made-stands, make-world, over-in, ungathered}
use Rattle.profile_session.proofs.session.Session.advance.Goals as goal

pub returns-then-is_over-clause-advances : goal.returns-then-is_over-clause-advances
returns-then-is_over-clause-advances c =
    let whole = sym (ap (λ (v : Profiling). v.broken) c.self.view_is) ∙ c.if-self.false in
    let over = sym (c.is_over.ensures whole) ∙ c.if-is_over.true in
    record { whole = whole; same = λ is. refl; onward = λ no. absurd (let h : true ≡ false = sym over ∙ no in cc); ended = over }

pub make-requires-clause-goes_on : goal.make-requires-clause-goes_on
make-requires-clause-goes_on c =
    let whole = sym (ap (λ (v : Profiling). v.broken) c.self.view_is) ∙ c.if-self.false in
    over-in c.self.inside.parts c.self.inside.broken c.self.inside.gathered (c.self.invariant c.if-self.false).stands ∙ (ap is_over c.self.view_is ∙ (sym (c.is_over.ensures whole) ∙ c.if-is_over.false))

pub invariant_of-self-2 : goal.invariant_of-self-2
invariant_of-self-2 c whole = ungathered c.make.new.self (made-stands c.self.inside.parts c.make.new.self c.args.steps c.in-Ok.ended c.in-Ok.ensures)

pub returns-clause-advances : goal.returns-clause-advances
returns-clause-advances c =
    let whole = sym (ap (λ (v : Profiling). v.broken) c.self.view_is) ∙ c.if-self.false in
    let g = c.self.inside.gathered in
    let now : profiling_in false g c.self.inside.parts ≡ c.args.self.now = ap (λ b. profiling_in b g c.self.inside.parts) (sym c.if-self.false) ∙ c.self.view_is in
    subst (λ v. Advances v c.args.steps c.run_by.result (profiling_in false false c.make.new.self)) now
    (subst (λ r. Advances (profiling_in false g c.self.inside.parts) c.args.steps r (profiling_in false false c.make.new.self)) (sym c.run_by.ensures)
    (made-by c.self.inside.parts c.make.new.self g c.args.steps c.in-Ok.ended (c.self.invariant c.if-self.false).stands
    (ap is_over now ∙ (sym (c.is_over.ensures whole) ∙ c.if-is_over.false)) c.in-Ok.ensures))

pub returns-in_default-clause-advances : goal.returns-in_default-clause-advances
returns-in_default-clause-advances c =
    let whole = sym (ap (λ (v : Profiling). v.broken) c.self.view_is) ∙ c.if-self.false in
    breaks-off c.self.inside.parts c.make.new.self c.args.self.now c.self.inside.broken c.self.inside.gathered c.self.inside.gathered c.self.view_is whole
    (sym (c.is_over.ensures whole) ∙ c.if-is_over.false) (make-world c.self.inside.parts c.make.new.self c.args.steps c.make.result c.make.ensures)
