use Rattle.std.proofs.Common.{subst, true, false}
use Rattle.profile_session.specs.Answers.{Gathers}
use Rattle.profile_session.specs.Sessions.{profiling_in}
use Rattle.profile_session.proofs.Sessions.Sessions.{gathered-holds, gathers}
use Rattle.profile_session.proofs.session.Session.gather.Goals as goal

pub bring-requires : goal.bring-requires
bring-requires c = record { fit = (c.self.invariant c.if-self.false).stands.rests.is.fit }

pub invariant_of-self-2 : goal.invariant_of-self-2
invariant_of-self-2 c whole = gathered-holds c.self.inside.parts c.bring.new.self (c.self.invariant c.if-self.false).stands c.in-Ok.ensures

pub returns-clause-ok : goal.returns-clause-ok
returns-clause-ok c =
    subst (λ v. Gathers v (profiling_in false true c.bring.new.self)) c.self.view_is
    (gathers c.self.inside.parts c.bring.new.self c.self.inside.broken c.self.inside.gathered c.if-self.false c.in-Ok.ensures)
