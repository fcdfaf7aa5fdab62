use Rattle.profile_session.proofs.Sessions.Sessions.{ungathered}
use Rattle.profile_session.proofs.session.Session.new.Goals as goal

pub begin-requires : goal.begin-requires
begin-requires c = record { fresh = c.requires.fresh; profilable = c.requires.profilable }

pub invariant_of-result : goal.invariant_of-result
invariant_of-result c whole = ungathered c.in_ok-parts.parts c.in_ok-parts.ensures.stands

pub returns : goal.returns
returns c = c.in_ok-parts.ensures.seen
