use Rattle.std.proofs.Common.{refl}
use Rattle.profile_session.specs.Parts.{profile_in}
use Rattle.profile_session.proofs.Turns.Telling.{takes-by}
use Rattle.profile_session.proofs.parts.Parts.take.Goals as goal

pub returns-clause-takes : goal.returns-clause-takes
returns-clause-takes c =
    takes-by c.args.self.now c.push.new.self c.args.event c.depth_after-depth.result c.requires.fit c.requires.tellable c.in_ok-push.ensures
    (c.depth_after-depth.ensures.path (profile_in c.args.self.now).open c.args.event c.requires.fit.depth refl) c.depth_after-depth.ensures.deeper

pub returns-clause-opens : goal.returns-clause-opens
returns-clause-opens c = c.is_opening-opening.ensures (profile_in c.args.self.now).open c.requires.fit.depth
