use Rattle.profile_session.proofs.Turns.Hearing.{can-load, hears-load}
use Rattle.profile_session.proofs.parts.Parts.load_classes.Goals as goal

pub load-requires-clause-loadable : goal.load-requires-clause-loadable
load-requires-clause-loadable c = can-load c.args.self.now c.args.classes.now c.requires.loadable

pub returns : goal.returns
returns c = hears-load c.args.self.now c.load.new.self c.args.classes.now c.requires.loadable c.in_ok-load.ensures
