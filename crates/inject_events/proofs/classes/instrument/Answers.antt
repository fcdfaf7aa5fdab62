-- the law of tables, what an image is, and when there is one
use Rattle.inject_events.specs.Settings.{setting_of}
use Rattle.inject_events.specs.Rewriting.{image_of}
use Rattle.inject_events.proofs.Formed.{IsClassFile-answer}
use Rattle.inject_events.proofs.Images.{IsImage-answer, small-answer}
use Rattle.inject_events.proofs.Profilable.{never_refused}
use Rattle.inject_events.proofs.SoundMoves.{moves-sound}
use Rattle.inject_events.proofs.classes.instrument.Goals as goal

pub returns-clause-moves : goal.returns-clause-moves
returns-clause-moves c = moves-sound (setting_of c.args.class.now)

pub returns-clause-image : goal.returns-clause-image
returns-clause-image c = IsImage-answer c.args.class.now c.args.first c.args.marks.now c.image_of.result c.requires.class c.requires.marks c.image_of.ensures

pub returns-clause-profilable : goal.returns-clause-profilable
returns-clause-profilable c =
    never_refused c.args.class.now c.args.first c.args.marks.now c.image_of.result (image_of c.args.class.now c.args.first c.args.marks.now) c.requires.marks c.image_of.ensures

pub returns-clause-formed : goal.returns-clause-formed
returns-clause-formed c = IsClassFile-answer c.args.class.now c.args.first c.args.marks.now c.image_of.result c.requires.class c.image_of.ensures

pub returns-clause-small : goal.returns-clause-small
returns-clause-small c =
    small-answer c.args.class.now c.args.first c.args.marks.now c.image_of.result
    (IsImage-answer c.args.class.now c.args.first c.args.marks.now c.image_of.result c.requires.class c.requires.marks c.image_of.ensures)
