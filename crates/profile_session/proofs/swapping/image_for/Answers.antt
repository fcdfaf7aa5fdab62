use Rattle.std.proofs.Common.{sym}
use Rattle.profile_session.proofs.Swaps.Imaging.{imaged}
use Rattle.profile_session.proofs.swapping.image_for.Goals as goal

pub returns-in-Ok : goal.returns-in-Ok
returns-in-Ok c =
    imaged c.args.program.now c.args.class c.in-Some.original.now c.first_number.result c.args.marks.now c.in-Ok.image c.requires.imageable
    (sym c.in-Some.ensures) c.requires.count c.requires.coded c.first_number.ensures.number c.in-Ok.ensures.answer.1 c.in-Ok.ensures.image c.in-Ok.ensures.formed
