-- the version of the code that it has
use Rattle.inject_events.proofs.Causes.{made-image}
use Rattle.inject_events.proofs.members.image_of_coded.Goals as goal

pub returns-in_ok-image_with-in-Ok : goal.returns-in_ok-image_with-in-Ok
returns-in_ok-image_with-in-Ok c =
    made-image c.args.setting.now c.args.number c.args.mark c.args.member.now c.in-Some.old.now c.in-Ok.version c.in_ok-image_with-in-Ok.field-0
    c.in-Some.ensures c.in-Ok.ensures.0 c.in-Ok.ensures.1 c.in_ok-image_with-in-Ok.ensures
