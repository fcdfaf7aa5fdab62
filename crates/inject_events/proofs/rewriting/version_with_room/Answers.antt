-- what was laid out is what the version is around
use Rattle.inject_events.proofs.Causes.{answer-around}
use Rattle.inject_events.proofs.rewriting.version_with_room.Goals as goal

pub returns-in-Ok : goal.returns-in-Ok
returns-in-Ok c =
    answer-around c.args.setting.now c.args.number c.args.mark c.args.old.now c.probes_in-probes.result c.as_slice.result.now c.in-Ok.laid c.version_around.result
    c.probes_in-probes.ensures c.as_slice.ensures c.in-Ok.ensures.answer.0 c.in-Ok.ensures.answer.1 c.version_around.ensures
