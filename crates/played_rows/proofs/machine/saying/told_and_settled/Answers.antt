use Rattle.played_rows.specs.Machine.Reading.{tells}
use Rattle.played_rows.proofs.MachineLemmas.SayingLemmas.{clock-put, two-put}
use Rattle.played_rows.proofs.machine.saying.told_and_settled.Goals as goal

pub loop-clock-preserved : goal.loop-clock-preserved
loop-clock-preserved c =
    clock-put (tells c.args.kind c.args.method) c.loop-clock.lines _ _ c.saturating_add-end.result c.loop-clock.clock c.loop-clock-test.true
    (two-put c.loop-clock.lines _ _ _ _ c.in_ok-push.ensures.items c.in_ok-push-2.ensures.items) c.loop-clock.invariant
