use Rattle.played_rows.specs.Machine.Reading.{settles}
use Rattle.played_rows.proofs.MachineLemmas.SayingLemmas.{clock-put}
use Rattle.played_rows.proofs.machine.saying.turns_settled.Goals as goal

pub loop-clock-preserved : goal.loop-clock-preserved
loop-clock-preserved c =
    clock-put settles c.loop-clock.lines _ _ c.saturating_add-end.result c.loop-clock.clock c.loop-clock-test.true
    c.in_ok-push.ensures.items c.loop-clock.invariant
