use Rattle.native_effects.specs.Inputs.Objects.{values_at}
use Rattle.native_effects.proofs.ListLemmas.{take_more}
use Rattle.native_effects.proofs.inputs.reading.values_at.Goals as goal

pub loop-slot-preserved : goal.loop-slot-preserved
loop-slot-preserved c =
    take_more (values_at c.args.object c.args.heap.now) c.loop-slot.slot c.in-Some.value c.loop-slot.values c.push.new.self
    c.in-Some.ensures c.loop-slot.invariant c.in_ok-push.ensures.items
