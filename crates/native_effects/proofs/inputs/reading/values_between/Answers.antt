use Rattle.std.proofs.Common.{◌≡◌, ◌∙◌, ◌-◌, ap, arith, drop, take}
use Rattle.native_effects.specs.Inputs.Objects.{values_at}
use Rattle.native_effects.proofs.ListLemmas.{between_more}
use Rattle.native_effects.proofs.inputs.reading.values_between.Goals as goal

pub loop-slot-preserved : goal.loop-slot-preserved
loop-slot-preserved c =
    between_more (values_at c.args.object c.args.heap.now) c.args.from c.loop-slot.slot c.in-Some.value c.loop-slot.values c.push.new.self
    (omega arith) c.in-Some.ensures c.loop-slot.invariant c.in_ok-push.ensures.items

pub returns : goal.returns
returns c =
    let ended : c.loop-slot.slot - c.args.from ≡ c.args.to - c.args.from = omega arith in
    c.loop-slot.invariant ∙ ap (λ n. take n (drop c.args.from (values_at c.args.object c.args.heap.now))) ended
