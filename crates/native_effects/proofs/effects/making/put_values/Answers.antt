use Rattle.std.proofs.Common.{◌∙◌, sym, arith, drop}
use Rattle.native_effects.proofs.StoreLemmas.{stored_all, stored_one}
use Rattle.native_effects.proofs.effects.making.put_values.Goals as goal

pub returns-then-next-size_at : goal.returns-then-next-size_at
returns-then-next-size_at c =
    sym (stored_all c.args.object c.loop-place.next (drop c.loop-place.place c.args.values.now) c.loop-place.heap (omega arith))
    ∙ c.loop-place.invariant

pub loop-place-preserved : goal.loop-place-preserved
loop-place-preserved c =
    stored_one c.args.object c.loop-place.next c.loop-place.place c.args.values.now c.in-Some.value c.loop-place.heap c.put.new.self
    c.put.result (omega arith) c.in-Some.ensures c.put.ensures.answer c.put.ensures.heap ∙ c.loop-place.invariant
