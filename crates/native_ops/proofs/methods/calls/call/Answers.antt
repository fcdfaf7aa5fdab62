use Rattle.std.proofs.Common.{is_ok}
use Rattle.native_effects.specs.Effects.Worlds.{world, after}
use Rattle.native_effects.proofs.LimitLemmas.{kept-limit, after-limit}
use Rattle.native_ops.proofs.methods.calls.call.Goals as goal

pub returns-in-Ok-carry_out-clause-limit : goal.returns-in-Ok-carry_out-clause-limit
returns-in-Ok-carry_out-clause-limit g c =
    kept-limit (is_ok c.carry_out.result) (after c.in-Ok.effect) (world c.args.heap.now c.args.made.now c.args.input.now c.args.read.now)
    c.carry_out.new.heap (after-limit c.in-Ok.effect) c.carry_out.ensures.heap
