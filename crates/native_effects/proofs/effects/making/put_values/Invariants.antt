use Rattle.std.proofs.Common.{◌≡◌, drop}
use Rattle.native_effects.specs.Effects.Making.{with_values}
use Rattle.native_effects.proofs.effects.making.put_values.Given as goal

abbrev pub invariant-loop-place : goal.invariant-loop-place
invariant-loop-place l =
    with_values l.fn.object l.next (drop l.place l.values) l.heap ≡ with_values l.fn.object l.fn.slot l.values l.fn.heap
