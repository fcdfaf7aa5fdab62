use Rattle.std.proofs.Common.{◌≡◌, ◌-◌}
use Rattle.native_effects.specs.Inputs.KindsViews.{is_among}
use Rattle.native_effects.proofs.inputs.kinds.is_among.Given as goal

abbrev pub invariant-loop : goal.invariant-loop
invariant-loop g l =
    is_among (g.K.Kinds.seen l.fn.kinds).above (16777216 - l.counter) l.current l.fn.upper
    ≡ is_among (g.K.Kinds.seen l.fn.kinds).above 16777216 l.fn.lower l.fn.upper
