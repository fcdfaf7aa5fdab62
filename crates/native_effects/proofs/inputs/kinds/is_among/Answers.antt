use Rattle.std.proofs.Common.{◌≡◌, ◌-◌, ◌∙◌, sym, ap, arith}
use Rattle.native_effects.specs.Inputs.KindsViews.{is_among}
use Rattle.native_effects.proofs.KindLemmas.{among_above, among_none}
use Rattle.native_effects.proofs.inputs.kinds.is_among.Goals as goal

pub loop-preserved : goal.loop-preserved
loop-preserved g c =
    among_above (g.K.Kinds.seen c.args.kinds.now).above c.loop.counter c.loop.current c.args.upper c.in-Some.above
    (omega arith) c.if-current-upper.false c.in-Some.ensures ∙ c.loop.invariant

pub returns : goal.returns
returns g c =
    let above = (g.K.Kinds.seen c.args.kinds.now).above in
    let ended : 16777216 - c.loop.counter ≡ 0 = omega arith in
    sym (ap (λ n. is_among above n c.loop.current c.args.upper) ended ∙ among_none above c.loop.current c.args.upper) ∙ c.loop.invariant
