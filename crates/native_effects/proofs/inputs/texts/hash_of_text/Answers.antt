use Rattle.std.proofs.Common.{◌∙◌, sym, arith}
use Rattle.native_effects.proofs.TextLemmas.{hash_step}
use Rattle.native_effects.proofs.inputs.texts.hash_of_text.Goals as goal

pub loop-unit-preserved : goal.loop-unit-preserved
loop-unit-preserved c =
    sym (hash_step c.loop-unit.sum c.loop-unit.unit-index c.args.units.now c.from.result 0 (omega arith) c.from.ensures)
    ∙ c.loop-unit.invariant
