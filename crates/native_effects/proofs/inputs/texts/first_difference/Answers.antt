use Rattle.std.proofs.Common.{◌∙◌, sym, arith}
use Rattle.native_effects.proofs.TextLemmas.{ended}
use Rattle.native_effects.proofs.inputs.texts.first_difference.Goals as goal

pub returns-then-i-other : goal.returns-then-i-other
returns-then-i-other c = sym (ended c.loop-i.i c.args.one.now c.args.other.now (omega arith)) ∙ c.loop-i.invariant
