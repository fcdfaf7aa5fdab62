use Rattle.std.proofs.Common.{◌∙◌, sym, arith}
use Rattle.native_effects.proofs.TextLemmas.{no_pair}
use Rattle.native_effects.proofs.inputs.places.place_of_pair.Goals as goal

pub returns : goal.returns
returns c =
    sym (no_pair c.args.first c.args.second c.loop-place.place c.args.units.now (omega arith)) ∙ c.loop-place.invariant.1
