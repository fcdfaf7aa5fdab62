use Rattle.std.proofs.Common.{◌∙◌, refl, sym, ap, arith, get_or}
use Rattle.native_effects.specs.Inputs.Parsing.{up_to}
use Rattle.native_effects.proofs.DigitLemmas.{digit_too_great}
use Rattle.native_effects.proofs.inputs.parsing.digits_up_to.Goals as goal

pub returns-then-next-from : goal.returns-then-next-from
returns-then-next-from c =
    sym (digit_too_great c.args.greatest c.loop-unit.number c.loop-unit.unit-index c.args.units.now
    (get_or c.args.units.now c.loop-unit.unit-index 0) 0 (omega arith) refl (sym c.is_digit.ensures ∙ c.if-not-is_digit.false) (omega arith))
    ∙ ap (up_to c.args.greatest) c.loop-unit.invariant.1
