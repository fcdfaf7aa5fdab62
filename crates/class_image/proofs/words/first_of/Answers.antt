-- a number that does not fit is too great
use Rattle.std.proofs.Common.{sym, arith}
use Rattle.plan_text.proofs.Digits.{not_held}
use Rattle.class_image.proofs.words.first_of.Goals as goal

pub returns-in_default-clause-number : goal.returns-in_default-clause-number
returns-in_default-clause-number c =
    not_held 64 2147418112 c.args.word.now c.parse.result c.in_default.field-0 c.in_default.is (sym c.if-not-is_number.ensures) (omega arith) c.parse.ensures.value.0
