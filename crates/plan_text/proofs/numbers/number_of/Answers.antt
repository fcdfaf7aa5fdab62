use Rattle.std.proofs.Common.{sym, arith}
use Rattle.plan_text.proofs.Digits.{not_held}
use Rattle.plan_text.proofs.numbers.number_of.Goals as goal

pub returns-in_default-clause-value : goal.returns-in_default-clause-value
returns-in_default-clause-value c =
    not_held 64 c.args.most c.args.word.now c.parse.result c.in_default.field-0 c.in_default.is
    (sym c.if-not-is_number.ensures) (omega arith) c.parse.ensures.value.0
