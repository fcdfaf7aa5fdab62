use Rattle.std.proofs.Common.{◌∙◌}
use Rattle.code_admission.proofs.Grammar.{field_answered}
use Rattle.code_admission.proofs.texts.field_kind.Goals as goal

pub returns : goal.returns
returns c = c.ok.ensures.value ∙ field_answered c.args.text.now c.parse_field.result c.parse_field.ensures.found c.parse_field.ensures.only
