use Rattle.std.proofs.Common.{ap, ◌++◌, ◌∙◌, arith}
use Rattle.std.specs.Prelude.{replicate}
use Rattle.code_model.specs.Layout.{padding}
use Rattle.code_model.proofs.CodeLayouts.Steps.{take-zeros}
use Rattle.code_model.proofs.spelling.put_padding.Goals as goal

pub returns : goal.returns
returns c = c.in_ok-extend_from_slice.ensures ∙ ap (λ t. c.args.out.now ++ t) (take-zeros c.padding_len-len.result (omega (arith, c.padding_len-len.ensures))) ∙ ap (λ n. c.args.out.now ++ replicate n 0) c.padding_len-len.ensures ∙ ap (λ n. c.args.out.now ++ padding n) c.from.ensures
