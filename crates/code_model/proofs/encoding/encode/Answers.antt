use Rattle.std.proofs.Common.{◌≡◌, ◌++◌, ap, sym, subst, ◌∙◌}
use Rattle.std.specs.Prelude.{All}
use Rattle.code_model.specs.Layout.{code_bytes}
use Rattle.code_model.specs.Instructions.{IsReading}
use Rattle.code_model.specs.Groups.{FitsInstr, IsUnmovedAt}
use Rattle.code_model.proofs.CodeLayouts.Ready.{instrs_fit, instrs_stay, encoded_reads}
use Rattle.code_model.proofs.encoding.encode.Goals as goal

pub put_instrs-requires-clause-fits : goal.put_instrs-requires-clause-fits
put_instrs-requires-clause-fits c = subst (All FitsInstr) (sym c.as_slice.ensures) (instrs_fit c.args.code.now c.requires)

pub put_instrs-requires-clause-near : goal.put_instrs-requires-clause-near
put_instrs-requires-clause-near c = subst (All IsUnmovedAt) (sym c.as_slice.ensures) (instrs_stay c.args.code.now c.requires)

pub returns-clause-read : goal.returns-clause-read
returns-clause-read c =
    let code = c.args.code.now in
    let whole : c.into_vec.result.items ≡ code_bytes code.instrs =
    c.into_vec.ensures ∙ c.in_ok-put_instrs.ensures ∙ ap (λ t. t ++ code_bytes c.as_slice.result.now) c.in_ok-bytes.ensures ∙ ap code_bytes c.as_slice.ensures in
    subst (λ bytes. IsReading bytes code) (sym whole) (encoded_reads code c.requires)
