use Rattle.std.proofs.Common.{ap, ◌∙◌}
use Rattle.std.specs.Option.{option_map}
use Rattle.jvm_model.specs.Codes.Lines.{operation_by}
use Rattle.prepared_lines.specs.Lines.{operation_kept}
use Rattle.prepared_lines.proofs.Operations.{family-kept}
use Rattle.prepared_lines.proofs.resolving.operation_of.Goals as goal

pub returns-in_default : goal.returns-in_default
returns-in_default c =
    c.local_operation.ensures
    ∙ (family-kept c.args.class.now c.args.instr.now.op c.args.instr.now.arg c.args.family c.in_default.not-NotLocal c.in_default.not-PoolConstant
    ∙ ap (λ f. option_map operation_kept (operation_by c.args.class.now c.args.instr.now.op c.args.instr.now.arg f)) c.requires)
