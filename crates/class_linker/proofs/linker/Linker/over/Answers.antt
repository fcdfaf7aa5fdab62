use Rattle.std.proofs.Common.{◌∙◌, ap, length}
use Rattle.jvm_model.specs.declared.program.Program.{Program}
use Rattle.class_linker.proofs.Begun.{begun}
use Rattle.class_linker.proofs.linker.Linker.over.Goals as goal

pub invariant_of-result : goal.invariant_of-result
invariant_of-result c =
    begun c.args.index.value c.in_ok-rows.rows c.len.result c.new.result c.in_ok-rows.ensures
    (c.len.ensures ∙ ap (λ (p : Program). length p.classes) (c.program.ensures.all ∙ c.as_ref.ensures)) c.new.ensures
