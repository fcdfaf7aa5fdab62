-- The contents are files of the classes, and a fault is one of an action.
use Rattle.std.proofs.Common.{map, sym, ap, subst, ◌∙◌}
use Rattle.const_pool.specs.ClassFile.{class_bytes}
use Rattle.generated_programs.specs.Admitted.{AreGeneratedFiles}
use Rattle.generated_programs.proofs.GeneratedAdmitted.{told-roots}
use Rattle.generated_programs.proofs.GeneratedFiles.{generated-files}
use Rattle.generated_programs.proofs.admitting.admit_generated.Goals as goal

pub returns-in-Ok-clause-files : goal.returns-in-Ok-clause-files
returns-in-Ok-clause-files c =
    subst (AreGeneratedFiles c.args.seed c.args.size) (sym (c.in_ok-contents.ensures ∙ ap (map class_bytes) (c.as_slice.ensures.value ∙ c.in_ok-classes.ensures.classes)))
    (generated-files c.args.seed c.args.size c.requires.some c.requires.most)

pub returns-in-Err-clause-only : goal.returns-in-Err-clause-only
returns-in-Err-clause-only c = told-roots c.args.seed c.args.size c.args.plan.now c.in-Err.fault c.in-Err.ensures.refused
