use Rattle.std.proofs.Common.{sym, subst}
use Rattle.admit_check.specs.Stages.{HasNumbers}
use Rattle.admit_check.proofs.Numbers.{few_classes, has_numbers}
use Rattle.admit_check.proofs.admission.admit_over.Goals as goal

pub program_with-requires-clause-count : goal.program_with-requires-clause-count
program_with-requires-clause-count c = few_classes c.args.classes c.args.built_in.items c.requires.count c.requires.built_in

pub complete-requires-clause-numbers : goal.complete-requires-clause-numbers
complete-requires-clause-numbers c =
    subst HasNumbers (sym c.in_ok-program-in-Ok.ensures) (has_numbers c.args.classes c.args.built_in.items c.args.plan.now c.requires.formed c.requires.count c.requires.built_in)
