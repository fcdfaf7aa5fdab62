-- a class without a fault can be rewritten, and its tables are moved
use Rattle.admit_check.proofs.Profilable.{profilable-class}
use Rattle.admit_check.proofs.SoundCodes.{tables-class}
use Rattle.admit_check.proofs.admission.admit_class.Goals as goal

pub returns-in-Ok-clause-profilable : goal.returns-in-Ok-clause-profilable
returns-in-Ok-clause-profilable c = profilable-class _ 0 c.args.class.now c.in-Ok.ensures.passes

pub returns-in-Ok-clause-tables : goal.returns-in-Ok-clause-tables
returns-in-Ok-clause-tables c = tables-class _ 0 c.args.class.now c.requires c.in-Ok.ensures.readable c.in-Ok.ensures.passes
