use Rattle.jvm_model.proofs.FamilyRows.{family_at}
use Rattle.jvm_model.proofs.families.family_of.Goals as goal

pub returns : goal.returns
returns c = family_at c.args.op c.at.result c.at.ensures
