use Rattle.native_ops.proofs.RowLemmas.{row_at}
use Rattle.native_ops.proofs.methods.rows.row_of.Goals as goal

pub returns : goal.returns
returns c = row_at c.args.number c.at.result c.at.ensures
