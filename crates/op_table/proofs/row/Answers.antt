-- The row is the definition's, and so has what the definition's row has.
use Rattle.std.proofs.Common.{◌≡◌, ◌↔◌, sym, subst}
use Rattle.std.specs.Prelude.{IsTrue}
use Rattle.op_table.specs.Opcodes.{HasNoFixedSize, NeverGoesOn, IsReturn}
use Rattle.op_table.proofs.Entries.{row_at, row_of-sizeless, row_of-ending, row_of-returning}
use Rattle.op_table.proofs.row.Goals as goal

pub returns : goal.returns
returns c =
    let is = sym (row_at c.args.op c.at.result c.at.ensures) in
    record {
      value = sym is;
      sizeless = subst (λ r. (r.size ≡ 0) ↔ HasNoFixedSize r.form) is (row_of-sizeless c.args.op c.ranges.op.fits);
      ending = subst (λ r. IsTrue r.ends ↔ NeverGoesOn c.args.op) is (row_of-ending c.args.op c.ranges.op.fits);
      returning = subst (λ r. IsTrue r.returns ↔ IsReturn c.args.op) is (row_of-returning c.args.op c.ranges.op.fits);
    }
