-- The row is the definition's, and so has what the definition's row has.
use Rattle.std.proofs.Common.{◌≡◌, ◌↔◌, sym, subst}
use Rattle.std.specs.Prelude.{IsTrue, false}
use Rattle.op_table.specs.Opcodes.{HasNoFixedSize}
use Rattle.op_table.proofs.Entries.{wide_row_at, wide_row_of-sizeless, wide_row_of-ending, wide_row_of-staying}
use Rattle.op_table.proofs.wide_row.Goals as goal

pub returns : goal.returns
returns c =
    let is = sym (wide_row_at c.args.op c.at.result c.at.ensures) in
    record {
      value = sym is;
      sizeless = subst (λ r. (r.size ≡ 0) ↔ HasNoFixedSize r.form) is (wide_row_of-sizeless c.args.op c.ranges.op.fits);
      ending = subst (λ r. IsTrue r.ends ↔ (c.args.op ≡ 169)) is (wide_row_of-ending c.args.op c.ranges.op.fits);
      staying = subst (λ r. r.returns ≡ false) is (wide_row_of-staying c.args.op c.ranges.op.fits);
    }
