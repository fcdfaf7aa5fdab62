use Rattle.std.proofs.Common.{refl}
use Rattle.prepared_code.specs.Entries.{own_number}
use Rattle.prepared_code.proofs.Tables.Tabled.{tabled-more}
use Rattle.prepared_code.proofs.preparing.numbers_to.Goals as goal

pub loop-method-preserved : goal.loop-method-preserved
loop-method-preserved c =
    rw c.in_ok-push.ensures.items (tabled-more own_number c.loop-method.method c.loop-method.all c.loop-method.method c.loop-method.invariant refl)
