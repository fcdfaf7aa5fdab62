-- all starts are u16
use Rattle.std.proofs.Common.{length, ◌∙◌, arith}
use Rattle.stackmap_shift.proofs.Starts.{start_for-at}
use Rattle.stackmap_shift.proofs.debug.code_end.Goals as goal

pub returns : goal.returns
returns c = λ at above.
    let starts = c.args.starts.now in
    c.start_at.ensures ∙ start_for-at starts (length starts) at
    (λ k lt within. omega (arith, c.type_inv.starts k))
    (λ k le within. absurd (omega arith))
