use Rattle.std.proofs.Common.{Ok, Err, ◌∙◌, arith}
use Rattle.std.proofs.lemmas.List.Sorted.{searched}
use Rattle.code_model.proofs.Offsets.Searches.{rise-le, rise-lt}
use Rattle.stackmap_shift.proofs.Starts.{start_for-at}
use Rattle.stackmap_shift.proofs.debug.start_for.Goals as goal

pub returns-in-Ok : goal.returns-in-Ok
returns-in-Ok c =
    let starts = c.args.starts.now in
    let found = searched starts c.args.at (Ok c.in-Ok.index) c.in-Ok.ensures.position (rise-le starts c.requires) in
    c.start_at.ensures ∙ start_for-at starts c.in-Ok.index c.args.at
    (λ k lt within. (let below = rise-lt starts c.requires k c.in-Ok.index lt found.0 in omega (arith, found.1)))
    (λ k le within. (let above = rise-le starts c.requires c.in-Ok.index k le within in omega (arith, found.1)))

pub returns-in-Err : goal.returns-in-Err
returns-in-Err c =
    let starts = c.args.starts.now in
    let missed = searched starts c.args.at (Err c.in-Err.index) c.in-Err.ensures.position (rise-le starts c.requires) in
    c.start_at-in-Err.ensures ∙ start_for-at starts c.in-Err.index c.args.at (λ k lt within. missed.1 k lt)
    (λ k le within. (let above = missed.2 k le within in omega arith))
