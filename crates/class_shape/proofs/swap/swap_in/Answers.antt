use Rattle.std.proofs.Common.{Err, sym, subst}
use Rattle.class_shape.specs.Reading.{IsAnswered}
use Rattle.class_shape.proofs.SwapLaws.{of-image, of-fault}
use Rattle.class_shape.proofs.swap.swap_in.Goals as goal

pub returns-in-Ok : goal.returns-in-Ok
returns-in-Ok c =
    subst (IsAnswered c.args.original.now c.args.bytes.now) (sym c.of_shape.ensures)
    (of-image c.args.original.now c.args.bytes.now c.in-Ok.image c.in-Ok.ensures.found)

pub returns-in-Err : goal.returns-in-Err
returns-in-Err c =
    subst (λ e. IsAnswered c.args.original.now c.args.bytes.now (Err e)) (sym c.refusal_of.ensures)
    (of-fault c.args.original.now c.args.bytes.now c.in-Err.error c.in-Err.ensures.refused)
