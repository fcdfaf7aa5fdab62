use Rattle.std.proofs.Common.{arith, map}
use Rattle.plan_text.proofs.Pieces.{pieces-few}
use Rattle.plan_text.proofs.Within.{read-within}
use Rattle.plan_text.specs.Lines.{lines_in}
use Rattle.plan_text.proofs.lines.read_plan.Goals as goal

pub read_pieces-requires : goal.read_pieces-requires
read_pieces-requires c =
    let few = pieces-few c.args.bytes.now c.deref.result.now (rw c.deref.ensures.value c.in_ok-pieces.ensures) in
    record { few = omega (arith, few, c.if-bytes-gt-MOST_BYTES.false) }

pub returns-clause-within : goal.returns-clause-within
returns-clause-within c = read-within (lines_in (map (λ p. p.now) c.deref.result.now)) c.read_pieces.result c.read_pieces.ensures
