use Rattle.std.proofs.Common.{refl}
use Rattle.map_rows.specs.Names.{is_missing}
use Rattle.map_rows.proofs.NameLemmas.{piece-next, drop-next}
use Rattle.map_rows.proofs.names.missing_among.Goals as goal

pub loop-piece-preserved : goal.loop-piece-preserved
loop-piece-preserved c =
    piece-next (is_missing c.args.list.now) _ _ _ c.loop-piece.is_span _ _ _
    (drop-next (λ p. p.now) c.args.pieces.now c.loop-piece.piece-index _ _ c.loop-piece-test.true refl)
    c.loop-piece.invariant c.in_ok-add.ensures
