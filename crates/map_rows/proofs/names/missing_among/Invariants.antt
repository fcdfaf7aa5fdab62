-- the names so far, and those of the pieces that are left, are those of all pieces
use Rattle.std.proofs.Common.{◌≡◌, ◌++◌, drop, map, false}
use Rattle.std.specs.List.{filter}
use Rattle.map_rows.specs.Names.{every_second, is_missing}
use Rattle.map_rows.proofs.names.missing_among.Given as goal

abbrev pub invariant-loop-piece : goal.invariant-loop-piece
invariant-loop-piece l =
    filter (is_missing l.list) (every_second false (map (λ p. p.now) l.pieces))
    ≡ map (λ n. n.now) l.names.items
    ++ filter (is_missing l.list) (every_second l.is_span (map (λ p. p.now) (drop l.piece-index l.pieces)))
