-- what is left of the positions decides
use Rattle.std.proofs.Common.{◌≡◌, drop}
use Rattle.std.specs.Prelude.{find}
use Rattle.class_index.specs.Buckets.{is_at}
use Rattle.class_index.specs.Members.{wanted_view}
use Rattle.class_index.proofs.table.first_at.Given as goal

abbrev pub invariant-loop-position : goal.invariant-loop-position
invariant-loop-position l =
    find (is_at l.pool l.members (wanted_view l.wanted)) (drop l.position-index l.positions) ≡ find (is_at l.pool l.members (wanted_view l.wanted)) l.positions
