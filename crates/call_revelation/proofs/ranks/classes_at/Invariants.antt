-- those so far, and those that are left
use Rattle.std.proofs.Common.{◌≡◌, ◌++◌, drop}
use Rattle.std.specs.Prelude.{filter_map, slice_get}
use Rattle.call_revelation.proofs.ranks.classes_at.Given as goal

abbrev pub invariant-loop-rank : goal.invariant-loop-rank
invariant-loop-rank l =
    l.found ++ filter_map (slice_get l.classes) (drop l.rank-index l.ranks) ≡ filter_map (slice_get l.classes) l.ranks
