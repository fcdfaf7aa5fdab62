-- those so far, and those that are left
use Rattle.std.proofs.Common.{◌≡◌, ◌++◌, drop}
use Rattle.std.specs.Prelude.{filter_map}
use Rattle.call_revelation.specs.Reveals.{rank_changed}
use Rattle.call_revelation.proofs.reveal.Reveal.ranks_changed.Given as goal

abbrev pub invariant-loop-method : goal.invariant-loop-method
invariant-loop-method l =
    l.ranks ++ filter_map (rank_changed l.program l.self) (drop l.method-index l.self.stale) ≡ filter_map (rank_changed l.program l.self) l.self.stale
