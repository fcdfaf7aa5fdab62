-- the versions so far
use Rattle.std.proofs.Common.{◌≡◌}
use Rattle.std.specs.Prelude.{map}
use Rattle.std.specs.List.{range_with_len}
use Rattle.prepared_code.specs.Making.{bare_slot}
use Rattle.prepared_code.proofs.preparing.all_versions.Given as goal

abbrev pub invariant-loop-method : goal.invariant-loop-method
invariant-loop-method l = l.all ≡ map (bare_slot l.program) (range_with_len 0 l.method)
