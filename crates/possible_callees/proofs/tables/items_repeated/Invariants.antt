use Rattle.std.proofs.Common.{◌≡◌}
use Rattle.std.specs.Prelude.{replicate}
use Rattle.possible_callees.proofs.tables.items_repeated.Given as goal

abbrev pub invariant-loop : goal.invariant-loop
invariant-loop g l = l.items ≡ replicate l.counter l.item
