use Rattle.std.proofs.Common.{◌≡◌}
use Rattle.std.specs.Prelude.{None, replicate}
use Rattle.call_revelation.proofs.book.no_codes.Given as goal

abbrev pub invariant-loop : goal.invariant-loop
invariant-loop l = l.codes ≡ replicate l.counter None
