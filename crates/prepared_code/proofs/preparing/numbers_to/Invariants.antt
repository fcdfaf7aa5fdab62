-- the numbers so far
use Rattle.std.proofs.Common.{◌≡◌, map}
use Rattle.std.specs.List.{range_with_len}
use Rattle.prepared_code.specs.Entries.{own_number}
use Rattle.prepared_code.proofs.preparing.numbers_to.Given as goal

abbrev pub invariant-loop-method : goal.invariant-loop-method
invariant-loop-method l = l.all ≡ map own_number (range_with_len 0 l.method)
