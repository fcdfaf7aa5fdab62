-- the lines so far
use Rattle.std.proofs.Common.{◌≡◌}
use Rattle.std.specs.Prelude.{map}
use Rattle.std.specs.List.{range_with_len}
use Rattle.prepared_code.specs.Entries.{code_line}
use Rattle.prepared_code.proofs.preparing.lines_of.Given as goal

abbrev pub invariant-loop-at : goal.invariant-loop-at
invariant-loop-at l = l.lines ≡ map (code_line l.class l.code) (range_with_len 0 l.at)
