-- the lines so far
use Rattle.std.proofs.Common.{◌≡◌}
use Rattle.std.specs.Prelude.{map}
use Rattle.std.specs.List.{range_with_len}
use Rattle.prepared_code.specs.Rewritten.{homed_line}
use Rattle.prepared_code.proofs.rewritten.homed_lines.Given as goal

abbrev pub invariant-loop-home : goal.invariant-loop-home
invariant-loop-home l = l.lines ≡ map (homed_line l.image l.code l.homes l.len) (range_with_len 0 l.home)
