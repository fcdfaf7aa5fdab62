-- the lengths so far, and those of the counts that are left
use Rattle.std.proofs.Common.{◌≡◌, [], drop}
use Rattle.member_selection.specs.Arrays.{lengths_from}
use Rattle.symbolic_references.proofs.runtime.multi_arrays.read_lengths.Given as goal

abbrev pub invariant-loop-count : goal.invariant-loop-count
invariant-loop-count l = lengths_from l.lengths (drop l.count-index l.counts) ≡ lengths_from [] l.counts
