use Rattle.std.proofs.Common.{length}
use Rattle.symbolic_references.proofs.runtime.multi_arrays.+slots_of_arrays.Given as goal

abbrev pub decreases-slots_of_arrays : goal.decreases-slots_of_arrays
decreases-slots_of_arrays l = length l.lengths.now
