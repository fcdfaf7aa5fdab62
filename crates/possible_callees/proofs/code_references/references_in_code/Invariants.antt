-- what was read, and what the instructions from here on name
use Rattle.std.proofs.Common.{◌≡◌, ◌++◌}
use Rattle.possible_callees.specs.CodeReferences.{references_in_code, symbolic_references_from}
use Rattle.possible_callees.proofs.code_references.references_in_code.Given as goal

abbrev pub decreases-loop-left : goal.decreases-loop-left
decreases-loop-left l = l.left

abbrev pub invariant-loop-left : goal.invariant-loop-left
invariant-loop-left l = l.references ++ symbolic_references_from l.class l.left l.code l.at ≡ references_in_code l.class l.code
