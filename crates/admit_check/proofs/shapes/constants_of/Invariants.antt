-- the indices so far, and those that are still to come
use Rattle.std.proofs.Common.{◌≡◌, ◌++◌, drop}
use Rattle.admit_check.specs.Shapes.{constants_of}
use Rattle.admit_check.proofs.shapes.constants_of.Given as goal

abbrev pub invariant-loop-attribute : goal.invariant-loop-attribute
invariant-loop-attribute l = l.indices ++ constants_of (drop l.attribute-index l.attributes) ≡ constants_of l.attributes
