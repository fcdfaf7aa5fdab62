-- the fields so far, and those of the kinds that are left
use Rattle.std.proofs.Common.{◌≡◌, ◌++◌, drop, map}
use Rattle.jvm_model.specs.Instructions.CreationRules.{zero_of}
use Rattle.symbolic_references.proofs.runtime.creation.zeros.Given as goal

abbrev pub invariant-loop-kind : goal.invariant-loop-kind
invariant-loop-kind l = l.fields ++ map zero_of (drop l.kind-index l.kinds) ≡ map zero_of l.kinds
