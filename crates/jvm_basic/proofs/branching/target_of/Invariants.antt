-- what is left of the keys decides
use Rattle.std.proofs.Common.{◌≡◌, ◌+◌, drop}
use Rattle.jvm_model.specs.Instructions.LocalRules.{target_of}
use Rattle.jvm_basic.proofs.branching.target_of.Given as goal

abbrev pub invariant-loop-index : goal.invariant-loop-index
invariant-loop-index l = target_of (drop l.index l.keys) (l.index + 1) l.n ≡ target_of l.keys 1 l.n
