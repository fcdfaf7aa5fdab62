-- what is left is added to what is there
use Rattle.std.proofs.Common.{◌≡◌, ◌++◌, drop}
use Rattle.jvm_model.specs.Profiling.Revealed.{without_method}
use Rattle.call_revelation.proofs.selection.add_others.Given as goal

abbrev pub invariant-loop-other : goal.invariant-loop-other
invariant-loop-other l =
    l.kept ++ without_method l.method (drop l.other-index l.methods) ≡ l.initial.kept ++ without_method l.method l.methods
