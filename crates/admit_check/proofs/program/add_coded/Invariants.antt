-- the places so far, and those still to come
use Rattle.std.proofs.Common.{◌≡◌, ◌++◌, drop}
use Rattle.jvm_model.specs.Basis.Programs.{coded_from}
use Rattle.admit_check.proofs.program.add_coded.Given as goal

abbrev pub invariant-loop-at : goal.invariant-loop-at
invariant-loop-at l =
    l.places ++ coded_from l.class l.at (drop l.at l.methods) ≡ l.fn.places ++ coded_from l.class 0 l.methods
