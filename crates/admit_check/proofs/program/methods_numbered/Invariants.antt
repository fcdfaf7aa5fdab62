-- the places so far, and those of the classes still to come
use Rattle.std.proofs.Common.{◌≡◌, ◌++◌, drop}
use Rattle.jvm_model.specs.Basis.Programs.{methods_numbered, numbered_from}
use Rattle.admit_check.proofs.program.methods_numbered.Given as goal

abbrev pub invariant-loop-number : goal.invariant-loop-number
invariant-loop-number l = l.places ++ numbered_from l.number (drop l.number l.classes) ≡ methods_numbered l.classes
