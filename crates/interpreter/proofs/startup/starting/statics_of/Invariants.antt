-- those of the classes so far
use Rattle.std.proofs.Common.{◌≡◌, take}
use Rattle.std.specs.Prelude.{map}
use Rattle.jvm_model.specs.Basis.SharedState.{static_zeros}
use Rattle.interpreter.proofs.startup.starting.statics_of.Given as goal

abbrev pub invariant-loop-class : goal.invariant-loop-class
invariant-loop-class l = l.statics ≡ map static_zeros (take l.class-index l.classes)
