-- those of the classes so far
use Rattle.std.proofs.Common.{◌≡◌, take}
use Rattle.std.specs.Prelude.{map}
use Rattle.jvm_model.specs.Basis.SharedState.{phase_before}
use Rattle.interpreter.proofs.startup.starting.phases_of.Given as goal

abbrev pub invariant-loop-class : goal.invariant-loop-class
invariant-loop-class l = l.phases ≡ map phase_before (take l.class-index l.classes)
