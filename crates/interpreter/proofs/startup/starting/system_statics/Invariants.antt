-- those of the fields so far
use Rattle.std.proofs.Common.{◌≡◌, take}
use Rattle.std.specs.Prelude.{map}
use Rattle.jvm_model.specs.Basis.SharedState.{system_static}
use Rattle.interpreter.proofs.startup.starting.system_statics.Given as goal

abbrev pub invariant-loop-field : goal.invariant-loop-field
invariant-loop-field l = l.values ≡ map (system_static l.class) (take l.field-index l.class.fields)
