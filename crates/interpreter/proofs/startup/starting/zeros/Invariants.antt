-- those of the fields so far
use Rattle.std.proofs.Common.{◌≡◌, take}
use Rattle.std.specs.Prelude.{[], map, unwrap_or}
use Rattle.const_pool.specs.References.{named_text}
use Rattle.jvm_model.specs.Basis.SharedState.{zero_for}
use Rattle.interpreter.proofs.startup.starting.zeros.Given as goal

abbrev pub invariant-loop-field : goal.invariant-loop-field
invariant-loop-field l = l.values ≡ map (λ m. zero_for (unwrap_or (named_text l.class.pool m.descriptor) [])) (take l.field-index l.class.fields)
