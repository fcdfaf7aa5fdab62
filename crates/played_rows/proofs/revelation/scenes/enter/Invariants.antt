-- it was entered so often, nothing was loaded, and the revelation knows its class
use Rattle.std.proofs.Common.{◌≡◌, true}
use Rattle.jvm_model.specs.Profiling.Points.{has_class}
use Rattle.call_revelation.specs.Reveals.{now_of}
use Rattle.played_rows.specs.declared.revelation.item.Happening.TheVariants.{Entered}
use Rattle.played_rows.specs.Revelation.Scenes.{HasHappened}
use Rattle.played_rows.proofs.revelation.scenes.enter.Given as goal

abbrev pub invariant-loop : goal.invariant-loop
invariant-loop g l = record {
  entered :
      HasHappened (Entered l.method l.counter) l.fn.scene.linker l.fn.scene.reveal l.fn.scene.linker l.scene.reveal;
  linker : l.scene.linker ≡ l.fn.scene.linker;
  class : has_class l.fn.scene.linker.program (now_of l.scene.reveal).loaded l.method ≡ true;
}
