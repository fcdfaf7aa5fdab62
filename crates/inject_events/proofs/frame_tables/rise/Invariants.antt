-- what is left decides
use Rattle.std.proofs.Common.{◌≡◌, drop}
use Rattle.std.specs.Prelude.{None}
use Rattle.jvm_model.specs.Rewriting.ImageTables.{rise_from}
use Rattle.inject_events.proofs.frame_tables.rise.Given as goal

abbrev pub invariant-loop-frame : goal.invariant-loop-frame
invariant-loop-frame l = rise_from l.before (drop l.frame-index l.frames) ≡ rise_from None l.frames
