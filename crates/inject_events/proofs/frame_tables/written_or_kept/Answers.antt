-- they rise, and each fits
use Rattle.std.proofs.Common.{sym, ap, ◌∙◌}
use Rattle.jvm_model.specs.Rewriting.ImageTables.{is_writable}
use Rattle.inject_events.proofs.Framing.{AreWritable-is}
use Rattle.inject_events.proofs.frame_tables.written_or_kept.Goals as goal

pub write_frames-requires : goal.write_frames-requires
write_frames-requires c = AreWritable-is c.args.frames.now.list (sym (c.is_writable.ensures ∙ ap is_writable c.as_slice.ensures) ∙ c.if-is_writable.true) c.requires
