-- with the frames that are left it is the whole, and those decide whether all numbers are u2
use Rattle.std.proofs.Common.{◌≡◌, ◌++◌, drop, None}
use Rattle.std.specs.List.{list_all}
use Rattle.stackmap_shift.specs.Spelling.{frames_bytes}
use Rattle.stackmap_shift.specs.Conditions.{is_narrow_frame}
use Rattle.stackmap_shift.proofs.writing.put_frames.Given as goal

abbrev pub invariant-loop-frame : goal.invariant-loop-frame
invariant-loop-frame l = record {
  bytes : l.out ++ frames_bytes l.before (drop l.frame-index l.frames) ≡ l.fn.out ++ frames_bytes None l.frames;
  narrow : list_all is_narrow_frame (drop l.frame-index l.frames) ≡ list_all is_narrow_frame l.frames;
}
