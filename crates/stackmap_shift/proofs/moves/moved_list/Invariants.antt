-- the frames so far, moved
use Rattle.std.proofs.Common.{◌≡◌, take}
use Rattle.stackmap_shift.specs.Moves.{moved_frames}
use Rattle.stackmap_shift.proofs.moves.moved_list.Given as goal

abbrev pub invariant-loop-frame : goal.invariant-loop-frame
invariant-loop-frame l = l.moved ≡ moved_frames l.homes (take l.frame-index l.frames)
