-- the marks of the methods so far
use Rattle.std.proofs.Common.{◌≡◌, map}
use Rattle.std.specs.List.{range_with_len}
use Rattle.call_revelation.specs.Reveals.{now_of}
use Rattle.profile_session.specs.Swapping.{mark_at_position}
use Rattle.profile_session.proofs.swapping.marks_of.Given as goal

abbrev pub invariant-loop-position : goal.invariant-loop-position
invariant-loop-position l = l.marks.items ≡ map (mark_at_position l.program (now_of l.reveal) l.class) (range_with_len 0 l.position)
