-- what was read, and what is still read, are all of them; what was read can be written
use Rattle.std.proofs.Common.{◌≡◌, ◌-◌, length, None}
use Rattle.std.specs.Prelude.{All}
use Rattle.stackmap_shift.specs.Tables.{with_front}
use Rattle.stackmap_shift.specs.Frames.{frames_at}
use Rattle.stackmap_shift.specs.Conditions.{FitsFrame, Rise, last_offset}
use Rattle.stackmap_shift.proofs.reading.frames_from.Given as goal

abbrev pub invariant-loop : goal.invariant-loop
invariant-loop l = record {
  joined : with_front l.frames (frames_at (l.count - l.counter) l.before l.limit l.rest) ≡ frames_at l.count None l.limit l.bytes;
  many : length l.frames ≡ l.counter;
  before : l.before ≡ last_offset None l.frames;
  rise : Rise None l.frames;
  fit : All FitsFrame l.frames;
}
