-- the room doubles, and no Vec has 2 ^ 63 bytes
use Rattle.std.proofs.Common.{◌<◌, ◌-◌, ◌^◌}
use Rattle.command_line.proofs.raw.word_at.Given as goal

abbrev pub invariant-loop-word : goal.invariant-loop-word
invariant-loop-word g l = 0 < l.room

abbrev pub decreases-loop-word : goal.decreases-loop-word
decreases-loop-word g l = 2 ^ 64 - l.room
