-- the units so far are those of the bytes so far
use Rattle.std.proofs.Common.{◌-◌, ◌≤◌, length, take}
use Rattle.text_coding.specs.Spelling.{IsSpelling}
use Rattle.text_coding.proofs.modified.from_modified.Given as goal

abbrev pub invariant-loop-at : goal.invariant-loop-at
invariant-loop-at l = record { within : l.at ≤ length l.bytes; spelling : IsSpelling (take l.at l.bytes) l.units.items }

abbrev pub decreases-loop-at : goal.decreases-loop-at
decreases-loop-at l = length l.bytes - l.at
