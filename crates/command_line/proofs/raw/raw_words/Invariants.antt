-- the words so far are the first of those that are told
use Rattle.std.proofs.Common.{◌-◌, ◌^◌, length}
use Rattle.command_line.proofs.Told.{AreFirst}
use Rattle.command_line.proofs.raw.raw_words.Given as goal

abbrev pub invariant-loop-words : goal.invariant-loop-words
invariant-loop-words g l = AreFirst (g.P.Process.words l.process) l.words

abbrev pub decreases-loop-words : goal.decreases-loop-words
decreases-loop-words g l = 2 ^ 64 - length l.words
