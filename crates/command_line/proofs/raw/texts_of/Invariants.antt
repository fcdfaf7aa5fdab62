-- the words so far are texts
use Rattle.std.proofs.Common.{◌≡◌, take, drop}
use Rattle.command_line.specs.Raw.{AreTexts}
use Rattle.command_line.specs.Words.{texts}
use Rattle.command_line.proofs.raw.texts_of.Given as goal

abbrev pub invariant-loop-word : goal.invariant-loop-word
invariant-loop-word l =
    (texts l.found.items ≡ take l.word-index l.words)
    × (AreTexts (drop l.word-index l.words) → AreTexts l.words)
