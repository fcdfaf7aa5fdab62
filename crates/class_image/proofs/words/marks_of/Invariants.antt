-- what is left decides, behind the marks so far
use Rattle.std.proofs.Common.{◌≡◌, ◌++◌, drop}
use Rattle.std.specs.Option.{option_map}
use Rattle.class_image.specs.Words.{marks_said}
use Rattle.class_image.proofs.words.marks_of.Given as goal

abbrev pub invariant-loop-letter : goal.invariant-loop-letter
invariant-loop-letter l = option_map (λ ms. l.marks ++ ms) (marks_said (drop l.letter-index l.word)) ≡ marks_said l.word
