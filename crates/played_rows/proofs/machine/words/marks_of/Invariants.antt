-- what is said by the letters that are left is put behind what was said
use Rattle.std.proofs.Common.{◌≡◌, ◌++◌, drop}
use Rattle.std.specs.Option.{option_map}
use Rattle.played_rows.specs.Machine.Words.{mark_said}
use Rattle.played_rows.specs.Words.{all_found}
use Rattle.played_rows.proofs.machine.words.marks_of.Given as goal

abbrev pub invariant-loop-letter : goal.invariant-loop-letter
invariant-loop-letter l =
    option_map (λ more. l.marks ++ more) (all_found mark_said (drop l.letter-index l.letter-items)) ≡ all_found mark_said l.word
