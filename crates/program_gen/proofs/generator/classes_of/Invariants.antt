-- The classes so far, and the draws so far.
use Rattle.std.proofs.Common.{◌≡◌, ◌<◌, ◌^◌, ◌∷◌, map}
use Rattle.std.specs.List.{AllByRecursion}
use Rattle.const_pool.specs.ClassFile.{IsClassFile}
use Rattle.program_gen.specs.Draws.{state_at}
use Rattle.program_gen.specs.Programs.{main_row, rows_below}
use Rattle.program_gen.specs.Making.{class_file_of}
use Rattle.program_gen.proofs.DrawnChoices.{draws_before}
use Rattle.program_gen.proofs.generator.classes_of.Given as goal

abbrev pub invariant-loop-number : goal.invariant-loop-number
invariant-loop-number l =
    (l.classes.items ≡ map class_file_of (main_row ∷ rows_below l.seed l.size l.number))
    × (AllByRecursion IsClassFile l.classes.items)
    × (l.state ≡ state_at l.seed (draws_before l.number))
    × (l.state < 2 ^ 32)
