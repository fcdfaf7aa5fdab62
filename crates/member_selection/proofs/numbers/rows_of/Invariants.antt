-- the rows that were made, before those of what is left
use Rattle.std.proofs.Common.{◌≡◌, ◌+◌, ◌++◌, drop}
use Rattle.member_selection.specs.Numbers.{all_coded, rows_from}
use Rattle.member_selection.proofs.numbers.rows_of.Given as goal

abbrev pub invariant-loop-class : goal.invariant-loop-class
invariant-loop-class l =
    (l.rows ++ rows_from l.next (drop l.class-index l.classes) ≡ rows_from 0 l.classes)
    × (l.next + all_coded (drop l.class-index l.classes) ≡ all_coded l.classes)
