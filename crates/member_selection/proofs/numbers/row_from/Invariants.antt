-- what was numbered, before the row of what is left
use Rattle.std.proofs.Common.{◌≡◌, ◌+◌, ◌++◌, drop}
use Rattle.member_selection.specs.Numbers.{coded_count, row_from}
use Rattle.member_selection.proofs.numbers.row_from.Given as goal

abbrev pub invariant-loop-method : goal.invariant-loop-method
invariant-loop-method l =
    (l.row ++ row_from l.next (drop l.method-index l.methods) ≡ row_from l.first l.methods)
    × (l.next + coded_count (drop l.method-index l.methods) ≡ l.first + coded_count l.methods)
