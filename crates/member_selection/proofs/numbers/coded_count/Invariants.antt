-- those that were counted and those that are left
use Rattle.std.proofs.Common.{◌≡◌, ◌+◌, drop}
use Rattle.member_selection.specs.Numbers.{coded_count}
use Rattle.member_selection.proofs.numbers.coded_count.Given as goal

abbrev pub invariant-loop-method : goal.invariant-loop-method
invariant-loop-method l = l.count + coded_count (drop l.method-index l.methods) ≡ coded_count l.methods
