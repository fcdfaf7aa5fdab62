-- what was read, and what is still read, are all of them
use Rattle.std.proofs.Common.{◌≡◌, ◌-◌}
use Rattle.code_model.specs.Reading.{pair_at, many_at, with_columns, columns_at}
use Rattle.code_model.proofs.switches.columns_of.Given as goal

abbrev pub invariant-loop : goal.invariant-loop
invariant-loop l = with_columns l.keys l.targets (many_at (pair_at l.at) (l.count - l.counter) l.rest) ≡ columns_at l.at l.count l.bytes
