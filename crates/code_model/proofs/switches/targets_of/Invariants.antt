-- what was read, and what is still read, are all of them
use Rattle.std.proofs.Common.{◌≡◌, ◌-◌}
use Rattle.std.specs.Int.{w32}
use Rattle.code_model.specs.Reading.{target_at, many_at, with_front}
use Rattle.code_model.proofs.switches.targets_of.Given as goal

abbrev pub invariant-loop : goal.invariant-loop
invariant-loop l = with_front l.targets (many_at (target_at l.at w32) (l.count - l.counter) l.rest) ≡ many_at (target_at l.at w32) l.count l.bytes
