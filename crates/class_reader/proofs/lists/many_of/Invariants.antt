-- what was read, and what is still read, are all of them
use Rattle.std.proofs.Common.{◌≡◌, ◌-◌}
use Rattle.class_reader.specs.Reading.{many_at, with_front}
use Rattle.class_reader.proofs.lists.many_of.Given as goal

abbrev pub invariant-loop : goal.invariant-loop
invariant-loop g l = with_front l.items (many_at (g.R.ReadItem.item l.reader l.limit) (l.count - l.counter) l.rest) ≡ many_at (g.R.ReadItem.item l.reader l.limit) l.count l.bytes
