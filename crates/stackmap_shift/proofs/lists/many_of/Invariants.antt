-- what was read, and what is still read, are all of them
use Rattle.std.proofs.Common.{◌≡◌, ◌-◌, length}
use Rattle.stackmap_shift.specs.Tables.{many_at, with_front}
use Rattle.stackmap_shift.proofs.lists.many_of.Given as goal

abbrev pub invariant-loop : goal.invariant-loop
invariant-loop g l = record {
  joined : with_front l.items (many_at (g.R.ReadItem.item l.reader l.limit) (l.count - l.counter) l.rest) ≡ many_at (g.R.ReadItem.item l.reader l.limit) l.count l.bytes;
  many : length l.items ≡ l.counter;
}
