-- the entries so far, and those that are still read, are all of them
use Rattle.std.proofs.Common.{◌≡◌, ◌-◌, ◌<◌, ◌≤◌, [], ◌∷◌, length}
use Rattle.const_pool.specs.declared.pool.Const.TheVariants.{Gap}
use Rattle.class_reader.specs.Reading.{entries_at, with_front}
use Rattle.class_reader.proofs.pool.entries_of.Given as goal

abbrev pub invariant-loop-alloc : goal.invariant-loop-alloc
invariant-loop-alloc l = record {
  some : 0 < length l.entries.items;
  within : length l.entries.items ≤ l.count;
  joined : with_front l.entries.items (entries_at (l.count - length l.entries.items) l.limit l.rest) ≡ with_front (Gap ∷ []) (entries_at (l.count - 1) l.limit l.bytes);
}

abbrev pub decreases-loop-alloc : goal.decreases-loop-alloc
decreases-loop-alloc l = l.count - length l.entries.items
