use Rattle.const_pool.proofs.Gaps.{has_gaps-with_tail}
use Rattle.const_pool.proofs.tail.append_tail.Goals as goal

pub new-pool-requires-clause-gaps : goal.new-pool-requires-clause-gaps
new-pool-requires-clause-gaps c = rw (c.in_ok-entries_with_tail.ensures, c.entries-entries.ensures.all) (has_gaps-with_tail c.args.pool.now c.entries-entries.ensures.gaps)
