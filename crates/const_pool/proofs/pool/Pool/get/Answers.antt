use Rattle.const_pool.proofs.Gaps.{none_at}
use Rattle.const_pool.proofs.pool.Pool.get.Goals as goal

pub returns-clause-none : goal.returns-clause-none
returns-clause-none c = none_at (λ entry. entry.now) c.args.self.now c.args.i c.find.result c.find.ensures.gaps c.find.ensures.entry
