use Rattle.std.proofs.Common.{sym}
use Rattle.plan_text.proofs.Dots.{last_dot-before}
use Rattle.plan_text.proofs.roots.root_of.Goals as goal

pub divide-requires-clause-dot : goal.divide-requires-clause-dot
divide-requires-clause-dot c = last_dot-before c.args.units.now c.in-Some.opening c.in-Some-last_dot.dot (sym c.in-Some-last_dot.ensures)
