-- the last dot so far, unless one is still to come
use Rattle.std.proofs.Common.{◌≡◌, drop}
use Rattle.plan_text.specs.Roots.{last_dot}
use Rattle.plan_text.proofs.Dots.{or_later}
use Rattle.plan_text.proofs.roots.last_dot.Given as goal

abbrev pub invariant-loop-i : goal.invariant-loop-i
invariant-loop-i l = or_later l.i l.last (last_dot (drop l.i l.units)) ≡ last_dot l.units
