use Rattle.std.proofs.Common.{◌≡◌}
use Rattle.std.specs.Prelude.{replicate}
use Rattle.native_ops.proofs.classes.roots.brackets.Given as goal

abbrev pub invariant-loop : goal.invariant-loop
invariant-loop l = l.units ≡ replicate l.counter 91
