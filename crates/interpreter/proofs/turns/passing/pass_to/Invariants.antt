-- so many steps lead to the parts and tell nothing
use Rattle.std.proofs.Common.{◌≤◌, ◌-◌}
use Rattle.prepared_code.specs.Originals.{setup_in}
use Rattle.interpreter.specs.Moves.Passing.{Passes}
use Rattle.interpreter.proofs.turns.passing.pass_to.Given as goal

abbrev pub invariant-loop-made : goal.invariant-loop-made
invariant-loop-made l = (l.made ≤ l.most) × Passes (setup_in l.fn.parts.runtime l.originals) l.initializing l.fn.parts l.made l.parts

abbrev pub decreases-loop-made : goal.decreases-loop-made
decreases-loop-made l = l.most - l.made
