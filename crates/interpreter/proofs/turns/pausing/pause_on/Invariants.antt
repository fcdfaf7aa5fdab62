-- the pause is that of the state at the start, in the world and over the classes that stay
use Rattle.std.proofs.Common.{◌≡◌}
use Rattle.jvm_model.specs.Running.Moves.{moves_left}
use Rattle.prepared_code.specs.Initializations.{state_of}
use Rattle.prepared_code.specs.Originals.{setup_in}
use Rattle.activations.specs.Turning.{paused_in}
use Rattle.interpreter.proofs.turns.pausing.pause_on.Given as goal

abbrev pub invariant-loop-passed : goal.invariant-loop-passed
invariant-loop-passed l =
    (paused_in (setup_in l.fn.parts.runtime l.originals) l.passed (state_of l.initializing l.parts)
    ≡ paused_in (setup_in l.fn.parts.runtime l.originals) l.fn.passed (state_of l.fn.initializing l.fn.parts))
    × (l.parts.runtime.world ≡ l.fn.parts.runtime.world)
    × (l.parts.runtime.shared.loaded ≡ l.fn.parts.runtime.shared.loaded)

abbrev pub decreases-loop-passed : goal.decreases-loop-passed
decreases-loop-passed l = moves_left (state_of l.initializing l.parts)
