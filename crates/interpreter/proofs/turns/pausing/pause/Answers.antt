use Rattle.std.proofs.Common.{sym, ◌∙◌}
use Rattle.prepared_code.specs.Initializations.{state_of}
use Rattle.prepared_code.specs.Versions.{listing_of}
use Rattle.prepared_code.specs.Originals.{setup_in}
use Rattle.instructions.proofs.Moves.LineSteps.{rest-moves}
use Rattle.interpreter.proofs.Moves.OneMove.{rest-pauses}
use Rattle.interpreter.proofs.turns.pausing.pause.Goals as goal

pub returns-then-is_at_rest-clause-state : goal.returns-then-is_at_rest-clause-state
returns-then-is_at_rest-clause-state c =
    let w = setup_in c.args.parts.now.runtime c.args.originals.now in
    sym (rest-pauses w c.args.passed.now (state_of c.args.initializing.now c.args.parts.now)
    (rest-moves w (listing_of w.versions) c.args.initializing.now c.args.parts.now (sym c.is_at_rest.ensures ∙ c.if-is_at_rest.true)))
