use Rattle.instructions.specs.Acts.{attempts_on}
use Rattle.prepared_code.specs.Initializations.{state_of}
use Rattle.prepared_code.specs.Originals.{setup_in}
use Rattle.prepared_code.proofs.Lines.KnownNames.{names-kept}
use Rattle.instructions.proofs.Attempts.NamedAttempts.{same-setup, on-either}
use Rattle.interpreter.proofs.Moves.Followed.{follows-in}
use Rattle.interpreter.proofs.turns.trying.try_again.Goals as goal

pub returns-clause-reaches : goal.returns-clause-reaches
returns-clause-reaches c =
    let w = setup_in c.args.parts.now.runtime c.args.originals.now in
    let s = state_of c.args.initializing.now c.args.parts.now in
    follows-in c.follow.result w (setup_in c.attempt.new.parts.runtime c.attempt.new.originals) c.args.depth c.args.passed.now c.follow.new.passed
    (state_of c.attempt.new.initializing c.attempt.new.parts) (attempts_on w s s.stack) (state_of c.follow.new.initializing c.follow.new.parts)
    (same-setup c.args.parts.now.runtime c.attempt.new.parts.runtime c.args.originals.now c.attempt.new.originals c.in_ok-attempt.ensures.world c.in_ok-attempt.ensures.versions)
    c.in_ok-attempt.ensures.state c.follow.ensures.reaches

pub returns-clause-known : goal.returns-clause-known
returns-clause-known c =
    on-either c.follow.result
    (names-kept c.attempt.new.originals c.attempt.new.parts.runtime c.follow.new.parts.runtime c.follow.ensures.world c.follow.ensures.same_loaded c.in_ok-attempt.ensures.known)
