use Rattle.std.proofs.Common.{sym, ◌∙◌}
use Rattle.std.proofs.lemmas.Bool.{false≢true}
use Rattle.prepared_code.specs.Initializations.{state_of}
use Rattle.prepared_code.specs.Originals.{setup_in}
use Rattle.prepared_code.proofs.Lines.KnownNames.{names-kept}
use Rattle.interpreter.proofs.Moves.HandLaws.{attempt-sound, hands-on, moves-sound, reaches-attempt, reaches-moves, start-sound}
use Rattle.interpreter.proofs.turns.hands.go.Goals as goal

-- by moves
pub returns-then-hand-clause-known : goal.returns-then-hand-clause-known
returns-then-hand-clause-known c =
    names-kept c.args.originals.now c.args.parts.now.runtime c.go_by_moves.new.parts.runtime c.in_ok-due.ensures.world c.in_ok-due.ensures.same_loaded c.requires.known

pub returns-then-hand-clause-sound : goal.returns-then-hand-clause-sound
returns-then-hand-clause-sound c = λ is.
    moves-sound (setup_in c.args.parts.now.runtime c.args.originals.now) c.requires.fit (state_of c.args.initializing.now c.args.parts.now) (state_of c.go_by_moves.new.initializing c.go_by_moves.new.parts) c.args.hand.delivered c.args.hand.passed
    c.go_by_moves.new.passed c.in_ok-due.due c.in_ok-due.ensures.state is

pub returns-then-hand-clause-starts : goal.returns-then-hand-clause-starts
returns-then-hand-clause-starts c = λ moves undelivered start.
    start-sound (setup_in c.args.parts.now.runtime c.args.originals.now) c.requires.fit (state_of c.args.initializing.now c.args.parts.now) (state_of c.go_by_moves.new.initializing c.go_by_moves.new.parts) c.args.hand.delivered c.args.hand.passed
    c.go_by_moves.new.passed c.in_ok-due.due c.in_ok-due.ensures.state undelivered start

pub returns-then-hand-clause-hands : goal.returns-then-hand-clause-hands
returns-then-hand-clause-hands c = λ homes turn live has hand.
    hands-on (setup_in c.args.parts.now.runtime c.args.originals.now) homes has turn c.args.hand live (state_of c.args.initializing.now c.args.parts.now) hand c.gone_to.result (state_of c.go_by_moves.new.initializing c.go_by_moves.new.parts)
    (reaches-moves (setup_in c.args.parts.now.runtime c.args.originals.now) c.args.hand (state_of c.args.initializing.now c.args.parts.now) (state_of c.go_by_moves.new.initializing c.go_by_moves.new.parts) c.go_by_moves.new.passed c.in_ok-due.due c.gone_to.result c.gone_to.ensures.passed c.gone_to.ensures.due
    c.if-hand.true c.in_ok-due.ensures.state)

-- from an attempt
pub go_by_attempt-requires-clause-sound : goal.go_by_attempt-requires-clause-sound
go_by_attempt-requires-clause-sound c = c.requires.sound c.if-hand.false

pub returns-in_default-clause-starts : goal.returns-in_default-clause-starts
returns-in_default-clause-starts c = λ moves undelivered start. absurd (false≢true (sym c.if-hand.false ∙ moves))

pub returns-clause-starts : goal.returns-clause-starts
returns-clause-starts c = λ moves undelivered start. absurd (false≢true (sym c.if-hand.false ∙ moves))

pub returns-in_default-clause-sound : goal.returns-in_default-clause-sound
returns-in_default-clause-sound c = λ is.
    attempt-sound (setup_in c.args.parts.now.runtime c.args.originals.now) c.requires.fit (state_of c.args.initializing.now c.args.parts.now) (state_of c.go_by_attempt.new.initializing c.go_by_attempt.new.parts) c.in_ok-gone.gone c.args.hand.delivered c.args.hand.passed c.go_by_attempt.new.passed
    c.in_ok-gone.ensures.some c.in_ok-gone.ensures.reaches c.in_ok-gone.ensures.loads is

pub returns-clause-sound : goal.returns-clause-sound
returns-clause-sound c = λ is.
    attempt-sound (setup_in c.args.parts.now.runtime c.args.originals.now) c.requires.fit (state_of c.args.initializing.now c.args.parts.now) (state_of c.go_by_attempt.new.initializing c.go_by_attempt.new.parts) c.in_ok-gone.gone c.args.hand.delivered c.args.hand.passed c.go_by_attempt.new.passed
    c.in_ok-gone.ensures.some c.in_ok-gone.ensures.reaches c.in_ok-gone.ensures.loads is

pub returns-clause-hands : goal.returns-clause-hands
returns-clause-hands c = λ homes turn live has hand.
    hands-on (setup_in c.args.parts.now.runtime c.args.originals.now) homes has turn c.args.hand live (state_of c.args.initializing.now c.args.parts.now) hand c.gone_to-2.result (state_of c.go_by_attempt.new.initializing c.go_by_attempt.new.parts)
    (reaches-attempt (setup_in c.args.parts.now.runtime c.args.originals.now) c.args.hand (state_of c.args.initializing.now c.args.parts.now) (state_of c.go_by_attempt.new.initializing c.go_by_attempt.new.parts) c.go_by_attempt.new.passed c.in-Some.due c.gone_to-2.result c.gone_to-2.ensures.passed c.gone_to-2.ensures.due
    c.if-hand.false c.in_ok-gone.gone c.in-Some.is c.in_ok-gone.ensures.reaches)
