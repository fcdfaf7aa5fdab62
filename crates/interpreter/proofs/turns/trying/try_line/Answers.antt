use Rattle.std.proofs.Common.{sym, subst, ◌∙◌}
use Rattle.prepared_code.specs.Initializations.{state_of}
use Rattle.prepared_code.specs.Ready.{CanRun}
use Rattle.activations.specs.Turning.{pause_at}
use Rattle.prepared_code.specs.Originals.{setup_in}
use Rattle.interpreter.proofs.Moves.Behind.{none-there}
use Rattle.prepared_code.proofs.Lines.KnownNames.{names-kept}
use Rattle.instructions.proofs.Attempts.NamedAttempts.{same-setup}
use Rattle.interpreter.proofs.Moves.TriedSteps.{line-no-more, line-once, line-sound, line-twice, line-executing}
use Rattle.interpreter.proofs.turns.trying.try_line.Goals as goal

pub attempt_loaded-requires-clause-executing : goal.attempt_loaded-requires-clause-executing
attempt_loaded-requires-clause-executing c = none-there c.args.initializing.now c.args.parts.now c.requires.goes

pub returns-in_default-awaited-clause-reaches : goal.returns-in_default-awaited-clause-reaches
returns-in_default-awaited-clause-reaches c =
    line-once (setup_in c.args.parts.now.runtime c.args.originals.now) (setup_in c.attempt_loaded.new.parts.runtime c.attempt_loaded.new.originals)
    (same-setup c.args.parts.now.runtime c.attempt_loaded.new.parts.runtime c.args.originals.now c.attempt_loaded.new.originals c.in_ok-awaited.ensures.world c.in_ok-awaited.ensures.versions) c.requires.fit c.args.initializing.now c.args.parts.now c.requires.goes
    c.args.passed.now c.depth-depth.result c.depth-depth.ensures c.in_ok-awaited.field-0 c.in-Some.awaited c.in-Some.is (state_of c.attempt_loaded.new.initializing c.attempt_loaded.new.parts)
    c.in_ok-awaited.ensures.some c.in_ok-awaited.ensures.answer c.in_ok-awaited.ensures.state c.follow.new.initializing c.follow.new.parts c.follow.new.passed c.in_ok-due.due
    c.in_ok-due.ensures.reaches
    c.in_default-awaited.is

pub returns-then-not-tries_again-clause-reaches : goal.returns-then-not-tries_again-clause-reaches
returns-then-not-tries_again-clause-reaches c =
    line-no-more (setup_in c.args.parts.now.runtime c.args.originals.now) (setup_in c.attempt_loaded.new.parts.runtime c.attempt_loaded.new.originals)
    (same-setup c.args.parts.now.runtime c.attempt_loaded.new.parts.runtime c.args.originals.now c.attempt_loaded.new.originals c.in_ok-awaited.ensures.world c.in_ok-awaited.ensures.versions) c.requires.fit c.args.initializing.now c.args.parts.now c.requires.goes
    c.args.passed.now c.depth-depth.result c.depth-depth.ensures c.in_ok-awaited.field-0 c.in-Some.awaited c.in-Some.is (state_of c.attempt_loaded.new.initializing c.attempt_loaded.new.parts)
    c.in_ok-awaited.ensures.some c.in_ok-awaited.ensures.answer c.in_ok-awaited.ensures.state c.follow.new.initializing c.follow.new.parts c.follow.new.passed c.in_ok-due.due
    c.in_ok-due.ensures.reaches
    c.in-Some-awaited.class c.in-Some-awaited.is
    (sym c.if-not-tries_again.ensures)

pub try_again-requires-clause-known : goal.try_again-requires-clause-known
try_again-requires-clause-known c =
    names-kept c.attempt_loaded.new.originals c.attempt_loaded.new.parts.runtime c.follow.new.parts.runtime c.in_ok-due.ensures.world c.in_ok-due.ensures.same_loaded
    c.in_ok-awaited.ensures.known

pub try_again-requires-clause-fit : goal.try_again-requires-clause-fit
try_again-requires-clause-fit c =
    subst CanRun
    (sym (same-setup c.args.parts.now.runtime c.follow.new.parts.runtime c.args.originals.now c.attempt_loaded.new.originals (c.in_ok-due.ensures.world ∙ c.in_ok-awaited.ensures.world)
    c.in_ok-awaited.ensures.versions))
    c.requires.fit

pub try_again-requires-clause-sound : goal.try_again-requires-clause-sound
try_again-requires-clause-sound c =
    line-sound (setup_in c.args.parts.now.runtime c.args.originals.now) (setup_in c.attempt_loaded.new.parts.runtime c.attempt_loaded.new.originals)
    (same-setup c.args.parts.now.runtime c.attempt_loaded.new.parts.runtime c.args.originals.now c.attempt_loaded.new.originals c.in_ok-awaited.ensures.world c.in_ok-awaited.ensures.versions) c.requires.fit c.args.initializing.now c.args.parts.now c.requires.goes
    c.args.passed.now c.depth-depth.result c.depth-depth.ensures c.in_ok-awaited.field-0 c.in-Some.awaited c.in-Some.is (state_of c.attempt_loaded.new.initializing c.attempt_loaded.new.parts)
    c.in_ok-awaited.ensures.some c.in_ok-awaited.ensures.answer c.in_ok-awaited.ensures.state c.follow.new.initializing c.follow.new.parts c.follow.new.passed c.in_ok-due.due
    c.in_ok-due.ensures.reaches
    c.in-Some-awaited.class c.in-Some-awaited.is (setup_in c.follow.new.parts.runtime c.attempt_loaded.new.originals)
    (same-setup c.args.parts.now.runtime c.follow.new.parts.runtime c.args.originals.now c.attempt_loaded.new.originals (c.in_ok-due.ensures.world ∙ c.in_ok-awaited.ensures.world)
    c.in_ok-awaited.ensures.versions)
    (sym c.if-not-tries_again.ensures) c.requires.sound

pub try_again-requires-clause-executing : goal.try_again-requires-clause-executing
try_again-requires-clause-executing c =
    line-executing (setup_in c.args.parts.now.runtime c.args.originals.now) (setup_in c.attempt_loaded.new.parts.runtime c.attempt_loaded.new.originals)
    (same-setup c.args.parts.now.runtime c.attempt_loaded.new.parts.runtime c.args.originals.now c.attempt_loaded.new.originals c.in_ok-awaited.ensures.world c.in_ok-awaited.ensures.versions) c.requires.fit c.args.initializing.now c.args.parts.now c.requires.goes
    c.args.passed.now c.depth-depth.result c.depth-depth.ensures c.in_ok-awaited.field-0 c.in-Some.awaited c.in-Some.is (state_of c.attempt_loaded.new.initializing c.attempt_loaded.new.parts)
    c.in_ok-awaited.ensures.some c.in_ok-awaited.ensures.answer c.in_ok-awaited.ensures.state c.follow.new.initializing c.follow.new.parts c.follow.new.passed c.in_ok-due.due
    c.in_ok-due.ensures.reaches
    c.in-Some-awaited.class c.in-Some-awaited.is (setup_in c.follow.new.parts.runtime c.attempt_loaded.new.originals)
    (same-setup c.args.parts.now.runtime c.follow.new.parts.runtime c.args.originals.now c.attempt_loaded.new.originals (c.in_ok-due.ensures.world ∙ c.in_ok-awaited.ensures.world)
    c.in_ok-awaited.ensures.versions)
    (sym c.if-not-tries_again.ensures)

pub returns-clause-reaches : goal.returns-clause-reaches
returns-clause-reaches c =
    line-twice (setup_in c.args.parts.now.runtime c.args.originals.now) (setup_in c.attempt_loaded.new.parts.runtime c.attempt_loaded.new.originals)
    (same-setup c.args.parts.now.runtime c.attempt_loaded.new.parts.runtime c.args.originals.now c.attempt_loaded.new.originals c.in_ok-awaited.ensures.world c.in_ok-awaited.ensures.versions) c.requires.fit c.args.initializing.now c.args.parts.now c.requires.goes
    c.args.passed.now c.depth-depth.result c.depth-depth.ensures c.in_ok-awaited.field-0 c.in-Some.awaited c.in-Some.is (state_of c.attempt_loaded.new.initializing c.attempt_loaded.new.parts)
    c.in_ok-awaited.ensures.some c.in_ok-awaited.ensures.answer c.in_ok-awaited.ensures.state c.follow.new.initializing c.follow.new.parts c.follow.new.passed c.in_ok-due.due
    c.in_ok-due.ensures.reaches
    c.in-Some-awaited.class c.in-Some-awaited.is (setup_in c.follow.new.parts.runtime c.attempt_loaded.new.originals)
    (same-setup c.args.parts.now.runtime c.follow.new.parts.runtime c.args.originals.now c.attempt_loaded.new.originals (c.in_ok-due.ensures.world ∙ c.in_ok-awaited.ensures.world)
    c.in_ok-awaited.ensures.versions)
    (sym c.if-not-tries_again.ensures)
    (pause_at (state_of c.try_again.new.initializing c.try_again.new.parts) c.try_again.new.passed c.in_ok-due-2.due) c.in_ok-due-2.ensures.reaches

pub returns-in_default-awaited-clause-known : goal.returns-in_default-awaited-clause-known
returns-in_default-awaited-clause-known c =
    names-kept c.attempt_loaded.new.originals c.attempt_loaded.new.parts.runtime c.follow.new.parts.runtime c.in_ok-due.ensures.world c.in_ok-due.ensures.same_loaded
    c.in_ok-awaited.ensures.known

pub returns-then-not-tries_again-clause-known : goal.returns-then-not-tries_again-clause-known
returns-then-not-tries_again-clause-known c =
    names-kept c.attempt_loaded.new.originals c.attempt_loaded.new.parts.runtime c.follow.new.parts.runtime c.in_ok-due.ensures.world c.in_ok-due.ensures.same_loaded
    c.in_ok-awaited.ensures.known
