use Rattle.std.proofs.Common.{◌≡◌, sym, subst, ◌∙◌}
use Rattle.std.specs.Prelude.{IfOk}
use Rattle.std.specs.Option.{IfSome}
use Rattle.prepared_code.specs.Initializations.{state_of}
use Rattle.activations.specs.Turning.{pause_at}
use Rattle.prepared_code.specs.Originals.{setup_in}
use Rattle.interpreter.proofs.Moves.TriedSteps.{leaves-loads, leaves-pause, stopped-loads, stopped-pause, tries-silently}
use Rattle.interpreter.proofs.turns.trying.go_by_attempt.Goals as goal

-- no frame goes on
pub returns-then-not-goes_on-clause-some : goal.returns-then-not-goes_on-clause-some
returns-then-not-goes_on-clause-some c =
    stopped-loads (setup_in c.args.parts.now.runtime c.args.originals.now) c.args.delivered c.args.passed.now c.args.initializing.now c.args.parts.now (sym c.goes_on.ensures ∙ c.if-not-goes_on.true)

pub returns-then-not-goes_on-clause-reaches : goal.returns-then-not-goes_on-clause-reaches
returns-then-not-goes_on-clause-reaches c =
    stopped-pause (setup_in c.args.parts.now.runtime c.args.originals.now) c.args.delivered c.args.passed.now c.args.initializing.now c.args.parts.now (sym c.goes_on.ensures ∙ c.if-not-goes_on.true)

-- a return is told first
pub returns-then-tells_leave-clause-some : goal.returns-then-tells_leave-clause-some
returns-then-tells_leave-clause-some c =
    leaves-loads (setup_in c.args.parts.now.runtime c.args.originals.now) c.args.delivered c.args.passed.now c.args.initializing.now c.args.parts.now
    c.requires.fit (sym c.goes_on.ensures ∙ c.if-not-goes_on.false) (sym c.tells_leave.ensures ∙ c.if-tells_leave.true)

pub returns-then-tells_leave-clause-reaches : goal.returns-then-tells_leave-clause-reaches
returns-then-tells_leave-clause-reaches c =
    leaves-pause (setup_in c.args.parts.now.runtime c.args.originals.now) c.args.delivered c.args.passed.now c.args.initializing.now c.args.parts.now
    c.requires.fit (sym c.goes_on.ensures ∙ c.if-not-goes_on.false) (sym c.tells_leave.ensures ∙ c.if-tells_leave.true)

pub returns-clause-reaches : goal.returns-clause-reaches
returns-clause-reaches c =
    subst (λ x. IfOk c.try_line.result (λ o. IfSome o (λ due. pause_at (state_of c.try_line.new.initializing c.try_line.new.parts) c.try_line.new.passed due ≡ x)))
    (tries-silently (setup_in c.args.parts.now.runtime c.args.originals.now) c.args.delivered c.args.passed.now c.args.initializing.now c.args.parts.now
    c.requires.fit (sym c.goes_on.ensures ∙ c.if-not-goes_on.false) (sym c.tells_leave.ensures ∙ c.if-tells_leave.false))
    c.try_line.ensures.reaches
