use Rattle.std.proofs.Common.{◌≡◌, sym, subst, ◌∙◌}
use Rattle.std.specs.Prelude.{IfOk}
use Rattle.prepared_code.specs.Initializations.{state_of}
use Rattle.activations.specs.Turning.{pause_at}
use Rattle.prepared_code.specs.Originals.{setup_in}
use Rattle.interpreter.proofs.Moves.Followed.{follows-on, follows-told}
use Rattle.interpreter.proofs.turns.trying.follow.Goals as goal

pub returns-then-enters-clause-reaches : goal.returns-then-enters-clause-reaches
returns-then-enters-clause-reaches c =
    follows-told (setup_in c.args.parts.now.runtime c.args.originals.now) c.args.depth c.args.passed.now c.args.initializing.now c.args.parts.now c.in_ok-passed.field-0 c.in_ok-passed.ensures
    (sym c.enters.ensures ∙ c.if-enters.true)

pub returns-clause-reaches : goal.returns-clause-reaches
returns-clause-reaches c =
    subst (λ x. IfOk c.pause.result (λ due. pause_at (state_of c.pause.new.initializing c.pause.new.parts) c.pause.new.passed due ≡ x))
    (follows-on (setup_in c.args.parts.now.runtime c.args.originals.now) c.args.depth c.args.passed.now c.args.initializing.now c.args.parts.now c.in_ok-passed.field-0 c.in_ok-passed.ensures
    (sym c.enters.ensures ∙ c.if-enters.false))
    c.pause.ensures.state
