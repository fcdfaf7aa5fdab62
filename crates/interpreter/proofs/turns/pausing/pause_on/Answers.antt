use Rattle.std.proofs.Common.{sym, ap, ◌∙◌}
use Rattle.jvm_model.specs.declared.due.Due.TheVariants.{Nothing, Ends, Begins}
use Rattle.jvm_model.specs.declared.event.EventKind.TheVariants.{Unwind}
use Rattle.activations.specs.declared.turning.Moved.TheVariants as moved
use Rattle.prepared_code.specs.Initializations.{state_of}
use Rattle.activations.specs.Turning.{pause_at, paused_in}
use Rattle.prepared_code.specs.Originals.{setup_in}
use Rattle.interpreter.proofs.Moves.OneMove.{moves-as}
use Rattle.interpreter.proofs.turns.pausing.pause_on.Goals as goal

pub loop-passed-smaller-in-On : goal.loop-passed-smaller-in-On
loop-passed-smaller-in-On c =
    (moves-as c.args.originals.now c.args.parts.now.runtime c.loop-passed.parts.runtime c.loop-passed.invariant.1 c.loop-passed.passed (state_of c.loop-passed.initializing c.loop-passed.parts) (state_of c.make_move.new.initializing c.make_move.new.parts)
    c.in_ok-make_move.field-0 moved.On c.in_ok-make_move.ensures.answer c.in_ok-make_move.ensures.state c.in-On.is).1

pub loop-passed-preserved-in-On : goal.loop-passed-preserved-in-On
loop-passed-preserved-in-On c = (
  (moves-as c.args.originals.now c.args.parts.now.runtime c.loop-passed.parts.runtime c.loop-passed.invariant.1 c.loop-passed.passed (state_of c.loop-passed.initializing c.loop-passed.parts) (state_of c.make_move.new.initializing c.make_move.new.parts)
      c.in_ok-make_move.field-0 moved.On c.in_ok-make_move.ensures.answer c.in_ok-make_move.ensures.state c.in-On.is).0
      ∙ c.loop-passed.invariant.0,
  c.in_ok-make_move.ensures.world ∙ c.loop-passed.invariant.1,
  c.in_ok-make_move.ensures.same_loaded ∙ c.loop-passed.invariant.2,
)

pub loop-passed-smaller : goal.loop-passed-smaller
loop-passed-smaller c =
    (moves-as c.args.originals.now c.args.parts.now.runtime c.loop-passed.parts.runtime c.loop-passed.invariant.1 c.loop-passed.passed (state_of c.loop-passed.initializing c.loop-passed.parts) (state_of c.make_move.new.initializing c.make_move.new.parts)
    c.in_ok-make_move.field-0 moved.Unwound c.in_ok-make_move.ensures.answer c.in_ok-make_move.ensures.state c.in-Unwound.is).1

pub loop-passed-preserved : goal.loop-passed-preserved
loop-passed-preserved c = (
  ap (λ k. paused_in (setup_in c.args.parts.now.runtime c.args.originals.now) k (state_of c.make_move.new.initializing c.make_move.new.parts)) c.in_ok-passed-in-Unwound.ensures
      ∙ ((moves-as c.args.originals.now c.args.parts.now.runtime c.loop-passed.parts.runtime c.loop-passed.invariant.1 c.loop-passed.passed (state_of c.loop-passed.initializing c.loop-passed.parts) (state_of c.make_move.new.initializing c.make_move.new.parts)
      c.in_ok-make_move.field-0 moved.Unwound c.in_ok-make_move.ensures.answer c.in_ok-make_move.ensures.state c.in-Unwound.is).0
      ∙ c.loop-passed.invariant.0),
  c.in_ok-make_move.ensures.world ∙ c.loop-passed.invariant.1,
  c.in_ok-make_move.ensures.same_loaded ∙ c.loop-passed.invariant.2,
)

pub returns-in-Unwinds-clause-state : goal.returns-in-Unwinds-clause-state
returns-in-Unwinds-clause-state c =
    let it = moves-as c.args.originals.now c.args.parts.now.runtime c.loop-passed.parts.runtime c.loop-passed.invariant.1 c.loop-passed.passed (state_of c.loop-passed.initializing c.loop-passed.parts) (state_of c.make_move.new.initializing c.make_move.new.parts)
    c.in_ok-make_move.field-0 moved.Unwinds c.in_ok-make_move.ensures.answer c.in_ok-make_move.ensures.state c.in-Unwinds.is in
    ap (λ s. pause_at s c.loop-passed.passed (Ends Unwind)) it.1 ∙ (sym it.0 ∙ c.loop-passed.invariant.0)

pub returns-in-Began-clause-state : goal.returns-in-Began-clause-state
returns-in-Began-clause-state c =
    ap (λ k. pause_at (state_of c.make_move.new.initializing c.make_move.new.parts) k Nothing) c.in_ok-passed-in-Began.ensures
    ∙ (sym (moves-as c.args.originals.now c.args.parts.now.runtime c.loop-passed.parts.runtime c.loop-passed.invariant.1 c.loop-passed.passed (state_of c.loop-passed.initializing c.loop-passed.parts) (state_of c.make_move.new.initializing c.make_move.new.parts)
    c.in_ok-make_move.field-0 moved.Began c.in_ok-make_move.ensures.answer c.in_ok-make_move.ensures.state c.in-Began.is)
    ∙ c.loop-passed.invariant.0)

pub returns-in-Enters-clause-state : goal.returns-in-Enters-clause-state
returns-in-Enters-clause-state c =
    ap (λ k. pause_at (state_of c.make_move.new.initializing c.make_move.new.parts) k Begins) c.in_ok-passed-in-Enters.ensures
    ∙ (sym (moves-as c.args.originals.now c.args.parts.now.runtime c.loop-passed.parts.runtime c.loop-passed.invariant.1 c.loop-passed.passed (state_of c.loop-passed.initializing c.loop-passed.parts) (state_of c.make_move.new.initializing c.make_move.new.parts)
    c.in_ok-make_move.field-0 moved.Enters c.in_ok-make_move.ensures.answer c.in_ok-make_move.ensures.state c.in-Enters.is)
    ∙ c.loop-passed.invariant.0)
