use Rattle.std.proofs.Common.{sym, ap, ◌∙◌}
use Rattle.jvm_model.specs.Turns.InHand.{frame_popped}
use Rattle.prepared_code.specs.Initializations.{state_of}
use Rattle.activations.proofs.TurnsCarried.{popped-there}
use Rattle.interpreter.proofs.turns.pausing.take_off.Goals as goal

pub returns-in-Some-clause-state : goal.returns-in-Some-clause-state
returns-in-Some-clause-state c = sym (ap frame_popped c.in-Some.ensures)

pub returns-in-None-clause-state : goal.returns-in-None-clause-state
returns-in-None-clause-state c =
    ap (λ ms. state_of ms (record c.args.parts.now { frames = c.leave.new.self })) c.in-None.ensures.0
    ∙ popped-there c.args.initializing.now c.args.parts.now c.leave.new.self c.in-None.ensures.1 c.leave.ensures.frames
