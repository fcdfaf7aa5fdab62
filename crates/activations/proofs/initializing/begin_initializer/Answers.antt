use Rattle.prepared_code.specs.Originals.{setup_in}
use Rattle.activations.proofs.InitializerFrames.{begins-on}
use Rattle.activations.proofs.initializing.begin_initializer.Goals as goal

pub returns-clause-state : goal.returns-clause-state
returns-clause-state c =
    begins-on (setup_in c.args.parts.now.runtime c.args.originals.now) c.args.initializing.now c.args.parts.now c.args.method c.max_locals-max_locals.result c.max_stack-max_stack.result c.reserve.new.self c.enter.new.frames
    c.enter.result c.max_locals-max_locals.ensures c.max_stack-max_stack.ensures c.in_ok-reserve.ensures.ok c.enter.ensures.answer c.enter.ensures.frames c.requires.below
