use Rattle.prepared_code.specs.Originals.{setup_in}
use Rattle.activations.proofs.MainFrames.{main_frame}
use Rattle.activations.proofs.settling.begin_frame.Goals as goal

pub returns-clause-frames : goal.returns-clause-frames
returns-clause-frames c =
    main_frame (setup_in c.args.runtime.now c.args.originals.now) c.args.main c.max_locals-max_locals.result c.max_stack-max_stack.result c.args.frames.now c.reserve.new.self c.enter.new.frames
    c.set_local.new.self c.enter.result c.set_local.result c.requires.main c.max_locals-max_locals.ensures c.max_stack-max_stack.ensures c.if-max_locals-eq0.false
    c.requires.none c.in_ok-reserve.ensures.ok c.enter.ensures.answer c.enter.ensures.frames c.set_local.ensures.answer c.set_local.ensures.frames
