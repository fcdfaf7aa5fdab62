use Rattle.std.proofs.lemmas.Result.{on_ok_weaker}
use Rattle.prepared_code.proofs.Initializing.InitializingParts.{not-taken}
use Rattle.prepared_code.specs.Originals.{setup_in}
use Rattle.activations.proofs.TurnsCarried.{carried-as, carried-to}
use Rattle.activations.proofs.turning.make_move.Goals as goal

pub returns-in_default-clause-answer : goal.returns-in_default-clause-answer
returns-in_default-clause-answer c =
    let none = not-taken c.take_initialization.result c.args.parts.now c.args.initializing.now c.take_initialization.new.initializing c.take_initialization.ensures c.in_default.is in
    carried-as c.args.initializing.now (setup_in c.args.parts.now.runtime c.args.originals.now) c.args.parts.now none.1 c.move_frame.result c.move_frame.ensures.answer

pub returns-in_default-clause-state : goal.returns-in_default-clause-state
returns-in_default-clause-state c =
    let none = not-taken c.take_initialization.result c.args.parts.now c.args.initializing.now c.take_initialization.new.initializing c.take_initialization.ensures c.in_default.is in
    on_ok_weaker c.move_frame.result
    (carried-to c.args.initializing.now (setup_in c.args.parts.now.runtime c.args.originals.now) c.args.parts.now none.1 c.take_initialization.new.initializing c.move_frame.new.parts none.0)
    c.move_frame.ensures.state
