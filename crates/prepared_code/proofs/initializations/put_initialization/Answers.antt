use Rattle.prepared_code.proofs.Initializing.InitializingParts.{marked-at, marked-below}
use Rattle.prepared_code.proofs.initializations.put_initialization.Goals as goal

pub returns-clause-state : goal.returns-clause-state
returns-clause-state c =
    marked-at c.args.parts.now c.args.initializing.now c.push.new.self (record { class = c.args.class; part = c.args.part; depth = c.depth-depth.result }) c.depth-depth.ensures
    c.in_ok-push.ensures.items

pub returns-clause-below : goal.returns-clause-below
returns-clause-below c =
    marked-below c.args.parts.now c.args.initializing.now c.push.new.self (record { class = c.args.class; part = c.args.part; depth = c.depth-depth.result }) c.depth-depth.ensures
    c.in_ok-push.ensures.items
