use Rattle.std.proofs.Common.{sym, ap, ◌∙◌}
use Rattle.prepared_code.specs.Initializations.{initialization_on}
use Rattle.prepared_code.proofs.Initializing.InitializingParts.{taken}
use Rattle.prepared_code.proofs.initializations.take_initialization.Goals as goal

pub returns : goal.returns
returns c =
    taken c.args.parts.now c.args.initializing.now c.pop.new.self c.pop.result c.pop.ensures c.in_ok-initialization.initialization
    (sym (ap (λ n. initialization_on n c.args.initializing.now) c.depth.ensures) ∙ (sym c.initialization_on.ensures ∙ c.in_ok-initialization.was))
