use Rattle.std.proofs.Common.{◌-◌, sym, ap, ◌∙◌}
use Rattle.prepared_code.specs.Initializations.{initialization_on}
use Rattle.prepared_code.specs.Originals.{setup_in}
use Rattle.activations.proofs.CatchLemmas.{not-some, catches-there}
use Rattle.activations.proofs.catching.caught_below.Goals as goal

pub returns : goal.returns
returns c =
    catches-there (setup_in c.args.runtime.now c.args.originals.now) c.args.initializing.now c.args.here c.args.frames.now.frames c.args.class c.in-Some.version c.in-Some.place
    c.handler_for-2.result c.handler_for-2.ensures (sym c.caller.ensures ∙ c.in-Some.is)
    (sym c.handler_for.ensures ∙ not-some c.handler_for.result (sym c.is_some-2.ensures ∙ c.if-is_some-2.false))
    (ap (λ n. initialization_on (n - 1) c.args.initializing.now) (sym c.depth-depth.ensures) ∙ (sym c.initialization_on.ensures ∙ not-some c.initialization_on.result (sym c.is_some.ensures ∙ c.if-is_some.false)))
    (sym c.mark.ensures ∙ c.is_off.ensures c.if-not-is_off.false) (c.is_current.ensures c.if-not-is_current.false)
