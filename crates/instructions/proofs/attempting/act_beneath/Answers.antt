use Rattle.std.proofs.Common.{◌-◌, length, sym, ap, ◌∙◌}
use Rattle.std.specs.Prelude.{is_some}
use Rattle.std.proofs.lemmas.Result.{on_ok_weaker}
use Rattle.prepared_code.specs.Initializations.{initialization_on}
use Rattle.prepared_code.specs.Originals.{setup_in}
use Rattle.instructions.proofs.Initializing.Beneath.{does-beneath}
use Rattle.activations.proofs.CatchLemmas.{not-some}
use Rattle.instructions.proofs.attempting.act_beneath.Goals as goal

pub act_initializer-requires-clause-beneath : goal.act_initializer-requires-clause-beneath
act_initializer-requires-clause-beneath c =
    ap (λ n. is_some (initialization_on (n - 1) c.args.initializing.now)) (sym c.depth.ensures) ∙ (ap is_some (sym c.initialization_on.ensures) ∙ (sym c.is_some.ensures ∙ c.if-is_some.true))

pub returns-else-is_some-clause-state : goal.returns-else-is_some-clause-state
returns-else-is_some-clause-state c =
    on_ok_weaker c.act.result
    (λ e. does-beneath (setup_in c.args.parts.now.runtime c.args.originals.now) c.args.line.now c.args.initializing.now c.args.parts.now c.act.new.parts c.args.method c.args.parts.now.frames.frames c.requires.top
    c.requires.executing c.requires.alone
    (λ ends. not-some (initialization_on (length c.args.parts.now.frames.frames - 1) c.args.initializing.now)
    (ap (λ n. is_some (initialization_on (n - 1) c.args.initializing.now)) (sym c.depth.ensures) ∙ (ap is_some (sym c.initialization_on.ensures) ∙ (sym c.is_some.ensures ∙ c.if-is_some.false)))) e)
    c.act.ensures.state
