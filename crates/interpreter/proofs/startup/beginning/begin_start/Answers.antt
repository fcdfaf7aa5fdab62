use Rattle.std.proofs.Common.{sym, ap, ◌∙◌}
use Rattle.std.proofs.lemmas.Result.{on_ok_weaker}
use Rattle.jvm_model.specs.Basis.SharedState.{arguments_fit}
use Rattle.prepared_code.specs.Originals.{setup_in}
use Rattle.interpreter.proofs.Loads.StartLoads.{begun-loads, begun-none}
use Rattle.interpreter.proofs.startup.beginning.begin_start.Goals as goal

pub returns-then-arguments_fit-clause-loads : goal.returns-then-arguments_fit-clause-loads
returns-then-arguments_fit-clause-loads c =
    on_ok_weaker c.load_main.result
    (begun-loads (setup_in c.args.parts.now.runtime c.args.originals.now) c.args.initializing.now c.load_main.new.initializing c.args.parts.now c.load_main.new.parts
    (sym (ap arguments_fit c.program.ensures.program) ∙ (sym c.arguments_fit.ensures ∙ c.if-arguments_fit.true)) c.requires.at_start.before)
    c.load_main.ensures.state

pub returns-clause-loads : goal.returns-clause-loads
returns-clause-loads c =
    begun-none (setup_in c.args.parts.now.runtime c.args.originals.now) c.args.parts.now.runtime.shared.loaded
    (sym (ap arguments_fit c.program.ensures.program) ∙ (sym c.arguments_fit.ensures ∙ c.if-arguments_fit.false))
