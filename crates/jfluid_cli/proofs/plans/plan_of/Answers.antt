use Rattle.std.proofs.lemmas.Result.{IfOk-weaker}
use Rattle.command_line.specs.Words.{text}
use Rattle.jfluid_cli.proofs.Actions.Alternating.{own-fine, plan-fine}
use Rattle.jfluid_cli.proofs.plans.plan_of.Goals as goal

pub returns-in-Some-clause-alternate : goal.returns-in-Some-clause-alternate
returns-in-Some-clause-alternate g c =
    IfOk-weaker c.told_plan.result _ _ (λ plan is. plan-fine is.0 plan is.2) c.told_plan.ensures.planned

pub returns-in-None-clause-alternate : goal.returns-in-None-clause-alternate
returns-in-None-clause-alternate g c =
    IfOk-weaker c.plan_of_root.result _ _ (λ plan is. own-fine (text c.args.words.now.root) plan is) c.plan_of_root.ensures.planned
