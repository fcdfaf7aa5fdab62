-- The command has the arguments of the definition, one after the other.
use Rattle.std.proofs.Common.{ap₂, ◌∙◌}
use Rattle.std.proofs.lemmas.Result.{IfOk-weaker}
use Rattle.clap.specs.Words.{with_rule}
use Rattle.command_line.proofs.described.command_described.Goals as goal

pub returns : goal.returns
returns c =
    let main = c.in_ok-command.ensures ∙ ap₂ with_rule c.command_named.ensures c.option-main.ensures.rule in
    let root = c.in_ok-command-2.ensures ∙ ap₂ with_rule main c.option-root.ensures.rule in
    let budget = c.in_ok-command-3.ensures ∙ ap₂ with_rule root c.option-budget.ensures.rule in
    let plan = c.in_ok-command-4.ensures ∙ ap₂ with_rule budget c.option-plan.ensures.rule in
    let seed = c.in_ok-command-5.ensures ∙ ap₂ with_rule plan c.option-seed.ensures.rule in
    let size = c.in_ok-command-6.ensures ∙ ap₂ with_rule seed c.option-size.ensures.rule in
    let images = c.in_ok-command-7.ensures ∙ ap₂ with_rule size c.flag-images.ensures.rule in
    IfOk-weaker c.with_arg-8.result _ _ (λ more is. is ∙ ap₂ with_rule images c.files.ensures.rule) c.with_arg-8.ensures
