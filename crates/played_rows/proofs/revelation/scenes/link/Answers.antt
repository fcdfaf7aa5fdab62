use Rattle.std.proofs.Common.{ap, ◌∙◌}
use Rattle.class_linker.specs.Linkers.{loaded_by}
use Rattle.played_rows.proofs.RevelationLemmas.SceneLemmas.{linked}
use Rattle.played_rows.proofs.revelation.scenes.link.Goals as goal

pub returns-in-New-clause-linked : goal.returns-in-New-clause-linked
returns-in-New-clause-linked c = linked c.args.linker.now c.load.new.self c.load.result c.args.name.now c.load.ensures.loaded

pub returns-in-New-clause-loaded : goal.returns-in-New-clause-loaded
returns-in-New-clause-loaded c = c.load.ensures.loaded ∙ ap (λ r. loaded_by r c.args.name.now c.args.linker.now) c.in-New.is

pub returns-in-Already-clause-linked : goal.returns-in-Already-clause-linked
returns-in-Already-clause-linked c = linked c.args.linker.now c.load.new.self c.load.result c.args.name.now c.load.ensures.loaded

pub returns-in-Already-clause-loaded : goal.returns-in-Already-clause-loaded
returns-in-Already-clause-loaded c = c.load.ensures.loaded ∙ ap (λ r. loaded_by r c.args.name.now c.args.linker.now) c.in-Already.is

pub returns-in-Throws-clause-linked : goal.returns-in-Throws-clause-linked
returns-in-Throws-clause-linked c = linked c.args.linker.now c.load.new.self c.load.result c.args.name.now c.load.ensures.loaded

pub returns-in-Throws-clause-loaded : goal.returns-in-Throws-clause-loaded
returns-in-Throws-clause-loaded c = c.load.ensures.loaded ∙ ap (λ r. loaded_by r c.args.name.now c.args.linker.now) c.in-Throws.is
