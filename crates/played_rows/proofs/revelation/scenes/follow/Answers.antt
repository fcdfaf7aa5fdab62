use Rattle.played_rows.proofs.RevelationLemmas.HappeningLemmas.{if-followed}
use Rattle.played_rows.proofs.RevelationLemmas.SceneLemmas.{ready-ahead}
use Rattle.played_rows.proofs.revelation.scenes.follow.Goals as goal

pub loaded-requires-clause-revelation : goal.loaded-requires-clause-revelation
loaded-requires-clause-revelation c = c.requires.along.revelation

pub loaded-requires-clause-ahead : goal.loaded-requires-clause-ahead
loaded-requires-clause-ahead c = ready-ahead c.args.linker.now c.args.reveal.now c.requires

pub loaded-requires-clause-prefix : goal.loaded-requires-clause-prefix
loaded-requires-clause-prefix c = c.requires.along.prefix

pub loaded-requires-clause-order : goal.loaded-requires-clause-order
loaded-requires-clause-order c = c.requires.along.order

pub returns : goal.returns
returns c =
    if-followed c.args.linker.now c.args.reveal.now c.loaded.new.self c.loaded.result c.requires c.loaded.ensures.revelation c.loaded.ensures.now
    c.loaded.ensures.shown
