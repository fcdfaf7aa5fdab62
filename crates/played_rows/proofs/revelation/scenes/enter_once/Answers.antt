use Rattle.std.proofs.Common.{refl}
use Rattle.played_rows.specs.declared.revelation.item.Happening.TheVariants.{Entered}
use Rattle.played_rows.proofs.RevelationLemmas.HappeningLemmas.{class-next, if-happened}
use Rattle.played_rows.proofs.RevelationLemmas.SceneLemmas.{class-loaded, ready-ahead, within}
use Rattle.played_rows.proofs.revelation.scenes.enter_once.Goals as goal

pub entered-requires-clause-revelation : goal.entered-requires-clause-revelation
entered-requires-clause-revelation c = c.requires.ready.along.revelation

pub entered-requires-clause-ahead : goal.entered-requires-clause-ahead
entered-requires-clause-ahead c = ready-ahead c.args.linker.now c.args.reveal.now c.requires.ready

pub entered-requires-clause-method : goal.entered-requires-clause-method
entered-requires-clause-method c = within c.args.linker.now.program c.args.reveal.now.lineage.loaded c.args.method c.requires.class

pub entered-requires-clause-class : goal.entered-requires-clause-class
entered-requires-clause-class c = class-loaded c.args.linker.now.program c.args.reveal.now.lineage.loaded c.args.method c.requires.class

pub returns-clause-entered : goal.returns-clause-entered
returns-clause-entered c =
    if-happened (Entered c.args.method 1) c.args.linker.now c.args.reveal.now c.entered.new.self c.entered.result c.requires.ready
    c.entered.ensures.revelation refl refl c.entered.ensures.now c.entered.ensures.shown

pub returns-clause-class : goal.returns-clause-class
returns-clause-class c =
    class-next c.args.method c.args.linker.now.program c.args.reveal.now c.entered.new.self c.entered.result c.requires.class c.entered.ensures.now
