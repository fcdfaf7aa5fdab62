use Rattle.std.proofs.Common.{refl}
use Rattle.played_rows.specs.declared.revelation.item.Happening.TheVariants.{Selected}
use Rattle.played_rows.proofs.RevelationLemmas.HappeningLemmas.{if-happened}
use Rattle.played_rows.proofs.revelation.scenes.select.Goals as goal

pub returns : goal.returns
returns c =
    if-happened (Selected c.args.method) c.args.linker.now c.args.reveal.now c.selected.new.self c.selected.result c.requires
    (c.selected.ensures.revelation c.args.linker.now.program c.requires.along.revelation) refl refl c.selected.ensures.now c.selected.ensures.shown
