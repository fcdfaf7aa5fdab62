use Rattle.std.proofs.Common.{refl}
use Rattle.played_rows.specs.declared.revelation.item.Happening.TheVariants.{Deselected}
use Rattle.played_rows.proofs.RevelationLemmas.HappeningLemmas.{if-happened}
use Rattle.played_rows.proofs.revelation.scenes.deselect.Goals as goal

pub returns : goal.returns
returns c =
    if-happened (Deselected c.args.method) c.args.linker.now c.args.reveal.now c.deselected.new.self c.deselected.result c.requires
    (c.deselected.ensures.revelation c.args.linker.now.program c.requires.along.revelation) refl refl c.deselected.ensures.now c.deselected.ensures.shown
