use Rattle.std.proofs.Common.{refl}
use Rattle.played_rows.specs.declared.revelation.item.Happening.TheVariants.{Quiet}
use Rattle.played_rows.proofs.RevelationLemmas.HappeningLemmas.{if-happened}
use Rattle.played_rows.proofs.revelation.scenes.quiet.Goals as goal

pub returns : goal.returns
returns c =
    let p = c.args.linker.now.program in
    if-happened Quiet c.args.linker.now c.args.reveal.now c.quiet.new.self c.quiet.result c.requires
    (c.quiet.ensures.revelation p c.requires.along.revelation) refl refl (c.quiet.ensures.now p c.requires.along.revelation) c.quiet.ensures.shown
