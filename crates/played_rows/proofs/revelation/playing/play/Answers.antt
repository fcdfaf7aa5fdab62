use Rattle.std.proofs.Common.{subst, sym}
use Rattle.std.specs.Prelude.{IfOk}
use Rattle.played_rows.specs.declared.revelation.item.Item.{Item}
use Rattle.played_rows.specs.Revelation.Scenes.{ComesTo}
use Rattle.played_rows.proofs.revelation.playing.play.Goals as goal

pub returns-in-Happens : goal.returns-in-Happens
returns-in-Happens g c =
    let old = c.args.scene.now in
    let new = c.happen.new.scene in
    subst (λ (i : Item). IfOk c.happen.result (ComesTo i old.linker old.reveal new.linker new.reveal)) (sym c.in-Happens.is) c.happen.ensures

pub returns-in-Is : goal.returns-in-Is
returns-in-Is g c =
    let old = c.args.scene.now in
    subst (λ (i : Item). IfOk c.look.result (ComesTo i old.linker old.reveal old.linker c.look.new.reveal)) (sym c.in-Is.is) c.look.ensures
