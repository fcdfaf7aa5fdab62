use Rattle.std.proofs.Common.{refl, subst, sym}
use Rattle.std.specs.Prelude.{IfOk}
use Rattle.played_rows.specs.declared.revelation.item.Happening.{Happening}
use Rattle.played_rows.specs.declared.revelation.item.Happening.TheVariants.{Deselected, Loaded, Quiet, Selected, Shown}
use Rattle.played_rows.specs.declared.revelation.item.Item.TheVariants.{Happens}
use Rattle.played_rows.specs.Revelation.Scenes.{ComesTo}
use Rattle.played_rows.proofs.RevelationLemmas.RowLemmas.{goes-on-as}
use Rattle.played_rows.proofs.revelation.playing.happen.Goals as goal

pub returns-in_ok-load-in-Loaded : goal.returns-in_ok-load-in-Loaded
returns-in_ok-load-in-Loaded g c =
    goes-on-as c.args.happening.now (Loaded c.in-Loaded.name) c.args.scene.now.linker c.args.scene.now.reveal c.load.new.scene.linker c.load.new.scene.reveal c.in-Loaded.is
    c.in_ok-load-in-Loaded.ensures refl

pub returns-in-Entered : goal.returns-in-Entered
returns-in-Entered g c =
    let old = c.args.scene.now in
    let new = c.enter_loaded.new.scene in
    subst (λ (h : Happening). IfOk c.enter_loaded.result (ComesTo (Happens h) old.linker old.reveal new.linker new.reveal)) (sym c.in-Entered.is) c.enter_loaded.ensures

pub returns-in_ok-select-in-Selected : goal.returns-in_ok-select-in-Selected
returns-in_ok-select-in-Selected g c =
    goes-on-as c.args.happening.now (Selected c.in-Selected.method) c.args.scene.now.linker c.args.scene.now.reveal c.args.scene.now.linker c.select.new.reveal c.in-Selected.is
    c.in_ok-select-in-Selected.ensures refl

pub returns-in_ok-deselect-in-Deselected : goal.returns-in_ok-deselect-in-Deselected
returns-in_ok-deselect-in-Deselected g c =
    goes-on-as c.args.happening.now (Deselected c.in-Deselected.method) c.args.scene.now.linker c.args.scene.now.reveal c.args.scene.now.linker c.deselect.new.reveal c.in-Deselected.is
    c.in_ok-deselect-in-Deselected.ensures refl

pub returns-in_ok-quiet-in-Quiet : goal.returns-in_ok-quiet-in-Quiet
returns-in_ok-quiet-in-Quiet g c =
    goes-on-as c.args.happening.now Quiet c.args.scene.now.linker c.args.scene.now.reveal c.args.scene.now.linker c.quiet.new.reveal c.in-Quiet.is
    c.in_ok-quiet-in-Quiet.ensures refl

pub returns-in_ok-show-in-Shown : goal.returns-in_ok-show-in-Shown
returns-in_ok-show-in-Shown g c =
    goes-on-as c.args.happening.now Shown c.args.scene.now.linker c.args.scene.now.reveal c.args.scene.now.linker c.show.new.reveal c.in-Shown.is
    c.in_ok-show-in-Shown.ensures refl
