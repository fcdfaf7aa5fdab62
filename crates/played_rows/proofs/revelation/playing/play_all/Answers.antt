use Rattle.std.proofs.Common.{subst}
use Rattle.played_rows.specs.Revelation.Rows.{first}
use Rattle.played_rows.specs.Revelation.Scenes.{ComesTo}
use Rattle.played_rows.proofs.RevelationLemmas.RowLemmas.{comes-none, comes-some, going-first, going-next}
use Rattle.played_rows.proofs.revelation.playing.play_all.Goals as goal

pub play-requires : goal.play-requires
play-requires g c = c.loop-item.invariant.ready

pub loop-item-init : goal.loop-item-init
loop-item-init g c = going-first c.args.items.now c.args.scene.now.linker c.args.scene.now.reveal c.requires

pub loop-item-preserved : goal.loop-item-preserved
loop-item-preserved g c =
    let start = c.args.scene.now.linker in
    let old = c.loop-item.scene in
    let new = c.play.new.scene in
    let item = c.item-item.result in
    going-next start.program c.args.items.now (first start.loaded) old.linker old.reveal new.linker new.reveal c.loop-item.item-index item c.loop-item-test.true
    c.item-item.is c.loop-item.invariant (subst (ComesTo item old.linker old.reveal new.linker new.reveal) c.in_default.is c.in_ok-difference.ensures)

pub returns-in-Some : goal.returns-in-Some
returns-in-Some g c =
    let start = c.args.scene.now.linker in
    let old = c.loop-item.scene in
    let new = c.play.new.scene in
    let item = c.item-item.result in
    comes-some start.program c.args.items.now (first start.loaded) old.linker old.reveal c.loop-item.item-index item c.in-Some.difference c.loop-item-test.true
    c.item-item.is c.loop-item.invariant (subst (ComesTo item old.linker old.reveal new.linker new.reveal) c.in-Some.is c.in_ok-difference.ensures)

pub returns : goal.returns
returns g c =
    let start = c.args.scene.now.linker in
    comes-none start.program c.args.items.now (first start.loaded) c.loop-item.scene.linker c.loop-item.scene.reveal c.loop-item.item-index c.loop-item-test.false
    c.loop-item.invariant
