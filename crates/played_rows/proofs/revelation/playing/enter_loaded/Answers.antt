use Rattle.std.proofs.Common.{refl, sym, ◌∙◌}
use Rattle.played_rows.specs.declared.revelation.item.Happening.TheVariants.{Entered}
use Rattle.played_rows.proofs.RevelationLemmas.RowLemmas.{cannot-happen, goes-on-as}
use Rattle.played_rows.proofs.revelation.playing.enter_loaded.Goals as goal

pub returns-then-not-has_class : goal.returns-then-not-has_class
returns-then-not-has_class g c =
    let l = c.args.scene.now.linker in
    cannot-happen (Entered c.args.method c.args.times) l c.args.scene.now.reveal
    (sym c.has_class.ensures ∙ c.if-not-has_class.true)

pub returns : goal.returns
returns g c =
    let l = c.args.scene.now.linker in
    goes-on-as (Entered c.args.method c.args.times) (Entered c.args.method c.args.times) l c.args.scene.now.reveal c.enter.new.scene.linker c.enter.new.scene.reveal refl
    c.in_ok-enter.ensures
    (sym c.has_class.ensures ∙ c.if-not-has_class.false)
