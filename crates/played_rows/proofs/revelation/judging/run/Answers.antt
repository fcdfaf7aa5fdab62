use Rattle.std.proofs.Common.{◌≡◌, false, subst}
use Rattle.class_linker.specs.Linkers.{LinkerView}
use Rattle.jvm_model.specs.Basis.KindNumbers.{user_count}
use Rattle.jvm_model.specs.Classes.Load.{is_among}
use Rattle.played_rows.specs.Revelation.Rows.{Comes, first}
use Rattle.played_rows.proofs.revelation.judging.run.Goals as goal

pub play_all-requires : goal.play_all-requires
play_all-requires g c = c.in-Ok.ensures.fresh c.if-not-began.false

pub returns-then-not-began-clause-unbegun : goal.returns-then-not-began-clause-unbegun
returns-then-not-began-clause-unbegun g c =
    subst (λ (l : LinkerView). is_among (user_count l.program) l.loaded ≡ false) c.in-Ok.ensures.loaded (c.in-Ok.ensures.rootless c.if-not-began.true)

pub returns-in-Ok-play_all-clause-came : goal.returns-in-Ok-play_all-clause-came
returns-in-Ok-play_all-clause-came g c =
    subst (λ (l : LinkerView). Comes l.program c.args.items.now (first l.loaded) c.in-Ok-play_all.found) c.in-Ok.ensures.loaded c.in-Ok-play_all.ensures
