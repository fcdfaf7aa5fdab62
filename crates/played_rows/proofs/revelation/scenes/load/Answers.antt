use Rattle.played_rows.proofs.RevelationLemmas.HappeningLemmas.{loaded-more}
use Rattle.played_rows.proofs.RevelationLemmas.SceneLemmas.{ready-linked}
use Rattle.played_rows.proofs.revelation.scenes.load.Goals as goal

pub follow-requires : goal.follow-requires
follow-requires g c = ready-linked c.args.scene.now.linker c.link.new.linker c.args.scene.now.reveal c.requires c.link.ensures.linked

pub returns : goal.returns
returns g c =
    loaded-more c.args.name.now c.args.scene.now.linker c.link.new.linker c.args.scene.now.reveal c.follow.new.reveal c.in_ok-link.ensures.loaded
    c.in_ok-follow.ensures
