use Rattle.std.proofs.Common.{ap, sym, ◌∙◌}
use Rattle.jvm_model.specs.Basis.KindNumbers.{user_count}
use Rattle.jvm_model.specs.Classes.Load.{is_among}
use Rattle.played_rows.specs.Revelation.Scenes.{loading}
use Rattle.played_rows.proofs.RevelationLemmas.HappeningLemmas.{fresh}
use Rattle.played_rows.proofs.RevelationLemmas.SceneLemmas.{along-linked}
use Rattle.played_rows.proofs.revelation.scenes.begin.Goals as goal

pub follow-requires : goal.follow-requires
follow-requires c = record {
  along = along-linked c.args.scene.now.linker c.link.new.linker c.args.scene.now.reveal c.requires.along c.link.ensures.linked;
  root =
      ap (λ class. is_among class c.link.new.linker.loaded) (sym (c.user_count.ensures.count ∙ ap user_count c.index.ensures))
      ∙ (sym c.is_loaded.ensures ∙ c.if-not-is_loaded.false);
}

pub returns-clause-fresh : goal.returns-clause-fresh
returns-clause-fresh c = λ e.
    fresh c.args.scene.now.linker c.link.new.linker c.args.scene.now.reveal c.follow.new.reveal c.requires c.link.ensures.linked c.in_ok-follow.ensures

pub returns-then-not-is_loaded-clause-loaded : goal.returns-then-not-is_loaded-clause-loaded
returns-then-not-is_loaded-clause-loaded c = c.in_ok-link.ensures.loaded ∙ ap (λ name. loading name c.args.scene.now.linker) c.in_ok-name.ensures.spelled

pub returns-clause-loaded : goal.returns-clause-loaded
returns-clause-loaded c = c.in_ok-link.ensures.loaded ∙ ap (λ name. loading name c.args.scene.now.linker) c.in_ok-name.ensures.spelled
