use Rattle.std.proofs.Common.{ap, subst, sym, ◌∙◌}
use Rattle.played_rows.specs.declared.revelation.scenes.Scene.{Scene}
use Rattle.played_rows.specs.Revelation.Scenes.{IsBlank}
use Rattle.played_rows.proofs.revelation.scenes.new_scene.Goals as goal

pub returns-clause-blank : goal.returns-clause-blank
returns-clause-blank c = subst (λ (s : Scene). IsBlank s.linker s.reveal) (sym c.in_ok-place.ensures.ok) c.in_ok-scene.ensures.blank

pub returns-clause-linker : goal.returns-clause-linker
returns-clause-linker c = ap (λ (s : Scene). s.linker) c.in_ok-place.ensures.ok ∙ c.in_ok-scene.ensures.linker
