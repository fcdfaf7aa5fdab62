use Rattle.std.proofs.Common.{ap, map, subst, sym, ◌∙◌}
use Rattle.played_rows.specs.declared.revelation.scenes.Scene.{Scene}
use Rattle.played_rows.specs.Revelation.Reading.{IsRead}
use Rattle.played_rows.specs.Revelation.Scenes.{IsBlank}
use Rattle.played_rows.proofs.RevelationLemmas.JudgingLemmas.{judged, unbegun}
use Rattle.played_rows.proofs.revelation.judging.judge.Goals as goal

pub run-requires : goal.run-requires
run-requires g c = subst (λ (s : Scene). IsBlank s.linker s.reveal) (sym c.deref_mut.ensures.value) c.in-Ok-new_scene.ensures.blank

pub returns-in_default-read-clause-unplayed : goal.returns-in_default-read-clause-unplayed
returns-in_default-read-clause-unplayed g c =
    (c.in-Ok.program, c.in-Ok.ensures.program, subst (IsRead c.in-Ok.program c.args.row.now) c.in_default-read.is c.in-Ok-read_row.ensures)

pub returns-in-Err-run-clause-unplayed : goal.returns-in-Err-run-clause-unplayed
returns-in-Err-run-clause-unplayed g c =
    unbegun (map (λ f. f.items) c.args.files.now) c.args.row.now c.in-Ok.program c.deref_mut.result.now.linker c.in-Err-run.error c.in-Ok.ensures.program
    (ap (λ (s : Scene). s.linker) c.deref_mut.ensures.value ∙ c.in-Ok-new_scene.ensures.linker) c.in-Err-run.ensures.unbegun

pub returns-in-Ok-text_of-clause-difference : goal.returns-in-Ok-text_of-clause-difference
returns-in-Ok-text_of-clause-difference g c = (
  c.in-Some-found.came,
  judged (map (λ f. f.items) c.args.files.now) c.args.row.now _ _ _ _ _ _ _ c.in-Ok.ensures.program c.in-Ok-read_row.ensures c.in-Some.is
      (ap (λ (s : Scene). s.linker) c.deref_mut.ensures.value ∙ c.in-Ok-new_scene.ensures.linker) c.as_slice.ensures c.in-Ok-run.ensures.came c.in-Some-found.is,
)

pub returns-clause-difference : goal.returns-clause-difference
returns-clause-difference g c =
    judged (map (λ f. f.items) c.args.files.now) c.args.row.now _ _ _ _ _ _ _ c.in-Ok.ensures.program c.in-Ok-read_row.ensures c.in-Some.is
    (ap (λ (s : Scene). s.linker) c.deref_mut.ensures.value ∙ c.in-Ok-new_scene.ensures.linker) c.as_slice.ensures c.in-Ok-run.ensures.came c.in-None.is
