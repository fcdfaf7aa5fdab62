-- The fact that is the case is told whatever is seen.
use Rattle.std.proofs.Common.{◌≡◌, ℕ, Bool, List, ap, sym, ◌∙◌, subst}
use Rattle.std.specs.Prelude.{not}
use Rattle.jvm_model.specs.declared.event.Mark.{Mark}
use Rattle.jvm_model.specs.Classes.Load.{is_among}
use Rattle.jvm_model.specs.Profiling.Points.{is_empty}
use Rattle.jvm_model.specs.Profiling.Revealed.{Revealed, changed_of, marks_of}
use Rattle.class_linker.specs.Linkers.{LinkerView}
use Rattle.call_revelation.specs.declared.reveal.Reveal.{Reveal}
use Rattle.call_revelation.specs.Reveals.{now_of}
use Rattle.played_rows.specs.declared.revelation.item.Fact.{Fact}
use Rattle.played_rows.specs.declared.revelation.item.Fact.TheVariants.{Begins, Changed, IsSelected, Marks, SelectsAny}
use Rattle.played_rows.specs.Revelation.Rows.{AreTargets, IsTold}
use Rattle.played_rows.specs.Revelation.Scenes.{IsFollowed, IsToldOf}

module _ (l : LinkerView) (r after : Reveal) (by : IsFollowed l r after) (fact : Fact) where
  pub told-marks : (wanted came : List Mark) → fact ≡ Marks wanted → came ≡ marks_of l.program (now_of after) → IsToldOf l r fact (Marks came)
  told-marks wanted came e is s seen =
      subst (λ f. IsTold l.program s f (Marks came)) (sym e) (IsTold.marks wanted came (is ∙ ap (marks_of l.program) (by.now ∙ seen.now)))

  pub told-changed : (wanted came : List ℕ) → fact ≡ Changed wanted
      → ((before : Revealed) → after.shown ≡ marks_of l.program before → came ≡ changed_of l.program before (now_of after)) → IsToldOf l r fact (Changed came)
  told-changed wanted came e is s seen =
      subst (λ f. IsTold l.program s f (Changed came)) (sym e)
      (IsTold.changed wanted came (is s.before (by.shown ∙ seen.shown) ∙ ap (changed_of l.program s.before) (by.now ∙ seen.now)))

  pub told-begins : (method : ℕ) (wanted came : List ℕ) → fact ≡ Begins method wanted → AreTargets l.program l.loaded method came
      → IsToldOf l r fact (Begins method came)
  told-begins method wanted came e is s seen =
      subst (λ f. IsTold l.program s f (Begins method came)) (sym e)
      (IsTold.begins method wanted came (subst (λ (n : Revealed). AreTargets l.program n.loaded method came) seen.now is))

  pub told-selected : (method : ℕ) (wanted came : Bool) → fact ≡ IsSelected method wanted → came ≡ is_among method (now_of after).selected
      → IsToldOf l r fact (IsSelected method came)
  told-selected method wanted came e is s seen =
      subst (λ f. IsTold l.program s f (IsSelected method came)) (sym e)
      (IsTold.selected method wanted came (is ∙ ap (λ (n : Revealed). is_among method n.selected) (by.now ∙ seen.now)))

  pub told-selects : (wanted came : Bool) → fact ≡ SelectsAny wanted → came ≡ not (is_empty (now_of after).selected) → IsToldOf l r fact (SelectsAny came)
  told-selects wanted came e is s seen =
      subst (λ f. IsTold l.program s f (SelectsAny came)) (sym e)
      (IsTold.selects wanted came (is ∙ ap (λ (n : Revealed). not (is_empty n.selected)) (by.now ∙ seen.now)))
