-- Before any class was loaded.
use Rattle.std.proofs.Common.{◌≡◌, ℕ, zero, suc, List, [], length, ap, sym, refl, ◌∙◌}
use Rattle.std.specs.Prelude.{None, is_some, replicate}
use Rattle.std.proofs.lemmas.List.{length-replicate}
use Rattle.std.proofs.lemmas.Option.{none-some}
use Rattle.std.proofs.lemmas.Bool.{false≢true}
use Rattle.jvm_model.specs.Classes.Load.{is_among}
use Rattle.jvm_model.specs.declared.program.Program.{Program}
use Rattle.class_linker.specs.LoadedClasses.{LoadedClassRows, loaded_class_at}
use Rattle.class_linker.specs.States.{IsState}

none_at : (n class : ℕ) → loaded_class_at (replicate n None) class ≡ None
none_at zero class = refl
none_at (suc n) zero = refl
none_at (suc n) (suc class) = none_at n class

pub begun : (p : Program) (rows : LoadedClassRows) (n : ℕ) (loaded : List ℕ) → rows ≡ replicate n None → n ≡ length p.classes → loaded ≡ []
    → IsState p (record { rows = rows; loaded = loaded })
begun p rows n loaded is many nothing = record {
  rows = record {
    places = ap length is ∙ (length-replicate n None ∙ many);
    each = λ class bound r found most. absurd (none-some r (sym (none_at n class) ∙ (ap (λ rs. loaded_class_at rs class) (sym is) ∙ found)));
    ends = λ class bound has most. absurd (false≢true (sym (ap is_some (ap (λ rs. loaded_class_at rs class) is ∙ none_at n class)) ∙ has));
    closed = λ class r found. absurd (none-some r (sym (none_at n class) ∙ (ap (λ rs. loaded_class_at rs class) (sym is) ∙ found)));
  };
  loaded = λ class among. absurd (false≢true (ap (is_among class) (sym nothing) ∙ among));
}
