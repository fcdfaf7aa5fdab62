-- Fields that a class inherits.
use Rattle.std.proofs.Common.{◌≡◌, ℕ, Bool, true, false, List, [], ◌∷◌, length, ap, refl, ◌∙◌}
use Rattle.std.specs.Prelude.{Option, Some, flat_map, ◌==◌, ◌||◌, ◌&&◌}
use Rattle.std.specs.List.{list_all}
use Rattle.std.specs.Option.{option_to_list}
use Rattle.std.proofs.lemmas.List.{append-nil}
use Rattle.std.proofs.lemmas.Bool.{eqb-true}
use Rattle.const_pool.specs.declared.descriptor.Kind.{Kind}
use Rattle.jvm_model.specs.Classes.Load.{is_among}
use Rattle.class_linker.specs.LoadedClasses.{LoadedClassRows, holds_all, holds_class}

pub layout_one : (f : ℕ → List Kind) (o : Option ℕ) (above : ℕ) → o ≡ Some above → length (flat_map f (option_to_list o)) ≡ length (f above)
layout_one f o above is = ap (λ o. length (flat_map f (option_to_list o))) is ∙ ap length (append-nil (f above))

among_all : (test : ℕ → Bool) (xs : List ℕ) (x : ℕ) → list_all test xs ≡ true → is_among x xs ≡ true → test x ≡ true
among_all test [] x all is = absurd (let no : false ≡ true → ⊥ = λ e. cc in no is)
among_all test (first ∷ xs) x all is = by (x == first) refl (test first) refl all is (among_all test xs x)
  where
    by : (b : Bool) → (x == first) ≡ b → (a : Bool) → test first ≡ a → (a && list_all test xs) ≡ true → (b || is_among x xs) ≡ true
        → (list_all test xs ≡ true → is_among x xs ≡ true → test x ≡ true) → test x ≡ true
    by true same true is_first all is rest = ap test (eqb-true x first same) ∙ is_first
    by false same true is_first all is rest = rest all is
    by b same false is_first all is rest = absurd (let no : false ≡ true → ⊥ = λ e. cc in no all)

pub superclass_has : (rows : LoadedClassRows) (classes : List ℕ) (class : ℕ) → holds_all rows classes ≡ true → is_among class classes ≡ true → holds_class rows class ≡ true
superclass_has rows classes class all is = among_all (holds_class rows) classes class all is
