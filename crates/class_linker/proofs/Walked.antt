-- The rows of loaded classes give the walks of the definitions.
use Rattle.std.proofs.Common.{◌≡◌, ℕ, ◌≤◌, Bool, true, false, List, [], ◌∷◌, ◌++◌, length, ap, sym, subst, refl, ◌∙◌}
use Rattle.std.specs.Prelude.{Option, Some, None, is_some, ◌==◌, ◌||◌, if◌then◌else◌}
use Rattle.std.specs.List.{list_any}
use Rattle.std.specs.Option.{option_map_or, option_or}
use Rattle.std.proofs.lemmas.List.Sums.{count_by-le-length}
use Rattle.jvm_model.specs.declared.program.Program.{Program}
use Rattle.jvm_model.specs.Classes.Layouts.{layout}
use Rattle.jvm_model.specs.Classes.Load.{is_among}
use Rattle.jvm_model.specs.Classes.Lookup.{first_in, is_subtype, place_in, superclasses, superinterfaces, supertypes}
use Rattle.class_index.specs.Orders.{IsSearchedAs}
use Rattle.class_index.proofs.OrderLemmas.{first_in_both}
use Rattle.class_linker.specs.LoadedClasses.{AreKept, AreLoadedClasses, LoadedClassRows, holds_all, holds_class, layout_in, held_count, superclasses_in, superinterfaces_in, supertypes_in}
use Rattle.class_linker.proofs.LoadedClassLemmas.{layout_is, superclasses_are, superclasses_have, superinterfaces_are, supertypes_are, supertypes_have}

module _ (p : Program) (rows : LoadedClassRows) (are : AreLoadedClasses p rows) where
  pub bound : held_count rows ≤ length p.classes
  bound = subst (λ n. held_count rows ≤ n) are.places (count_by-le-length is_some rows)

  nothing_lost : AreKept rows rows
  nothing_lost class has = has

  module _ (class : ℕ) (has : holds_class rows class ≡ true) where
    pub superclasses_walked : superclasses_in rows class ≡ superclasses p class
    superclasses_walked = superclasses_are p rows are (length p.classes) bound class has

    pub layout_walked : layout_in rows class ≡ layout p class
    layout_walked = layout_is p rows are (length p.classes) bound class has

    pub superinterfaces_walked : IsSearchedAs (superinterfaces_in rows class) (superinterfaces p class)
    superinterfaces_walked = superinterfaces_are p rows are (length p.classes) bound class has

    pub supertypes_walked : IsSearchedAs (supertypes_in rows class) (supertypes p class)
    supertypes_walked = supertypes_are p rows are (length p.classes) bound class has

    pub superclasses_rows : holds_all rows (superclasses_in rows class) ≡ true
    superclasses_rows = superclasses_have p rows are rows nothing_lost class has

    pub supertypes_rows : holds_all rows (supertypes_in rows class) ≡ true
    supertypes_rows = supertypes_have p rows are rows nothing_lost class has

-- ---- a class among those that are searched

any_is : (test : ℕ → Bool) (xs : List ℕ) → list_any test xs ≡ is_some (first_in (λ k. if test k then Some 0 else None) xs)
any_is test [] = refl
any_is test (x ∷ xs) = by (test x) (any_is test xs)
  where
    by : (b : Bool) → list_any test xs ≡ is_some (first_in (λ k. if test k then Some 0 else None) xs)
        → (b || list_any test xs)
        ≡ is_some (option_map_or (λ position. Some (place_in x position)) (if b then Some 0 else None) (first_in (λ k. if test k then Some 0 else None) xs))
    by true rest = refl
    by false rest = rest

pub searched_any : (test : ℕ → Bool) (xs ys : List ℕ) → IsSearchedAs xs ys → list_any test xs ≡ list_any test ys
searched_any test xs ys same = any_is test xs ∙ (ap is_some (same (λ k. if test k then Some 0 else None)) ∙ sym (any_is test ys))

pub searched_among : (c : ℕ) (xs ys : List ℕ) → IsSearchedAs xs ys → is_among c xs ≡ is_among c ys
searched_among c xs ys same = searched_any (λ other. c == other) xs ys same

pub subtype_walked : (p : Program) (rows : LoadedClassRows) → AreLoadedClasses p rows → (lower upper : ℕ) → holds_class rows lower ≡ true
    → is_among upper (supertypes_in rows lower) ≡ is_subtype p lower upper
subtype_walked p rows are lower upper has =
    searched_among upper (supertypes_in rows lower) (supertypes p lower) (supertypes_walked p rows are lower has)

pub first_of_both : (at : ℕ → Option ℕ) (xs ys : List ℕ) → first_in at (xs ++ ys) ≡ option_or (first_in at xs) (first_in at ys)
first_of_both at xs ys = first_in_both at xs ys
