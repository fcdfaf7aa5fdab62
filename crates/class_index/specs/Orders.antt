-- Classes in the order in which they are searched, each once.
use Rattle.std.specs.Prelude.{◌≡◌, ℕ, List, [], ◌∷◌, ◌++◌, Option, if◌then◌else◌}
use Rattle.jvm_model.specs.Classes.Load.{is_among}
use Rattle.jvm_model.specs.Classes.Lookup.{first_in}

-- a class more, if it is none of them
abbrev pub with_class : List ℕ → ℕ → List ℕ
with_class classes class = if is_among class classes then classes else classes ++ class ∷ []

abbrev pub with_classes : List ℕ → List ℕ → List ℕ
with_classes classes [] = classes
with_classes classes (class ∷ rest) = with_classes (with_class classes class) rest

-- whatever is sought is found in the same class first
abbrev pub IsSearchedAs : List ℕ → List ℕ → Type 0
IsSearchedAs xs ys = (at : ℕ → Option ℕ) → first_in at xs ≡ first_in at ys
