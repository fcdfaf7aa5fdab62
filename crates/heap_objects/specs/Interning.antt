-- The interned texts: the units of each, with the number of the object that was made for them, in order.
use Rattle.std.specs.Prelude.{ℕ, List, [], ◌∷◌, ◌++◌, Option}
use Rattle.std.specs.Str.{bytes_eq}
use Rattle.std.specs.Map.{lookup}

-- the number that stands with equal units
abbrev pub number_of : List ℕ → List (List ℕ × ℕ) → Option ℕ
number_of units entries = lookup (bytes_eq units) entries

-- the number of the object that was made for units stands behind the others
abbrev pub with_number : List ℕ → ℕ → List (List ℕ × ℕ) → List (List ℕ × ℕ)
with_number units number entries = entries ++ (units, number) ∷ []
