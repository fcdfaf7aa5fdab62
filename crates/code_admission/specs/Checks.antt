-- Checks in order: each gives its fault or none, and the first that is there is told.
use Rattle.std.specs.Prelude.{ℕ, ◌+◌, Bool, List, [], ◌∷◌, Option, Some, None, if◌then◌else◌}
use Rattle.std.specs.Option.{option_or}

abbrev pub fault_if : {F : Type 0} → Bool → F → Option F
fault_if broken fault = if broken then Some fault else None

abbrev pub first_of : {F : Type 0} → List (Option F) → Option F
first_of [] = None
first_of (found ∷ rest) = option_or found (first_of rest)

-- the first fault of a list's elements
abbrev pub first_in : {A F : Type 0} → (A → Option F) → List A → Option F
first_in check [] = None
first_in check (x ∷ rest) = option_or (check x) (first_in check rest)

-- the same where each element is told by its place, counted from this number
abbrev pub first_from : {A F : Type 0} → (ℕ → A → Option F) → ℕ → List A → Option F
first_from check at [] = None
first_from check at (x ∷ rest) = option_or (check at x) (first_from check (at + 1) rest)
