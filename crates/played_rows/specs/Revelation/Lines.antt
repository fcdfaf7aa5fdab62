-- The lines of a file of rows.
use Rattle.std.specs.Prelude.{ℕ, Bool, false, not, List, [], ◌∷◌, ◌==◌}

-- a row is a line that is not empty and does not begin with a `#`
abbrev pub is_row : List ℕ → Bool
is_row [] = false
is_row (first ∷ rest) = not (first == 35)
