-- What a list of rows says.
use Rattle.std.specs.Prelude.{◌==◌, ℕ, Bool, false, not, List, [], ◌∷◌, map, filter}
use Rattle.std.specs.List.{before_first}
use Rattle.std.specs.Str.Lines.{lines}

-- a line with something on it that does not begin with #
abbrev pub is_row : List ℕ → Bool
is_row [] = false
is_row (first ∷ rest) = not (first == 35)

-- what stands before the colon
abbrev pub row_name : List ℕ → List ℕ
row_name line = before_first (λ byte. byte == 58) line

-- the names on those of the lines that are rows
abbrev pub names_in : List (List ℕ) → List (List ℕ)
names_in all = map row_name (filter is_row all)

-- the names of the rows, in the list's order
abbrev pub row_names : List ℕ → List (List ℕ)
row_names text = names_in (lines text)
