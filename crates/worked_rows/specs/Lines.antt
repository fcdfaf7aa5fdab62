-- The lines of a text of bytes.
use Rattle.std.specs.Prelude.{◌==◌, ◌-◌, ℕ, List, [], take, length, slice_index, if◌then◌else◌}
use Rattle.std.specs.List.{slice_split}

-- the parts of a text, where each line feed parts two
abbrev pub parts_of : List ℕ → List (List ℕ)
parts_of text = slice_split (λ byte. byte == 10) text

-- a text without the line feed at its end, if it has one
abbrev pub without_last_feed : List ℕ → List ℕ
without_last_feed text = if slice_index text (length text - 1) == 10 then take (length text - 1) text else text

-- the lines of a text, where the last one need not end with a line feed
abbrev pub lines_in : List ℕ → List (List ℕ)
lines_in text = if length text == 0 then [] else parts_of (without_last_feed text)
