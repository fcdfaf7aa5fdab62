-- How much memory bytes ask for.
use Rattle.std.specs.Prelude.{ℕ, ◌-◌, ◌^◌, List, length, min}

-- how many bytes there are, as far as a usize tells
abbrev pub room : List ℕ → ℕ
room bytes = min (length bytes) (2 ^ 64 - 1)
