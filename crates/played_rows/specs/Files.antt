-- The files that a row names.
use Rattle.std.specs.Prelude.{ℕ, List, Option}
use Rattle.byte_streams.specs.Streams.{Told, IsFetched}

-- the bytes are those of the file at this path, or the first of a longer one, where the files tell their contents
abbrev pub IsFileAt : Option Told → List ℕ → List ℕ → Type 0
IsFileAt told path bytes = IsFetched told path 67108864 bytes
