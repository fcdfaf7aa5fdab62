-- What a run has written only grows.
use Rattle.std.specs.Prelude.{◌≡◌, ℕ, List, ◌++◌}

-- the new text is the old one, with more behind it where more was written
pub record Extends (old new : List ℕ) : Type 0 where
  pub more : List ℕ
  pub longer : new ≡ old ++ more
