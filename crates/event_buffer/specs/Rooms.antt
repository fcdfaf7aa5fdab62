-- What is seen of bytes in room that is there: those between two places are held.
use Rattle.std.specs.Prelude.{ℕ, ◌≤◌, ◌<◌, ◌^◌, List, length, take, drop}

-- the bytes that are held, and how many may be
pub record Room : Type 0 where
  pub items : List ℕ
  pub capacity : ℕ

abbrev pub room_of : List ℕ → ℕ → Room
room_of items capacity = record { items = items; capacity = capacity }

abbrev pub between : ℕ → ℕ → List ℕ → List ℕ
between from end bytes = drop from (take end bytes)

-- the places lie in the room
pub record AreWithin (from end : ℕ) (bytes : List ℕ) : Type 0 where
  pub order : from ≤ end
  pub within : end ≤ length bytes
  pub few : length bytes < 2 ^ 64
