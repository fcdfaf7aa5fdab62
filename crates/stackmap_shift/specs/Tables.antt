-- Reading a table from left to right: the item at the front of the bytes and the bytes after it, or the first byte that
-- breaks the grammar. A table that ends early is at fault where it ends.
use Rattle.std.specs.Prelude.{ℕ, List, length, Result, Ok, Err, ◌==◌, if◌then◌else◌}
use Rattle.std.specs.Int.{Width, w16, byte_len, from_be_bytes}
use Rattle.byte_formats.specs.Reading as reading
pub use Rattle.byte_formats.specs.Formats.{place}
pub use Rattle.byte_formats.specs.Reading.{◌>>=◌, with_rest, with_front}
unfoldable pub use Rattle.byte_formats.specs.Reading.{many_at}
use Rattle.stackmap_shift.specs.declared.error.FrameError.{FrameError}
use Rattle.stackmap_shift.specs.declared.error.FrameError.TheVariants.{BadFrame, NoMemory}

-- what was read from the front of the bytes, and the bytes after it
abbrev pub Read : Type 0 → Type 0
Read = reading.Read FrameError

-- What a function returned, seen by view, is what reading gives, unless memory ran out.
abbrev pub Gives : {X Y : Type 0} → (X → Y) → Result X FrameError → Result Y FrameError → Type 0
Gives = reading.Gives NoMemory

-- a big-endian number
unfoldable pub number_at : Width → ℕ → List ℕ → Read ℕ
number_at w limit bytes = reading.made_of_front (BadFrame limit) (byte_len w) (from_be_bytes w) bytes

-- items behind a u2 that counts them
unfoldable pub counted_at : {A : Type 0} → (ℕ → List ℕ → Read A) → ℕ → List ℕ → Read (List A)
counted_at item limit bytes = do
  count ← number_at w16 limit bytes
  many_at (item limit) count.0 count.1

-- bytes left over break the grammar
abbrev pub nothing_left : ℕ → List ℕ → Result (Unit {0}) FrameError
nothing_left limit rest = if length rest == 0 then Ok tt else Err (BadFrame (place limit rest))

-- what is read of the whole table, with nothing left over
abbrev pub whole_of : {A : Type 0} → (ℕ → List ℕ → Read A) → List ℕ → Result A FrameError
whole_of item bytes = do
  x ← item (length bytes) bytes
  end ← nothing_left (length bytes) x.1
  Ok x.0
