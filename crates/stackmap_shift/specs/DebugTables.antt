-- LineNumberTable, LocalVariableTable and LocalVariableTypeTable (JVM Specification 4.7.8, 4.7.9, 4.7.10), and what
-- they become where the code is laid out anew.
use Rattle.std.specs.Prelude.{ℕ, ◌+◌, ◌-◌, List, [], ◌∷◌, ◌++◌, length, map, Result, Ok, nat_le, unwrap_or, slice_get, if◌then◌else◌}
use Rattle.std.specs.Int.{w16}
use Rattle.std.specs.List.{flat_map}
use Rattle.code_model.specs.declared.laying.Homes.{Homes}
use Rattle.code_model.specs.Layout.{home_of}
use Rattle.stackmap_shift.specs.declared.error.FrameError.{FrameError}
use Rattle.stackmap_shift.specs.declared.debug.Line.{Line}
use Rattle.stackmap_shift.specs.declared.debug.Variable.{Variable}
use Rattle.stackmap_shift.specs.Tables.{◌>>=◌, Read, number_at, counted_at, whole_of}
use Rattle.stackmap_shift.specs.Spelling.{u2}

-- ---- rows

-- a source line, and where its code starts
unfoldable pub line_at : ℕ → List ℕ → Read Line
line_at limit bytes = do
  start ← number_at w16 limit bytes
  number ← number_at w16 limit start.1
  Ok (record { start = start.0; number = number.0 }, number.1)

-- a local variable: where it has a value, its name, its descriptor or signature, and its slot
unfoldable pub variable_at : ℕ → List ℕ → Read Variable
variable_at limit bytes = do
  start ← number_at w16 limit bytes
  len ← number_at w16 limit start.1
  name ← number_at w16 limit len.1
  descriptor ← number_at w16 limit name.1
  slot ← number_at w16 limit descriptor.1
  Ok (record { start = start.0; len = len.0; name = name.0; descriptor = descriptor.0; slot = slot.0 }, slot.1)

unfoldable pub lines_of : List ℕ → Result (List Line) FrameError
lines_of bytes = whole_of (counted_at line_at) bytes

unfoldable pub variables_of : List ℕ → Result (List Variable) FrameError
variables_of bytes = whole_of (counted_at variable_at) bytes

abbrev pub line_bytes : Line → List ℕ
line_bytes line = u2 line.start ++ u2 line.number

abbrev pub variable_bytes : Variable → List ℕ
variable_bytes v = u2 v.start ++ (u2 v.len ++ (u2 v.name ++ (u2 v.descriptor ++ u2 v.slot)))

-- rows behind a u2 that counts them
abbrev pub rows_bytes : {A : Type 0} → (A → List ℕ) → List A → List ℕ
rows_bytes row_bytes rows = u2 (length rows) ++ flat_map row_bytes rows

-- ---- moves

-- The least of these offsets that is not below another one, and the last of them, where all are below. They are the
-- starts of the instructions, in order, and the code's end.
abbrev pub start_for : List ℕ → ℕ → ℕ
start_for [] at = 0
start_for (code_end ∷ []) at = code_end
start_for (start ∷ next ∷ starts) at = if nat_le at start then start else start_for (next ∷ starts) at

-- the start at an index, or the last one
abbrev pub start_at : List ℕ → ℕ → ℕ
start_at starts index = unwrap_or (slice_get starts index) (unwrap_or (slice_get starts (length starts - 1)) 0)

-- where an offset in a row comes to stand
abbrev pub row_home : Homes → ℕ → ℕ
row_home homes at = home_of homes (start_for homes.from at)

abbrev pub moved_line : Homes → Line → Line
moved_line homes line = record line { start = row_home homes line.start }

abbrev pub moved_variable : Homes → Variable → Variable
moved_variable homes v = record v { start = row_home homes v.start; len = row_home homes (v.start + v.len) - row_home homes v.start }

-- the bytes of moved rows, or the first byte that breaks the grammar
unfoldable pub shifted_lines : Homes → List ℕ → Result (List ℕ) FrameError
shifted_lines homes bytes = do
  lines ← lines_of bytes
  Ok (rows_bytes line_bytes (map (moved_line homes) lines))

unfoldable pub shifted_variables : Homes → List ℕ → Result (List ℕ) FrameError
shifted_variables homes bytes = do
  variables ← variables_of bytes
  Ok (rows_bytes variable_bytes (map (moved_variable homes) variables))
