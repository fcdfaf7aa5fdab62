-- The arguments of a native method, the receiver first where there is one. What is missing or of another sort counts as
-- 0; a rule looks at arguments that fit alone.
use Rattle.std.specs.Prelude.{ℕ, ◌%◌, ◌==◌, ℤ, pos, Bool, List, slice_get}
use Rattle.std.specs.Option.{option_map_or}
use Rattle.std.specs.Int.{w32, cast_unsigned}
use Rattle.heap_objects.specs.declared.datum.Datum.{Datum}
use Rattle.heap_objects.specs.Kept.{int_of, long_of, reference_of}

abbrev pub int_in : List Datum → ℕ → ℤ
int_in args place = option_map_or int_of (slice_get args place) (pos 0)

abbrev pub long_in : List Datum → ℕ → ℤ
long_in args place = option_map_or long_of (slice_get args place) (pos 0)

abbrev pub reference_in : List Datum → ℕ → ℕ
reference_in args place = option_map_or reference_of (slice_get args place) 0

-- of a char the low 16 bits count, of a boolean the lowest one
abbrev pub char_of : ℤ → ℕ
char_of n = cast_unsigned w32 n % 65536

abbrev pub boolean_of : ℤ → Bool
boolean_of n = cast_unsigned w32 n % 2 == 1

abbrev pub char_in : List Datum → ℕ → ℕ
char_in args place = char_of (int_in args place)

abbrev pub boolean_in : List Datum → ℕ → Bool
boolean_in args place = boolean_of (int_in args place)
