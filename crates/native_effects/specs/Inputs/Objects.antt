-- What rules read of objects. A rule looks at objects that fit alone: of another object it sees nothing.
use Rattle.std.specs.Prelude.{ℕ, ◌==◌, ◌%◌, ℤ, pos, Bool, false, List, [], map, unwrap_or}
use Rattle.std.specs.Option.{option_map_or}
use Rattle.std.specs.Int.{w32, cast_signed}
use Rattle.heap_objects.specs.declared.datum.Datum.{Datum}
use Rattle.heap_objects.specs.Objects.{slots_of, object_at}
use Rattle.heap_objects.specs.Heaps.{HeapView, units_at, length_at, kind_at, slot_at}
use Rattle.heap_objects.specs.Kept.{int_of, long_of, reference_of}
use Rattle.native_effects.specs.Inputs.Arguments.{char_of}

-- the units of a text
abbrev pub text_at : ℕ → HeapView → List ℕ
text_at object h = unwrap_or (units_at object h) []

-- how many units or elements it has
abbrev pub size_at : ℕ → HeapView → ℕ
size_at object h = unwrap_or (length_at object h) 0

-- its kind, and 0, which is none, where there is no object
abbrev pub kind_or_none : ℕ → HeapView → ℕ
kind_or_none object h = unwrap_or (kind_at object h) 0

-- it is of this kind
abbrev pub has_kind : ℕ → ℕ → HeapView → Bool
has_kind kind object h = option_map_or (λ k. k == kind) (kind_at object h) false

-- the values of its fields or elements
abbrev pub values_at : ℕ → HeapView → List Datum
values_at object h = option_map_or slots_of (object_at object h.objects) []

-- one of its fields
abbrev pub int_field : ℕ → ℕ → HeapView → ℤ
int_field object slot h = option_map_or int_of (slot_at object slot h) (pos 0)

abbrev pub long_field : ℕ → ℕ → HeapView → ℤ
long_field object slot h = option_map_or long_of (slot_at object slot h) (pos 0)

abbrev pub reference_field : ℕ → ℕ → HeapView → ℕ
reference_field object slot h = option_map_or reference_of (slot_at object slot h) 0

abbrev pub char_in_datum : Datum → ℕ
char_in_datum v = char_of (int_of v)

-- the units in an array of char
abbrev pub chars_at : ℕ → HeapView → List ℕ
chars_at object h = map char_in_datum (values_at object h)

-- a number of an object, a size or a place as an int
abbrev pub number_as_int : ℕ → ℤ
number_as_int n = cast_signed w32 (n % 4294967296)
