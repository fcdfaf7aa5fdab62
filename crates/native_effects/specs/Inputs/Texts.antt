-- Texts of things that are no text, and tests of texts.
use Rattle.std.specs.Prelude.{ℕ, ◌+◌, ◌*◌, ◌%◌, ◌^◌, ◌==◌, ℤ, pos, ◌-ℤ◌, Bool, List, [], ◌∷◌, length, take, Option, Some, None, unwrap_or, nat_le, if◌then◌else◌, ◌&&◌, codes}
use Rattle.std.specs.Fmt.{signed_decimal}
use Rattle.std.specs.Str.{bytes_eq}
use Rattle.std.specs.Int.{w32, cast_signed}
use Rattle.int_ops.specs.Arithmetic.{wrapped_difference}
use Rattle.heap_objects.specs.Heaps.{HeapView}
use Rattle.native_effects.specs.Inputs.Objects.{text_at, number_as_int}

abbrev pub text_of_number : ℤ → List ℕ
text_of_number n = signed_decimal n

abbrev pub text_of_boolean : Bool → List ℕ
text_of_boolean b = if b then codes "true" else codes "false"

-- the text of a String, and `null` for null
abbrev pub text_or_null : ℕ → HeapView → List ℕ
text_or_null object h = if object == 0 then codes "null" else text_at object h

-- The sum of the units with weights: 31 to the power of the units that follow.
abbrev pub units_weighted : List ℕ → ℕ
units_weighted [] = 0
units_weighted (u ∷ units) = u * 31 ^ length units + units_weighted units

abbrev pub hash_of_text : List ℕ → ℤ
hash_of_text units = cast_signed w32 (units_weighted units % 4294967296)

-- the difference of the first units that differ at one place
abbrev pub first_difference : List ℕ → List ℕ → Option ℤ
first_difference [] ys = None
first_difference (x ∷ xs) [] = None
first_difference (x ∷ xs) (y ∷ ys) = if x == y then first_difference xs ys else Some (pos x -ℤ pos y)

-- that difference, or else the difference of the lengths
abbrev pub compared_texts : List ℕ → List ℕ → ℤ
compared_texts xs ys =
    unwrap_or (first_difference xs ys) (wrapped_difference w32 (number_as_int (length xs)) (number_as_int (length ys)))

-- one text is the other's front
abbrev pub begins_with : List ℕ → List ℕ → Bool
begins_with front units = nat_le (length front) (length units) && bytes_eq (take (length front) units) front
