-- Arguments as texts: what String.valueOf, append, print and println make of one of their type.
use Rattle.std.specs.Prelude.{ℕ, ◌==◌, Bool, false, List, [], ◌∷◌}
use Rattle.heap_objects.specs.declared.datum.Datum.{Datum}
use Rattle.heap_objects.specs.Heaps.{HeapView}
use Rattle.native_effects.specs.declared.inputs.printable.Printable.{Printable}
use Rattle.native_effects.specs.declared.inputs.printable.Printable.TheVariants.{Boolean, Char, Int, Long, Text, Chars}
use Rattle.native_effects.specs.Inputs.Arguments.{int_in, long_in, reference_in, char_in, boolean_in}
use Rattle.native_effects.specs.Inputs.Objects.{chars_at}
use Rattle.native_effects.specs.Inputs.Texts.{text_of_number, text_of_boolean, text_or_null}

-- the argument is an array that is null, which has no text
abbrev pub is_null_array : Printable → ℕ → List Datum → Bool
is_null_array Boolean place args = false
is_null_array Char place args = false
is_null_array Int place args = false
is_null_array Long place args = false
is_null_array Text place args = false
is_null_array Chars place args = reference_in args place == 0

abbrev pub argument_shown : Printable → ℕ → List Datum → HeapView → List ℕ
argument_shown Boolean place args h = text_of_boolean (boolean_in args place)
argument_shown Char place args h = char_in args place ∷ []
argument_shown Int place args h = text_of_number (int_in args place)
argument_shown Long place args h = text_of_number (long_in args place)
argument_shown Text place args h = text_or_null (reference_in args place) h
argument_shown Chars place args h = chars_at (reference_in args place) h
