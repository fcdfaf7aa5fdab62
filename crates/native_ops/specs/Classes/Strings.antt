-- java/lang/String: what its native methods do, each by its arguments and the heap. The receiver is the argument at
-- place 0.
use Rattle.std.specs.Prelude.{ℕ, ◌==◌, ◌++◌, ℤ, pos, negsuc, List, [], Option, None, option_and_then, slice_get, length, map, if◌then◌else◌, ◌&&◌}
use Rattle.std.specs.Option.{option_map_or}
use Rattle.std.specs.Str.{bytes_eq}
use Rattle.heap_objects.specs.declared.datum.Datum.{Datum}
use Rattle.heap_objects.specs.Cells.{char_datum}
use Rattle.heap_objects.specs.Heaps.{HeapView}
use Rattle.native_effects.specs.declared.effects.effect.NativeEffect.{NativeEffect}
use Rattle.native_effects.specs.declared.effects.effect.NativeEffect.TheVariants.{MakesText, MakesArray, Replaces, Interns}
use Rattle.native_effects.specs.declared.inputs.printable.Printable.{Printable}
use Rattle.native_ops.specs.declared.methods.method.StringMethod.{StringMethod}
use Rattle.native_ops.specs.declared.methods.method.StringMethod.TheVariants.{Init, InitText, InitChars, InitPart, Length, CharAt, IsEmpty, Equals, HashCode, Same, CompareTo, CompareToObject, Concat, SubstringFrom, Substring, IndexOf, StartsWith, Intern, ToCharArray, ValueOf}
use Rattle.native_effects.specs.Inputs.Numbers.{class_cast_exception, null_pointer_exception, string_index_out_of_bounds_exception, string_kind, chars_kind}
use Rattle.native_effects.specs.Inputs.Arguments.{int_in, reference_in}
use Rattle.native_effects.specs.Inputs.Objects.{text_at, chars_at, size_at, has_kind, number_as_int}
use Rattle.native_effects.specs.Effects.Answers.{gives_int, gives_boolean, gives_reference, throws, unless_null}
use Rattle.native_effects.specs.Inputs.Texts.{hash_of_text, compared_texts, begins_with}
use Rattle.native_effects.specs.Inputs.Places.{place_in, range_in, range_from, counted_range, between, place_of_character}
use Rattle.native_effects.specs.Inputs.Shown.{argument_shown, is_null_array}

-- ---- constructors: the text has units in place of its own

abbrev pub init_text : ℕ → ℕ → HeapView → NativeEffect
init_text object from h = unless_null from (Replaces object (text_at from h) None)

abbrev pub init_chars : ℕ → ℕ → HeapView → NativeEffect
init_chars object array h = unless_null array (Replaces object (chars_at array h) None)

abbrev pub init_range : ℕ → List ℕ → Option (ℕ × ℕ) → NativeEffect
init_range object units range =
    option_map_or (λ r. Replaces object (between r.0 r.1 units) None) range (throws string_index_out_of_bounds_exception)

abbrev pub init_part : ℕ → ℕ → ℤ → ℤ → HeapView → NativeEffect
init_part object array from count h =
    unless_null array (init_range object (chars_at array h) (counted_range from count (size_at array h)))

-- ---- reading

abbrev pub char_at : ℕ → ℤ → HeapView → NativeEffect
char_at object place h =
    option_map_or (λ u. gives_int (pos u)) (option_and_then (slice_get (text_at object h)) (place_in place (length (text_at object h))))
    (throws string_index_out_of_bounds_exception)

abbrev pub equals : ℕ → ℕ → HeapView → NativeEffect
equals object other h = gives_boolean (has_kind string_kind other h && bytes_eq (text_at object h) (text_at other h))

abbrev pub compare_to : ℕ → ℕ → HeapView → NativeEffect
compare_to object other h = unless_null other (gives_int (compared_texts (text_at object h) (text_at other h)))

abbrev pub compare_to_object : ℕ → ℕ → HeapView → NativeEffect
compare_to_object object other h =
    unless_null other (if has_kind string_kind other h
    then gives_int (compared_texts (text_at object h) (text_at other h))
    else throws class_cast_exception)

-- the place, or -1
abbrev pub index_of : ℕ → ℤ → HeapView → NativeEffect
index_of object character h = gives_int (option_map_or number_as_int (place_of_character character (text_at object h)) (negsuc 0))

abbrev pub starts_with : ℕ → ℕ → HeapView → NativeEffect
starts_with object front h = unless_null front (gives_boolean (begins_with (text_at front h) (text_at object h)))

-- ---- new texts

abbrev pub concat : ℕ → ℕ → HeapView → NativeEffect
concat object other h =
    unless_null other (if length (text_at other h) == 0
    then gives_reference object
    else MakesText (text_at object h ++ text_at other h))

-- a part of a text, which is the text itself where it is the whole
abbrev pub part_of : ℕ → List ℕ → ℕ × ℕ → NativeEffect
part_of object units range =
    if range.0 == 0 && range.1 == length units
    then gives_reference object
    else MakesText (between range.0 range.1 units)

abbrev pub substring : ℕ → List ℕ → Option (ℕ × ℕ) → NativeEffect
substring object units range = option_map_or (part_of object units) range (throws string_index_out_of_bounds_exception)

-- from a place to the end, and from a place to another
abbrev pub substring_from : ℕ → ℤ → HeapView → NativeEffect
substring_from object from h =
    substring object (text_at object h) (range_from from (length (text_at object h)))

abbrev pub substring_to : ℕ → ℤ → ℤ → HeapView → NativeEffect
substring_to object from to h =
    substring object (text_at object h) (range_in from to (length (text_at object h)))

abbrev pub to_char_array : ℕ → HeapView → NativeEffect
to_char_array object h = MakesArray chars_kind (map char_datum (text_at object h))

abbrev pub value_of : Printable → List Datum → HeapView → NativeEffect
value_of what args h =
    if is_null_array what 0 args then throws null_pointer_exception else MakesText (argument_shown what 0 args h)

-- ---- all

abbrev pub string_effect : StringMethod → List Datum → HeapView → NativeEffect
string_effect Init args h = Replaces (reference_in args 0) [] None
string_effect InitText args h = init_text (reference_in args 0) (reference_in args 1) h
string_effect InitChars args h = init_chars (reference_in args 0) (reference_in args 1) h
string_effect InitPart args h = init_part (reference_in args 0) (reference_in args 1) (int_in args 2) (int_in args 3) h
string_effect Length args h = gives_int (number_as_int (size_at (reference_in args 0) h))
string_effect CharAt args h = char_at (reference_in args 0) (int_in args 1) h
string_effect IsEmpty args h = gives_boolean (size_at (reference_in args 0) h == 0)
string_effect Equals args h = equals (reference_in args 0) (reference_in args 1) h
string_effect HashCode args h = gives_int (hash_of_text (text_at (reference_in args 0) h))
string_effect Same args h = gives_reference (reference_in args 0)
string_effect CompareTo args h = compare_to (reference_in args 0) (reference_in args 1) h
string_effect CompareToObject args h = compare_to_object (reference_in args 0) (reference_in args 1) h
string_effect Concat args h = concat (reference_in args 0) (reference_in args 1) h
string_effect SubstringFrom args h = substring_from (reference_in args 0) (int_in args 1) h
string_effect Substring args h = substring_to (reference_in args 0) (int_in args 1) (int_in args 2) h
string_effect IndexOf args h = index_of (reference_in args 0) (int_in args 1) h
string_effect StartsWith args h = starts_with (reference_in args 0) (reference_in args 1) h
string_effect Intern args h = Interns (text_at (reference_in args 0) h)
string_effect ToCharArray args h = to_char_array (reference_in args 0) h
string_effect (ValueOf what) args h = value_of what args h
