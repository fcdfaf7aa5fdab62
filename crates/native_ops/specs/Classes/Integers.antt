-- java/lang/Integer: what its native methods do. The receiver of those that are not static is the argument at place 0.
use Rattle.std.specs.Prelude.{ℕ, ◌==◌, ℤ, Bool, false, List, None, if◌then◌else◌, ◌&&◌}
use Rattle.std.specs.Fmt.{digits}
use Rattle.std.specs.Int.{w32, cast_unsigned}
use Rattle.std.specs.Ordering.{int_eq}
use Rattle.int_ops.specs.Arithmetic.{comparison}
use Rattle.heap_objects.specs.declared.datum.Datum.{Datum}
use Rattle.heap_objects.specs.declared.datum.Datum.TheVariants.{Int}
use Rattle.heap_objects.specs.Heaps.{HeapView}
use Rattle.native_effects.specs.declared.effects.effect.NativeEffect.{NativeEffect}
use Rattle.native_effects.specs.declared.effects.effect.NativeEffect.TheVariants.{MakesText}
use Rattle.native_ops.specs.declared.methods.method.IntegerMethod.{IntegerMethod}
use Rattle.native_ops.specs.declared.methods.method.IntegerMethod.TheVariants.{ValueOf, Parse, TextOf, HexOf, IntValue, LongValue, Equals, HashCode, ToText, CompareTo}
use Rattle.native_effects.specs.Inputs.Numbers.{integer_kind}
use Rattle.native_effects.specs.Inputs.Arguments.{int_in, reference_in}
use Rattle.native_effects.specs.Inputs.Objects.{text_at, int_field}
use Rattle.native_effects.specs.Inputs.KindsViews.{KindsView, is_instance}
use Rattle.native_effects.specs.Inputs.Texts.{text_of_number}
use Rattle.native_effects.specs.Inputs.Parsing.{number_parsed}
use Rattle.native_ops.specs.Classes.Boxes.{small_place, box_of, gives_parsed_int, compared_if}
use Rattle.native_effects.specs.Effects.Answers.{gives_int, gives_long, gives_boolean}

-- null is no number
abbrev pub parse_int : ℕ → HeapView → NativeEffect
parse_int object h = gives_parsed_int (if object == 0 then None else number_parsed 31 (text_at object h))

abbrev pub hex_of : ℤ → List ℕ
hex_of n = digits 16 false (cast_unsigned w32 n)

abbrev pub same_integers : KindsView → ℕ → ℕ → HeapView → Bool
same_integers kinds object other h =
    is_instance kinds integer_kind other h && int_eq (int_field object 0 h) (int_field other 0 h)

abbrev pub compare_integers : KindsView → ℕ → ℕ → HeapView → NativeEffect
compare_integers kinds object other h =
    compared_if other (is_instance kinds integer_kind other h) (comparison (int_field object 0 h) (int_field other 0 h))

abbrev pub integer_effect : IntegerMethod → KindsView → List Datum → HeapView → NativeEffect
integer_effect ValueOf kinds args h = box_of integer_kind (small_place (int_in args 0)) (Int (int_in args 0))
integer_effect Parse kinds args h = parse_int (reference_in args 0) h
integer_effect TextOf kinds args h = MakesText (text_of_number (int_in args 0))
integer_effect HexOf kinds args h = MakesText (hex_of (int_in args 0))
integer_effect IntValue kinds args h = gives_int (int_field (reference_in args 0) 0 h)
integer_effect LongValue kinds args h = gives_long (int_field (reference_in args 0) 0 h)
integer_effect Equals kinds args h = gives_boolean (same_integers kinds (reference_in args 0) (reference_in args 1) h)
integer_effect HashCode kinds args h = gives_int (int_field (reference_in args 0) 0 h)
integer_effect ToText kinds args h = MakesText (text_of_number (int_field (reference_in args 0) 0 h))
integer_effect CompareTo kinds args h = compare_integers kinds (reference_in args 0) (reference_in args 1) h
