-- java/lang/Long: what its native methods do. The receiver of those that are not static is the argument at place 0.
use Rattle.std.specs.Prelude.{ℕ, ◌/◌, ◌%◌, ◌==◌, ℤ, Bool, List, None, if◌then◌else◌, ◌&&◌}
use Rattle.std.specs.Int.{w32, w64, cast_signed, cast_unsigned, int_wrap}
use Rattle.std.specs.Int.Bits.{bit_xor}
use Rattle.std.specs.Ordering.{int_eq}
use Rattle.int_ops.specs.Arithmetic.{comparison}
use Rattle.heap_objects.specs.declared.datum.Datum.{Datum}
use Rattle.heap_objects.specs.declared.datum.Datum.TheVariants.{Long}
use Rattle.heap_objects.specs.Heaps.{HeapView}
use Rattle.native_effects.specs.declared.effects.effect.NativeEffect.{NativeEffect}
use Rattle.native_effects.specs.declared.effects.effect.NativeEffect.TheVariants.{MakesText}
use Rattle.native_ops.specs.declared.methods.method.LongMethod.{LongMethod}
use Rattle.native_ops.specs.declared.methods.method.LongMethod.TheVariants.{ValueOf, Parse, TextOf, IntValue, LongValue, Equals, HashCode, ToText, CompareTo}
use Rattle.native_effects.specs.Inputs.Numbers.{long_kind}
use Rattle.native_effects.specs.Inputs.Arguments.{long_in, reference_in}
use Rattle.native_effects.specs.Inputs.Objects.{text_at, long_field}
use Rattle.native_effects.specs.Inputs.KindsViews.{KindsView, is_instance}
use Rattle.native_effects.specs.Inputs.Texts.{text_of_number}
use Rattle.native_effects.specs.Inputs.Parsing.{number_parsed}
use Rattle.native_ops.specs.Classes.Boxes.{small_place, box_of, gives_parsed_long, compared_if}
use Rattle.native_effects.specs.Effects.Answers.{gives_int, gives_long, gives_boolean}

-- null is no number
abbrev pub parse_long : ℕ → HeapView → NativeEffect
parse_long object h = gives_parsed_long (if object == 0 then None else number_parsed 63 (text_at object h))

-- the exclusive or of the low and the high half
abbrev pub hash_of_long : ℤ → ℤ
hash_of_long n = cast_signed w32 (bit_xor (cast_unsigned w64 n % 4294967296) (cast_unsigned w64 n / 4294967296))

abbrev pub same_longs : KindsView → ℕ → ℕ → HeapView → Bool
same_longs kinds object other h =
    is_instance kinds long_kind other h && int_eq (long_field object 0 h) (long_field other 0 h)

abbrev pub compare_longs : KindsView → ℕ → ℕ → HeapView → NativeEffect
compare_longs kinds object other h =
    compared_if other (is_instance kinds long_kind other h) (comparison (long_field object 0 h) (long_field other 0 h))

abbrev pub long_effect : LongMethod → KindsView → List Datum → HeapView → NativeEffect
long_effect ValueOf kinds args h = box_of long_kind (small_place (long_in args 0)) (Long (long_in args 0))
long_effect Parse kinds args h = parse_long (reference_in args 0) h
long_effect TextOf kinds args h = MakesText (text_of_number (long_in args 0))
long_effect IntValue kinds args h = gives_int (int_wrap w32 (long_field (reference_in args 0) 0 h))
long_effect LongValue kinds args h = gives_long (long_field (reference_in args 0) 0 h)
long_effect Equals kinds args h = gives_boolean (same_longs kinds (reference_in args 0) (reference_in args 1) h)
long_effect HashCode kinds args h = gives_int (hash_of_long (long_field (reference_in args 0) 0 h))
long_effect ToText kinds args h = MakesText (text_of_number (long_field (reference_in args 0) 0 h))
long_effect CompareTo kinds args h = compare_longs kinds (reference_in args 0) (reference_in args 1) h
