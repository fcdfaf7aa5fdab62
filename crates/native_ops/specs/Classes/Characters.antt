-- java/lang/Character, java/lang/Boolean and java/lang/Math: what their native methods do. The receiver of those that
-- are not static is the argument at place 0. The three tests of chars are of ASCII only.
use Rattle.std.specs.Prelude.{ℕ, ℤ, pos, Bool, List, [], ◌∷◌, nat_le, int_lt, not, if◌then◌else◌, ◌&&◌, ◌||◌}
use Rattle.std.specs.Int.{w32, w64, int_max, int_min}
use Rattle.std.specs.Ordering.{int_eq}
use Rattle.int_ops.specs.Arithmetic.{wrapped_negation}
use Rattle.heap_objects.specs.declared.datum.Datum.{Datum}
use Rattle.heap_objects.specs.declared.datum.Datum.TheVariants.{Int}
use Rattle.heap_objects.specs.Heaps.{HeapView}
use Rattle.native_effects.specs.declared.effects.effect.NativeEffect.{NativeEffect}
use Rattle.native_effects.specs.declared.effects.effect.NativeEffect.TheVariants.{MakesText, GivesBox}
use Rattle.native_ops.specs.declared.methods.method.CharacterMethod.{CharacterMethod}
use Rattle.native_ops.specs.declared.methods.method.CharacterMethod.TheVariants as character
use Rattle.native_ops.specs.declared.methods.method.BooleanMethod.{BooleanMethod}
use Rattle.native_ops.specs.declared.methods.method.BooleanMethod.TheVariants as boolean
use Rattle.native_ops.specs.declared.methods.method.MathMethod.{MathMethod}
use Rattle.native_ops.specs.declared.methods.method.MathMethod.TheVariants.{AbsInt, MaxInt, MinInt, AbsLong, MaxLong, MinLong}
use Rattle.native_effects.specs.Inputs.Numbers.{character_kind, boolean_kind}
use Rattle.native_effects.specs.Inputs.Arguments.{int_in, long_in, reference_in, char_in, char_of, boolean_in}
use Rattle.native_effects.specs.Inputs.Objects.{text_at, int_field}
use Rattle.native_effects.specs.Inputs.KindsViews.{KindsView, is_instance}
use Rattle.native_effects.specs.Inputs.Texts.{text_of_boolean}
use Rattle.native_effects.specs.Inputs.Parsing.{is_digit, is_true}
use Rattle.native_ops.specs.Classes.Boxes.{char_place, box_of}
use Rattle.native_effects.specs.Effects.Answers.{gives_int, gives_long, gives_boolean}

-- ---- java/lang/Character

abbrev pub is_letter : ℕ → Bool
is_letter c = (nat_le 65 c && nat_le c 90) || (nat_le 97 c && nat_le c 122)

abbrev pub is_whitespace : ℕ → Bool
is_whitespace c = (nat_le 9 c && nat_le c 13) || (nat_le 28 c && nat_le c 32)

-- the value in the box
abbrev pub char_value : ℕ → HeapView → ℕ
char_value object h = char_of (int_field object 0 h)

-- boxes of one class with equal values
abbrev pub same_boxes : KindsView → ℕ → ℕ → ℕ → HeapView → Bool
same_boxes kinds kind object other h =
    is_instance kinds kind other h && int_eq (int_field object 0 h) (int_field other 0 h)

abbrev pub character_effect : CharacterMethod → KindsView → List Datum → HeapView → NativeEffect
character_effect character.ValueOf kinds args h = box_of character_kind (char_place (char_in args 0)) (Int (pos (char_in args 0)))
character_effect character.TextOf kinds args h = MakesText (char_in args 0 ∷ [])
character_effect character.IsDigit kinds args h = gives_boolean (is_digit (char_in args 0))
character_effect character.IsLetter kinds args h = gives_boolean (is_letter (char_in args 0))
character_effect character.IsWhitespace kinds args h = gives_boolean (is_whitespace (char_in args 0))
character_effect character.CharValue kinds args h = gives_int (pos (char_value (reference_in args 0) h))
character_effect character.Equals kinds args h =
    gives_boolean (same_boxes kinds character_kind (reference_in args 0) (reference_in args 1) h)
character_effect character.HashCode kinds args h = gives_int (pos (char_value (reference_in args 0) h))
character_effect character.ToText kinds args h = MakesText (char_value (reference_in args 0) h ∷ [])

-- ---- java/lang/Boolean

abbrev pub bit_of : Bool → ℕ
bit_of b = if b then 1 else 0

abbrev pub hash_of_boolean : Bool → ℤ
hash_of_boolean b = if b then pos 1231 else pos 1237

abbrev pub boolean_value : ℕ → HeapView → Bool
boolean_value object h = not (int_eq (int_field object 0 h) (pos 0))

-- null is not true
abbrev pub parse_boolean : ℕ → HeapView → Bool
parse_boolean object h = is_true (text_at object h)

abbrev pub boolean_effect : BooleanMethod → KindsView → List Datum → HeapView → NativeEffect
boolean_effect boolean.ValueOf kinds args h =
    GivesBox boolean_kind (bit_of (boolean_in args 0)) (Int (pos (bit_of (boolean_in args 0))))
boolean_effect boolean.Parse kinds args h = gives_boolean (parse_boolean (reference_in args 0) h)
boolean_effect boolean.BooleanValue kinds args h = gives_boolean (boolean_value (reference_in args 0) h)
boolean_effect boolean.Equals kinds args h =
    gives_boolean (same_boxes kinds boolean_kind (reference_in args 0) (reference_in args 1) h)
boolean_effect boolean.HashCode kinds args h = gives_int (hash_of_boolean (boolean_value (reference_in args 0) h))
boolean_effect boolean.ToText kinds args h = MakesText (text_of_boolean (boolean_value (reference_in args 0) h))

-- ---- java/lang/Math

-- the least value is its own
abbrev pub absolute_int : ℤ → ℤ
absolute_int n = if int_lt n (pos 0) then wrapped_negation w32 n else n

abbrev pub absolute_long : ℤ → ℤ
absolute_long n = if int_lt n (pos 0) then wrapped_negation w64 n else n

abbrev pub math_effect : MathMethod → List Datum → NativeEffect
math_effect AbsInt args = gives_int (absolute_int (int_in args 0))
math_effect MaxInt args = gives_int (int_max (int_in args 0) (int_in args 1))
math_effect MinInt args = gives_int (int_min (int_in args 0) (int_in args 1))
math_effect AbsLong args = gives_long (absolute_long (long_in args 0))
math_effect MaxLong args = gives_long (int_max (long_in args 0) (long_in args 1))
math_effect MinLong args = gives_long (int_min (long_in args 0) (long_in args 1))
