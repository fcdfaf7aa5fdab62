-- Texts whose bytes are known from outside.
use Rattle.std.proofs.Common.{◌≡◌, ℕ, List, [], ◌∷◌, refl}
use Rattle.std.specs.Str.{chars}
use Rattle.std.specs.Char.{encode_utf8}
use Rattle.std.specs.Char.Utf16.{utf16_chars}
use Rattle.jf_bytes.specs.ModifiedUtf8.{modified_utf8}
use Rattle.jf_bytes.specs.Unicode.{utf8_of, utf16_of}

-- ---- a zero and a pair

abbrev zero_and_pair : List ℕ
zero_and_pair = 0x41 ∷ 0 ∷ 0xD83D ∷ 0xDE00 ∷ []

modified : modified_utf8 zero_and_pair ≡ 0x41 ∷ 0xC0 ∷ 0x80 ∷ 0xED ∷ 0xA0 ∷ 0xBD ∷ 0xED ∷ 0xB8 ∷ 0x80 ∷ []
modified = refl

plain : utf8_of zero_and_pair ≡ 0x41 ∷ 0 ∷ 0xF0 ∷ 0x9F ∷ 0x98 ∷ 0x80 ∷ []
unfolding utf16_chars encode_utf8
plain = refl

-- ---- a surrogate without a partner is a question mark

pair : utf8_of (0xD83D ∷ 0xDE00 ∷ []) ≡ 0xF0 ∷ 0x9F ∷ 0x98 ∷ 0x80 ∷ []
unfolding utf16_chars encode_utf8
pair = refl

least_pair : utf8_of (0xD800 ∷ 0xDC00 ∷ []) ≡ 0xF0 ∷ 0x90 ∷ 0x80 ∷ 0x80 ∷ []
unfolding utf16_chars encode_utf8
least_pair = refl

greatest_pair : utf8_of (0xDBFF ∷ 0xDFFF ∷ []) ≡ 0xF4 ∷ 0x8F ∷ 0xBF ∷ 0xBF ∷ []
unfolding utf16_chars encode_utf8
greatest_pair = refl

low_first : utf8_of (0xDE00 ∷ 0xD83D ∷ []) ≡ 63 ∷ 63 ∷ []
unfolding utf16_chars encode_utf8
low_first = refl

two_high : utf8_of (0xD83D ∷ 0xD83D ∷ []) ≡ 63 ∷ 63 ∷ []
unfolding utf16_chars encode_utf8
two_high = refl

two_low : utf8_of (0xDE00 ∷ 0xDE00 ∷ []) ≡ 63 ∷ 63 ∷ []
unfolding utf16_chars encode_utf8
two_low = refl

high_and_letter : utf8_of (0xD83D ∷ 0x41 ∷ []) ≡ 63 ∷ 0x41 ∷ []
unfolding utf16_chars encode_utf8
high_and_letter = refl

high_last : utf8_of (0x41 ∷ 0xDBFF ∷ []) ≡ 0x41 ∷ 63 ∷ []
unfolding utf16_chars encode_utf8
high_last = refl

beside_surrogates : utf8_of (0xD7FF ∷ 0xE000 ∷ []) ≡ 0xED ∷ 0x9F ∷ 0xBF ∷ 0xEE ∷ 0x80 ∷ 0x80 ∷ []
unfolding utf16_chars encode_utf8
beside_surrogates = refl

high_before_a_pair : utf8_of (0xD83D ∷ 0xD83D ∷ 0xDE00 ∷ []) ≡ 63 ∷ 0xF0 ∷ 0x9F ∷ 0x98 ∷ 0x80 ∷ []
unfolding utf16_chars encode_utf8
high_before_a_pair = refl

-- ---- the units of a text in UTF-8

no_units : utf16_of [] ≡ []
unfolding chars
no_units = refl

letters : utf16_of (0x41 ∷ 0x7A ∷ []) ≡ 0x41 ∷ 0x7A ∷ []
unfolding chars
letters = refl

zero_unit : utf16_of (0 ∷ []) ≡ 0 ∷ []
unfolding chars
zero_unit = refl

two_bytes : utf16_of (0xC3 ∷ 0xA9 ∷ []) ≡ 0xE9 ∷ []
unfolding chars
two_bytes = refl

three_bytes : utf16_of (0xE2 ∷ 0x82 ∷ 0xAC ∷ []) ≡ 0x20AC ∷ []
unfolding chars
three_bytes = refl

greatest_unit : utf16_of (0xEF ∷ 0xBF ∷ 0xBF ∷ []) ≡ 0xFFFF ∷ []
unfolding chars
greatest_unit = refl

four_bytes : utf16_of (0xF0 ∷ 0x9F ∷ 0x98 ∷ 0x80 ∷ []) ≡ 0xD83D ∷ 0xDE00 ∷ []
unfolding chars
four_bytes = refl

greatest_character : utf16_of (0xF4 ∷ 0x8F ∷ 0xBF ∷ 0xBF ∷ 0x21 ∷ []) ≡ 0xDBFF ∷ 0xDFFF ∷ 0x21 ∷ []
unfolding chars
greatest_character = refl
