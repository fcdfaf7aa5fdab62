-- Texts of UTF-16 units and texts in UTF-8, as Unicode has them.
use Rattle.std.specs.Prelude.{ℕ, List, map, unwrap_or, encode_utf8_all}
use Rattle.std.specs.List.{flat_map}
use Rattle.std.specs.Str.{chars}
use Rattle.std.specs.Char.Escape.{encode_utf16}
use Rattle.std.specs.Char.Utf16.{utf16_chars}

-- The characters of a text. A unit D800 to DBFF and a unit DC00 to DFFF behind it are one character, and each other
-- unit from D800 to DFFF, which has no partner, is shown as `?`.
abbrev pub shown_chars : List ℕ → List ℕ
shown_chars units = map (λ c. unwrap_or c 63) (utf16_chars units)

-- a text in UTF-8
abbrev pub utf8_of : List ℕ → List ℕ
utf8_of units = encode_utf8_all (shown_chars units)

-- the units of a text that is in UTF-8: one for each character up to U+FFFF, two surrogates for each above
abbrev pub utf16_of : List ℕ → List ℕ
utf16_of text = flat_map encode_utf16 (chars text)
