-- One text worked out, to see that the definitions say what they should: A, U+0000 and U+1F600.
use Rattle.std.proofs.Common.{◌≡◌, ℕ, List, [], ◌∷◌, refl}
use Rattle.std.specs.Char.{encode_utf8}
use Rattle.std.specs.Char.Utf16.{utf16_chars}
use Rattle.std.specs.Str.{chars}
use Rattle.jf_bytes.specs.ModifiedUtf8.{modified_utf8}
use Rattle.jf_bytes.specs.Unicode.{utf8_of, utf16_of}

abbrev row : List ℕ
row = 0x41 ∷ 0 ∷ 0xD83D ∷ 0xDE00 ∷ []

abbrev row_utf8 : List ℕ
row_utf8 = 0x41 ∷ 0 ∷ 0xF0 ∷ 0x9F ∷ 0x98 ∷ 0x80 ∷ []

spelled : modified_utf8 row ≡ 0x41 ∷ 0xC0 ∷ 0x80 ∷ 0xED ∷ 0xA0 ∷ 0xBD ∷ 0xED ∷ 0xB8 ∷ 0x80 ∷ []
spelled = refl

shown : utf8_of row ≡ row_utf8
unfolding utf16_chars encode_utf8
shown = refl

read : utf16_of row_utf8 ≡ row
unfolding chars
read = refl

-- two surrogates in the wrong order have no partner
lone : utf8_of (0xDE00 ∷ 0xD83D ∷ []) ≡ 63 ∷ 63 ∷ []
unfolding utf16_chars encode_utf8
lone = refl
