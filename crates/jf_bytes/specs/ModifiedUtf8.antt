-- Modified UTF-8: the bytes of a text in a class file (JVM Specification 4.4.7).
use Rattle.std.specs.Prelude.{ℕ, ◌+◌, ◌/◌, ◌%◌, List, [], ◌∷◌, nat_lt, ◌==◌, if◌then◌else◌}
use Rattle.std.specs.List.{flat_map}

-- one byte, without its high bit
abbrev pub one_byte : ℕ → List ℕ
one_byte unit = unit ∷ []

-- two bytes: 110 and the high five of eleven bits, 10 and the low six
abbrev pub two_bytes : ℕ → List ℕ
two_bytes unit = (192 + unit / 64) ∷ (128 + unit % 64) ∷ []

-- three bytes: 1110 and the high four of sixteen bits, and twice 10 and six bits
abbrev pub three_bytes : ℕ → List ℕ
three_bytes unit = (224 + unit / 4096) ∷ (128 + (unit / 64) % 64) ∷ (128 + unit % 64) ∷ []

-- The bytes of one UTF-16 unit. Units 1 to 127 have one byte, and 0 has two, so that no text has a byte 0.
abbrev pub unit_bytes : ℕ → List ℕ
unit_bytes unit = if unit == 0 then two_bytes unit else if nat_lt unit 128 then one_byte unit else if nat_lt unit 2048 then two_bytes unit else three_bytes unit

-- the bytes of a text
abbrev pub modified_utf8 : List ℕ → List ℕ
modified_utf8 units = flat_map unit_bytes units
