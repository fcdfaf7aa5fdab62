-- Decoding modified UTF-8 from left to right (JVM Specification 4.4.7): the units of a text, or the offset of the first
-- bad byte. Only functions of this crate cite it. That these are the texts and the bad bytes of `Spelling` is proved in
-- Decoded.
use Rattle.std.specs.Prelude.{ℕ, zero, suc, ◌+◌, ◌*◌, ◌%◌, Bool, ◌&&◌, List, [], ◌∷◌, length, drop, Result, Ok, Err, nat_le, ◌==◌, slice_index, if◌then◌else◌}
use Rattle.jf_bytes.specs.ModifiedUtf8.{unit_bytes}

-- the byte is neither below the one nor above the other
abbrev pub is_between : ℕ → ℕ → ℕ → Bool
is_between least byte most = nat_le least byte && nat_le byte most

-- the unit of two bytes, of which the first is right, or the offset of the second, which is bad
abbrev pub double_unit : ℕ → ℕ → ℕ → Result ℕ ℕ
double_unit a b most = if is_between 128 b most then Ok ((a % 32) * 64 + b % 64) else Err 1

-- the unit of three bytes, of which the first is right, or the offset of the first bad one
abbrev pub triple_unit : ℕ → ℕ → ℕ → ℕ → Result ℕ ℕ
triple_unit a b c least =
    if is_between least b 191
    then (if is_between 128 c 191 then Ok ((a % 16) * 4096 + (b % 64) * 64 + c % 64) else Err 2)
    else Err 1

-- The unit that these three bytes begin with, or the offset of the first bad one. After 192 there is the one byte of
-- U+0000, and after 224 a byte of a unit from 2048 on, so that no unit has two spellings.
abbrev pub first_unit : ℕ → ℕ → ℕ → Result ℕ ℕ
first_unit a b c =
    if is_between 1 a 127 then Ok a
    else if a == 192 then double_unit a b 128
    else if is_between 194 a 223 then double_unit a b 191
    else if a == 224 then triple_unit a b c 160
    else if is_between 225 a 239 then triple_unit a b c 128
    else Err 0

-- the unit at the front, where a byte that is not there counts as 0, which no text has
abbrev pub front_unit : List ℕ → Result ℕ ℕ
front_unit bytes = first_unit (slice_index bytes 0) (slice_index bytes 1) (slice_index bytes 2)

-- a unit before what the bytes behind it gave
abbrev pub after_unit : ℕ → Result (List ℕ) ℕ → Result (List ℕ) ℕ
after_unit unit (Ok units) = Ok (unit ∷ units)
after_unit unit (Err at) = Err (length (unit_bytes unit) + at)

-- what the unit at the front is followed by, where there is one
abbrev pub then_decoded : (List ℕ → Result (List ℕ) ℕ) → List ℕ → Result ℕ ℕ → Result (List ℕ) ℕ
then_decoded rest bytes (Ok unit) = after_unit unit (rest (drop (length (unit_bytes unit)) bytes))
then_decoded rest bytes (Err at) = Err at

-- The same in at most so many turns. Each takes a byte or more, so that as many turns as there are bytes are enough.
unfoldable pub decoded_from : ℕ → List ℕ → Result (List ℕ) ℕ
decoded_from fuel [] = Ok []
decoded_from zero (byte ∷ bytes) = Err 0
decoded_from (suc fuel) (byte ∷ bytes) = then_decoded (decoded_from fuel) (byte ∷ bytes) (front_unit (byte ∷ bytes))

-- the units of a text, or the offset of its first bad byte, which is the length where the text ends early
unfoldable pub text_decoded : List ℕ → Result (List ℕ) ℕ
text_decoded bytes = decoded_from (length bytes) bytes
