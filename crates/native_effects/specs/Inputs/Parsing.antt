-- Numbers read from texts: an optional `-` and one or more ASCII digits. Nothing else is a number.
use Rattle.std.specs.Prelude.{ℕ, ◌+◌, ◌-◌, ◌*◌, ◌==◌, ◌^◌, ℤ, pos, neg_ℤ, Bool, List, [], ◌∷◌, length, map, Option, Some, None, option_and_then, nat_le, if◌then◌else◌, ◌&&◌, codes}
use Rattle.std.specs.Option.{option_map}
use Rattle.std.specs.Str.{bytes_eq}

abbrev pub is_digit : ℕ → Bool
is_digit u = nat_le 48 u && nat_le u 57

-- the number that digits write behind those of a number
abbrev pub read_digits : ℕ → List ℕ → Option ℕ
read_digits n [] = Some n
read_digits n (u ∷ units) = if is_digit u then read_digits (n * 10 + (u - 48)) units else None

-- the number, where it is no greater than the greatest
abbrev pub up_to : ℕ → Option ℕ → Option ℕ
up_to greatest number = option_and_then (λ n. if nat_le n greatest then Some n else None) number

-- the number that one or more digits write, where it is no greater than the greatest
abbrev pub magnitude : ℕ → List ℕ → Option ℕ
magnitude greatest units = if length units == 0 then None else up_to greatest (read_digits 0 units)

abbrev pub negative : ℕ → ℤ
negative n = neg_ℤ (pos n)

-- the number of a text, where it is one of those below 2 ^ bits in two's complement with one bit more
abbrev pub number_parsed : ℕ → List ℕ → Option ℤ
number_parsed bits [] = None
number_parsed bits (u ∷ units) =
    if u == 45
    then option_map negative (magnitude (2 ^ bits) units)
    else option_map pos (magnitude (2 ^ bits - 1) (u ∷ units))

abbrev pub lower_case : ℕ → ℕ
lower_case u = if nat_le 65 u && nat_le u 90 then u + 32 else u

-- `true`, in any ASCII case
abbrev pub is_true : List ℕ → Bool
is_true units = bytes_eq (map lower_case units) (codes "true")
