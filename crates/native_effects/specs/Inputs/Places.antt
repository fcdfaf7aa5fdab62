-- Places in a text or an array.
use Rattle.std.specs.Prelude.{ℕ, ◌+◌, ◌-◌, ◌/◌, ◌%◌, ◌==◌, ℤ, pos, negsuc, List, [], ◌∷◌, Option, Some, None, nat_lt, nat_le, take, drop, if◌then◌else◌, ◌&&◌}
use Rattle.std.specs.List.{position_from}

-- the place, where it is one of so many
abbrev pub place_in : ℤ → ℕ → Option ℕ
place_in (pos n) size = if nat_lt n size then Some n else None
place_in (negsuc n) size = None

-- from one place to another, where both are of so many or its end, and in this order
abbrev pub range_in : ℤ → ℤ → ℕ → Option (ℕ × ℕ)
range_in (pos from) (pos to) size = if nat_le from to && nat_le to size then Some (from, to) else None
range_in (pos from) (negsuc to) size = None
range_in (negsuc from) to size = None

-- from one place to the end
abbrev pub range_from : ℤ → ℕ → Option (ℕ × ℕ)
range_from (pos from) size = if nat_le from size then Some (from, size) else None
range_from (negsuc from) size = None

-- so many from one place on, where they are within so many
abbrev pub counted_range : ℤ → ℤ → ℕ → Option (ℕ × ℕ)
counted_range (pos from) (pos count) size = if nat_le (from + count) size then Some (from, from + count) else None
counted_range (pos from) (negsuc count) size = None
counted_range (negsuc from) count size = None

-- what stands from one place to another
abbrev pub between : {A : Type 0} → ℕ → ℕ → List A → List A
between from to xs = take (to - from) (drop from xs)

-- the place of the first of two units that stand side by side, where the list starts at a place
abbrev pub pair_from : ℕ → ℕ → ℕ → List ℕ → Option ℕ
pair_from first second place [] = None
pair_from first second place (u ∷ []) = None
pair_from first second place (u ∷ v ∷ units) =
    if u == first && v == second then Some place else pair_from first second (place + 1) (v ∷ units)

-- The place of the first unit or pair of units that a number is the character of: a number above U+FFFF is a pair's.
abbrev pub place_of_character : ℤ → List ℕ → Option ℕ
place_of_character (pos c) units =
    if nat_lt c 65536 then position_from (λ u. u == c) 0 units else
    if nat_lt c 1114112 then pair_from (55296 + (c - 65536) / 1024) (56320 + (c - 65536) % 1024) 0 units
    else None
place_of_character (negsuc c) units = None
