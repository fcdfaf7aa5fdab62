-- The hash by which a name is found.
use Rattle.std.specs.Prelude.{ℕ, ◌+◌, ◌*◌, ◌%◌, Bool, true, false, List, [], ◌∷◌, fold, slice_get, ◌==◌, ◌&&◌}
use Rattle.std.specs.Option.{option_map_or}
use Rattle.const_pool.specs.BuiltIn.{built_in_names}

-- a unit behind units of this hash
abbrev pub hash_step : ℕ → ℕ → ℕ
hash_step hash unit = (hash * 19 + unit % 512) % 512

abbrev pub hash_of : List ℕ → ℕ
hash_of units = fold hash_step 0 units

-- at the hash of each of these names stands its place, counted from here on
abbrev pub finds_from : List ℕ → ℕ → List (List ℕ) → Bool
finds_from slots place [] = true
finds_from slots place (name ∷ names) = option_map_or (λ found. found == place) (slice_get slots (hash_of name)) false && finds_from slots (place + 1) names

-- at the hash of the name of each built-in class stands its place
abbrev pub finds_each : List ℕ → Bool
finds_each slots = finds_from slots 0 built_in_names
