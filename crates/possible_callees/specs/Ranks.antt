-- The places of classes in load order.
use Rattle.std.specs.Prelude.{◌≡◌, ℕ, suc, List, [], ◌∷◌, Option, Some, None, slice_get, ◌==◌, if◌then◌else◌}
use Rattle.std.specs.Option.{option_map}

-- none of them stands there twice
abbrev pub AreDistinct : List ℕ → Type 0
AreDistinct classes = (i j class : ℕ) → slice_get classes i ≡ Some class → slice_get classes j ≡ Some class → i ≡ j

-- the place of each of these classes is kept by its number
abbrev pub IsRanked : List ℕ → List ℕ → Type 0
IsRanked ranks classes = (rank class : ℕ) → slice_get classes rank ≡ Some class → slice_get ranks class ≡ Some rank

-- the first place of a class
abbrev pub rank_of : ℕ → List ℕ → Option ℕ
rank_of class [] = None
rank_of class (first ∷ rest) = if class == first then Some 0 else option_map suc (rank_of class rest)
