-- What the names of lines came to, kept by version and place (JVM Specification 5.4.3).
use Rattle.std.specs.Prelude.{◌≡◌, ◌⊎◌, ℕ, List, slice_get, Option, Some, None}
use Rattle.std.specs.Option.{option_and_then, option_flatten}
use Rattle.member_selection.specs.declared.known.Known.{Known}

abbrev pub Rows : Type 0
Rows = List (List (Option Known))

abbrev pub item_at : List (Option Known) → ℕ → Option Known
item_at row place = option_flatten (slice_get row place)

abbrev pub cell_at : Rows → ℕ → ℕ → Option Known
cell_at rows version place = option_and_then (λ row. item_at row place) (slice_get rows version)

-- nothing is kept that was not, but this at its place; it may be that less is kept
pub record KeepsItem (place : ℕ) (known : Known) (old new : List (Option Known)) : Type 0 where
  pub each : (other : ℕ) (k : Known) → item_at new other ≡ Some k → (item_at old other ≡ Some k) ⊎ ((other ≡ place) × (k ≡ known))

pub record Keeps (version place : ℕ) (known : Known) (old new : Rows) : Type 0 where
  pub each : (v other : ℕ) (k : Known) → cell_at new v other ≡ Some k → (cell_at old v other ≡ Some k) ⊎ ((v ≡ version) × (other ≡ place) × (k ≡ known))

-- the same where something was learnt; where nothing was nothing changes
abbrev pub Learns : ℕ → ℕ → Option Known → Rows → Rows → Type 0
Learns version place None old new = new ≡ old
Learns version place (Some known) old new = Keeps version place known old new
