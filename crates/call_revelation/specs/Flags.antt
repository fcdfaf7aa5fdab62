-- Flags of methods.
use Rattle.std.specs.Prelude.{◌≡◌, ℕ, Bool, false, List, slice_get, unwrap_or}
use Rattle.jvm_model.specs.Classes.Load.{is_among}

-- a number that is no method's has no flag
abbrev pub flag_at : List Bool → ℕ → Bool
flag_at flags m = unwrap_or (slice_get flags m) false

-- the flag of each method says whether it is one of these
abbrev pub AreFlagged : List Bool → List ℕ → Type 0
AreFlagged flags methods = (m : ℕ) → flag_at flags m ≡ is_among m methods
