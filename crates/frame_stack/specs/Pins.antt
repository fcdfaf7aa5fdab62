-- Counters by the versions' numbers: how many of the frames below the top one run each.
use Rattle.std.specs.Prelude.{◌≡◌, ℕ, ◌<◌, Bool, List, Option, Some, None, IfSome, count_by, get_or, length, ◌==◌, if◌then◌else◌}
use Rattle.heap_objects.specs.declared.Value.{Value}
use Rattle.frame_stack.specs.declared.entry.Entry.{Entry}
use Rattle.frame_stack.specs.Cuts.{IsFlat}

abbrev pub runs : ℕ → Entry → Bool
runs version e = e.version == version

-- one where the top frame runs the version
abbrev pub pins_of_top : ℕ → Option Entry → ℕ
pins_of_top version None = 0
pins_of_top version (Some e) = if runs version e then 1 else 0

-- there is a counter for the top frame's version
abbrev pub HasCounter : List ℕ → Option Entry → Type 0
HasCounter counters None = Unit {0}
HasCounter counters (Some e) = e.version < length counters

-- Where there is room for one more frame, the top one can be counted.
pub record AreCounted (counters : List ℕ) (top : Option Entry) (below : List Entry) (spare : Option ℕ) : Type 0 where
  pub counts : (version : ℕ) → get_or counters version 0 ≡ count_by (runs version) below
  pub next : IfSome spare (λ _. HasCounter counters top)

-- the fields of `Frames`
pub record AreKept (top : Option Entry) (below : List Entry) (below_capacity : ℕ) (slots : List (Option Value)) (capacity : ℕ) (spare : Option ℕ) (counters : List ℕ) : Type 0 where
  pub flat : IsFlat top below below_capacity slots capacity spare
  pub counted : AreCounted counters top below spare
