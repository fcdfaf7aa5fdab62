-- How multianewarray reads its operands and counts slots.
use Rattle.std.specs.Prelude.{◌-◌, ℕ, List, [], ◌∷◌, ◌++◌, Option, Some, None, ℤ, pos, negsuc, nat_lt, if◌then◌else◌}
use Rattle.heap_objects.specs.declared.Value.{Value}
use Rattle.heap_objects.specs.declared.Value.TheVariants.{Int}
use Rattle.class_linker.specs.Linkers.{LinkerView}
use Rattle.member_selection.specs.Objects.{IsUsable}

abbrev pub int_at : Option Value → Option ℤ
int_at (Some (Int n)) = Some n
int_at _ = None

-- the lengths so far, with those that are left, where none is negative
abbrev pub lengths_from : List ℕ → List ℤ → Option (List ℕ)
lengths_from out [] = Some out
lengths_from out (pos n ∷ more) = lengths_from (out ++ n ∷ []) more
lengths_from out (negsuc n ∷ more) = None

-- a number, or the greatest that an index can be where it is greater
abbrev pub number_capped : ℕ → ℕ
number_capped n = if nat_lt n 18446744073709551616 then n else 18446744073709551615

-- the classes of arrays of a kind, and of their parts, are loaded
abbrev pub AreUsable : LinkerView → ℕ → List ℕ → Type 0
AreUsable l kind [] = Unit {0}
AreUsable l kind (n ∷ []) = IsUsable l kind
AreUsable l kind (n ∷ next ∷ more) = IsUsable l kind × AreUsable l (kind - 16777216) (next ∷ more)
