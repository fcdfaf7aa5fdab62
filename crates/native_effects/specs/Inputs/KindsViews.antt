-- The classes of a run, as native methods see them: by their kinds.
use Rattle.std.specs.Prelude.{ℕ, zero, suc, ◌==◌, Bool, true, false, List, Option, nat_lt, if◌then◌else◌, ◌&&◌}
use Rattle.std.specs.Option.{option_map_or}
use Rattle.heap_objects.specs.Heaps.{HeapView, kind_at}
use Rattle.native_effects.specs.Inputs.Numbers.{first_array_kind}

-- the name of a loaded class, its direct superclass, and whether what has one kind also has another
pub record KindsView : Type 0 where
  pub name : ℕ → Option (List ℕ)
  pub above : ℕ → Option ℕ
  pub subtype : ℕ → ℕ → Bool

-- Whether a class is among these: a class, its direct superclass, and so on, so many of them.
unfoldable pub is_among : (ℕ → Option ℕ) → ℕ → ℕ → ℕ → Bool
is_among above zero lower upper = false
is_among above (suc n) lower upper =
    if lower == upper then true else option_map_or (λ k. is_among above n k upper) (above lower) false

-- Whether a class is another one or extends it, which a class does that has its fields. An interface's superclass does
-- not count. The numbers of classes are below 2 ^ 24, so no class has more superclasses.
abbrev pub extends : KindsView → ℕ → ℕ → Bool
extends kinds lower upper = nat_lt lower first_array_kind && is_among kinds.above 16777216 lower upper

-- an object's class is this class or extends it
abbrev pub is_instance : KindsView → ℕ → ℕ → HeapView → Bool
is_instance kinds kind object h = option_map_or (λ k. extends kinds k kind) (kind_at object h) false
