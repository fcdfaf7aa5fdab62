-- A word that names a method: class, dot, method name, descriptor.
use Rattle.std.specs.Prelude.{◌≡◌, ℕ, ◌+◌, Bool, List, [], ◌∷◌, map, take, drop, slice_range, Option, Some, None, position, ◌==◌, ◌||◌, if◌then◌else◌}
use Rattle.std.specs.Option.{option_and_then}
use Rattle.jf_bytes.specs.Unicode.{utf16_of}
use Rattle.const_pool.specs.Descriptors.{IsMethodText}
use Rattle.plan_text.specs.declared.plan.RootName.{RootName}

-- `(`, with which a descriptor begins
abbrev pub is_open : ℕ → Bool
is_open unit = unit == 40

-- one place further, or this one where it is a dot
abbrev pub dot_here : ℕ → Option ℕ → Option ℕ
dot_here unit (Some place) = Some (place + 1)
dot_here unit None = if unit == 46 then Some 0 else None

-- the place of the last dot
abbrev pub last_dot : List ℕ → Option ℕ
last_dot [] = None
last_dot (unit ∷ rest) = dot_here unit (last_dot rest)

abbrev pub slash_for_dot : ℕ → ℕ
slash_for_dot unit = if unit == 46 then 47 else unit

-- a name in its internal form (JVM Specification 4.2.1)
abbrev pub name_slashed : List ℕ → List ℕ
name_slashed name = map slash_for_dot name

-- the parts, where the class and the name are not empty
abbrev pub root_at : List ℕ → ℕ → ℕ → Option RootName
root_at units open_at dot =
    if dot == 0 || dot + 1 == open_at then None
    else Some (record { class = name_slashed (take dot units); name = slice_range units (dot + 1) open_at; descriptor = drop open_at units })

-- the last dot before the first `(` divides the class from the name
abbrev pub root_in : List ℕ → Option RootName
root_in units = option_and_then (λ open_at. option_and_then (root_at units open_at) (last_dot (take open_at units))) (position is_open units)

-- The word, in UTF-8, names this method: its descriptor is one (JVM Specification 4.3.3).
pub record IsRoot (word : List ℕ) (r : RootName) : Type 0 where
  pub parts : root_in (utf16_of word) ≡ Some r
  pub described : IsMethodText r.descriptor

-- it names none
abbrev pub IsNoRoot : List ℕ → Type 0
IsNoRoot word = (r : RootName) → IsRoot word r → ⊥
