-- How many slots a value takes, and how slots hold values.
use Rattle.std.specs.Prelude.{ℕ, ◌+◌, Bool, true, false, List, [], ◌∷◌, ◌++◌, Option, Some, None, if◌then◌else◌}
use Rattle.heap_objects.specs.declared.Value.{Value}
use Rattle.heap_objects.specs.declared.Value.TheVariants.{Int, Long, Ref, Addr}

abbrev pub is_long : Value → Bool
is_long (Int n) = false
is_long (Long n) = true
is_long (Ref n) = false
is_long (Addr n) = false

-- a long takes two slots
abbrev pub width : Value → ℕ
width v = if is_long v then 2 else 1

abbrev pub height_of : List Value → ℕ
height_of [] = 0
height_of (v ∷ vs) = width v + height_of vs

-- the slots of a value, the lowest first: a long stands in its first slot, and nothing in its second
abbrev pub slots_of : Value → List (Option Value)
slots_of v = if is_long v then Some v ∷ None ∷ [] else Some v ∷ []

-- values one after another
abbrev pub slots_of_all : List Value → List (Option Value)
slots_of_all [] = []
slots_of_all (v ∷ vs) = slots_of v ++ slots_of_all vs
