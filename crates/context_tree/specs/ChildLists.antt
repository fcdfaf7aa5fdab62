-- The children of nodes as the program keeps them: for each node the method and the number of each child, in order.
use Rattle.std.specs.Prelude.{◌≡◌, ℕ, List, [], ◌∷◌, ◌++◌, Option, nat_eq, slice_set, slice_index_or, Result, is_ok, if◌then◌else◌}
use Rattle.std.specs.Map.{lookup}

-- the children of a node, or none past the end
abbrev pub list_at : ℕ → List (List (ℕ × ℕ)) → List (ℕ × ℕ)
list_at node lists = slice_index_or lists node []

-- the number that stands with a method
abbrev pub number_under : ℕ → List (ℕ × ℕ) → Option ℕ
number_under method entries = lookup (nat_eq method) entries

-- one child more for a node
abbrev pub with_entry : ℕ → ℕ × ℕ → List (List (ℕ × ℕ)) → List (List (ℕ × ℕ))
with_entry node entry lists = slice_set lists node (list_at node lists ++ entry ∷ [])

-- where the call was refused, nothing has changed
abbrev pub Becomes : {A E S : Type 0} → Result A E → S → S → S → Type 0
Becomes result old new changed = new ≡ (if is_ok result then changed else old)
