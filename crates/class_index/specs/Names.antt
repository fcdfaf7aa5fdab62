-- The names of classes with the positions of the classes, in order: the first class of a name counts.
use Rattle.std.specs.Prelude.{ℕ, ◌+◌, List, [], ◌∷◌, ◌++◌, Option, Some, None, is_some, if◌then◌else◌}
use Rattle.std.specs.Str.{bytes_eq}
use Rattle.std.specs.Map.{lookup}
use Rattle.const_pool.specs.declared.class.ClassFile.{ClassFile}
use Rattle.jvm_model.specs.Basis.Programs.{name_of}

abbrev pub Entries : Type 0
Entries = List (List ℕ × ℕ)

-- the position that stands with equal units
abbrev pub position_of : List ℕ → Entries → Option ℕ
position_of name entries = lookup (bytes_eq name) entries

abbrev pub with_named : List ℕ → ℕ → Entries → Entries
with_named name position entries = entries ++ (name, position) ∷ []

abbrev pub with_first : List ℕ → ℕ → Entries → Entries
with_first name position entries = if is_some (position_of name entries) then entries else with_named name position entries

abbrev pub with_name : Option (List ℕ) → ℕ → Entries → Entries
with_name None position entries = entries
with_name (Some name) position entries = with_first name position entries

-- with the names of these classes, of which the first has this position
abbrev pub named_from : ℕ → List ClassFile → Entries → Entries
named_from at [] entries = entries
named_from at (c ∷ rest) entries = named_from (at + 1) rest (with_name (name_of c) at entries)
