-- Subtypes of arrays, and the names of arrays (JVM Specification 4.3.2, 4.4.1, 4.10.1.2), by the numbers of kinds.
use Rattle.std.specs.Prelude.{ℕ, ◌+◌, Bool, false, not, List, [], ◌∷◌, length, Option, Some, None, nat_lt, nat_le, unwrap_or, take, position, ◌==◌, ◌&&◌, ◌||◌, if◌then◌else◌}
use Rattle.std.specs.Option.{option_and_then, option_map}
use Rattle.jvm_model.specs.declared.program.Program.{Program}
use Rattle.jvm_model.specs.Basis.Programs.{class_named}
use Rattle.jvm_model.specs.Basis.KindNumbers.{base_of_class, class_of_base, KindParts, kind_number}
use Rattle.jvm_model.specs.Classes.Lookup.{is_subtype}

-- java/lang/Object, java/lang/Cloneable and java/io/Serializable stand first among the built-in classes: what an array
-- also is
abbrev pub is_above_arrays : ℕ → Bool
is_above_arrays base = base == 16 || base == 17 || base == 18

-- the same primitive element, or a subtype among classes
abbrev pub is_subbase_of : Program → ℕ → ℕ → Option ℕ → Option ℕ → Bool
is_subbase_of p lower upper (Some a) (Some b) = is_subtype p a b
is_subbase_of p lower upper None None = lower == upper
is_subbase_of p lower upper _ _ = false

abbrev pub is_subbase : Program → ℕ → ℕ → Bool
is_subbase p lower upper = is_subbase_of p lower upper (class_of_base p lower) (class_of_base p upper)

-- An array is a subtype of one with as many dimensions whose element is above its own, and of arrays of fewer
-- dimensions, or none, of what every array is.
abbrev pub is_subkind : Program → KindParts → KindParts → Bool
is_subkind p lower upper =
    if lower.dimensions == upper.dimensions then is_subbase p lower.base upper.base
    else nat_lt upper.dimensions lower.dimensions && is_above_arrays upper.base

-- ---- names of arrays

-- what a name stands for: a class by its name, or an array with its element: a code of newarray, or the name of a class
pub data Element : Type 0 where
  Primitive : ℕ → Element
  Named : List ℕ → Element

pub record Meaning : Type 0 where
  pub dimensions : ℕ
  pub element : Element

-- the code of newarray for the descriptor's letter (6.5, newarray)
abbrev pub primitive_code : ℕ → Option ℕ
primitive_code unit =
    if unit == 90 then Some 4 else
    if unit == 67 then Some 5 else
    if unit == 70 then Some 6 else
    if unit == 68 then Some 7 else
    if unit == 66 then Some 8 else
    if unit == 83 then Some 9 else
    if unit == 73 then Some 10 else
    if unit == 74 then Some 11 else None

-- a class's name, up to the one semicolon at the end
abbrev pub before_semicolon : List ℕ → Option (List ℕ)
before_semicolon units =
    option_and_then (λ at. if at + 1 == length units then Some (take at units) else None) (position (λ unit. unit == 59) units)

-- behind the dimensions: a letter, or a class between L and the semicolon
abbrev pub element_of : List ℕ → Option Element
element_of [] = None
element_of (unit ∷ []) = option_map Primitive (primitive_code unit)
element_of (unit ∷ next ∷ rest) =
    if unit == 76 && not (next == 59) then option_map Named (before_semicolon (next ∷ rest)) else None

abbrev pub array_meaning : ℕ → Element → Meaning
array_meaning dimensions element = record { dimensions = dimensions; element = element }

-- behind so many of at most 255 dimensions
abbrev pub array_from : ℕ → List ℕ → Option Meaning
array_from dimensions [] = None
array_from dimensions (unit ∷ rest) =
    if unit == 91 then array_from (dimensions + 1) rest
    else if nat_le dimensions 255 then option_map (array_meaning dimensions) (element_of (unit ∷ rest))
    else None

-- a name that begins as an array's
abbrev pub is_array_name : List ℕ → Bool
is_array_name [] = false
is_array_name (unit ∷ rest) = unit == 91

-- one that begins so and is no descriptor is the name of no class
abbrev pub meaning_of : List ℕ → Meaning
meaning_of name = if is_array_name name then unwrap_or (array_from 0 name) (array_meaning 0 (Named name)) else array_meaning 0 (Named name)

abbrev pub base_of_element : Program → Element → Option ℕ
base_of_element p (Primitive code) = Some code
base_of_element p (Named name) = option_map (base_of_class p) (class_named p name)

abbrev pub parts_named : Program → Meaning → Option KindParts
parts_named p m = option_map (λ base. record { dimensions = m.dimensions; base = base }) (base_of_element p m.element)

-- the kind that a name stands for
abbrev pub kind_named : Program → List ℕ → Option ℕ
kind_named p name = option_map kind_number (parts_named p (meaning_of name))
