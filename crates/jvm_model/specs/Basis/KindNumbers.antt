-- Kinds of classes and arrays as numbers. A kind is the number d * 2 ^ 24 + b: d is how many dimensions there are, 0
-- for what is no array; b is the code of newarray for a primitive element, 16 and the place among the built-in classes,
-- or 256 and the position among the others, which stand before them.
use Rattle.std.specs.Prelude.{ℕ, ◌+◌, ◌-◌, ◌*◌, ◌/◌, ◌%◌, length, Option, Some, None, nat_lt, if◌then◌else◌}
use Rattle.const_pool.specs.BuiltIn.{built_in_names}
use Rattle.jvm_model.specs.declared.program.Program.{Program}

-- ---- classes as bases

-- how many classes stand before the built-in ones
abbrev pub user_count : Program → ℕ
user_count p = length p.classes - length built_in_names

abbrev pub base_of_class : Program → ℕ → ℕ
base_of_class p class = if nat_lt class (user_count p) then 256 + class else 16 + (class - user_count p)

-- the position of the class; a primitive element has none
abbrev pub class_of_base : Program → ℕ → Option ℕ
class_of_base p base =
    if nat_lt base 16 then None else
    if nat_lt base 256 then Some (user_count p + (base - 16)) else Some (base - 256)

-- ---- kinds

-- the kinds from this number on are arrays'
abbrev pub first_array : ℕ
first_array = 16777216

pub record KindParts : Type 0 where
  pub dimensions : ℕ
  pub base : ℕ

abbrev pub kind_number : KindParts → ℕ
kind_number k = k.dimensions * first_array + k.base

abbrev pub kind_parts : ℕ → KindParts
kind_parts kind = record { dimensions = kind / first_array; base = kind % first_array }
