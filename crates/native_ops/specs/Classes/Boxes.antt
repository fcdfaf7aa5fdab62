-- The classes of single values: what their methods have in common. The value of a box is its first field.
use Rattle.std.specs.Prelude.{ℕ, ◌+◌, ◌-◌, ◌==◌, ℤ, pos, negsuc, Bool, [], ◌∷◌, Option, Some, None, nat_le, if◌then◌else◌}
use Rattle.std.specs.Option.{option_map_or}
use Rattle.heap_objects.specs.declared.datum.Datum.{Datum}
use Rattle.native_effects.specs.declared.effects.effect.NativeEffect.{NativeEffect}
use Rattle.native_effects.specs.declared.effects.effect.NativeEffect.TheVariants.{MakesInstance, GivesBox}
use Rattle.native_effects.specs.Inputs.Numbers.{number_format_exception, class_cast_exception, null_pointer_exception}
use Rattle.native_effects.specs.Effects.Answers.{gives_int, gives_long, throws}

-- The place of a value among those whose box is made once: from -128 to 127, counted from 0.
abbrev pub small_place : ℤ → Option ℕ
small_place (pos n) = if nat_le n 127 then Some (128 + n) else None
small_place (negsuc n) = if nat_le n 127 then Some (127 - n) else None

-- of a char, those up to 127
abbrev pub char_place : ℕ → Option ℕ
char_place c = if nat_le c 127 then Some c else None

-- the box that is made once for the value at this place, or a new one
abbrev pub box_of : ℕ → Option ℕ → Datum → NativeEffect
box_of kind place value = option_map_or (λ p. GivesBox kind p value) place (MakesInstance kind (value ∷ []))

-- the number that was read
abbrev pub gives_parsed_int : Option ℤ → NativeEffect
gives_parsed_int number = option_map_or gives_int number (throws number_format_exception)

abbrev pub gives_parsed_long : Option ℤ → NativeEffect
gives_parsed_long number = option_map_or gives_long number (throws number_format_exception)

-- what compareTo gives, where the argument is a box of the class
abbrev pub compared_if : ℕ → Bool → ℤ → NativeEffect
compared_if other same comparison =
    if other == 0 then throws null_pointer_exception else
    if same then gives_int comparison else throws class_cast_exception
