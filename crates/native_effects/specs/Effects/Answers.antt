-- Effects that are nothing but an answer.
use Rattle.std.specs.Prelude.{ℕ, ◌==◌, ℤ, pos, Bool, Some, None, if◌then◌else◌}
use Rattle.heap_objects.specs.declared.datum.Datum.TheVariants.{Int, Long, Ref}
use Rattle.native_effects.specs.declared.effects.answer.Answer.TheVariants.{Value, Throws}
use Rattle.native_effects.specs.declared.effects.effect.NativeEffect.{NativeEffect}
use Rattle.native_effects.specs.declared.effects.effect.NativeEffect.TheVariants.{Answers}
use Rattle.native_effects.specs.Inputs.Numbers.{null_pointer_exception}

abbrev pub gives_nothing : NativeEffect
gives_nothing = Answers (Value None)

abbrev pub gives_int : ℤ → NativeEffect
gives_int n = Answers (Value (Some (Int n)))

abbrev pub gives_long : ℤ → NativeEffect
gives_long n = Answers (Value (Some (Long n)))

abbrev pub gives_boolean : Bool → NativeEffect
gives_boolean b = gives_int (if b then pos 1 else pos 0)

abbrev pub gives_reference : ℕ → NativeEffect
gives_reference r = Answers (Value (Some (Ref r)))

-- an exception of the built-in class at this place
abbrev pub throws : ℕ → NativeEffect
throws class = Answers (Throws class)

-- what is done where an argument is not null
abbrev pub unless_null : ℕ → NativeEffect → NativeEffect
unless_null argument effect = if argument == 0 then throws null_pointer_exception else effect
